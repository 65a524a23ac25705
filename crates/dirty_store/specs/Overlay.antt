-- What the accepted commands since the last point have staged.
use Rattle.std.specs.Prelude.{ℕ, ◌+◌, ◌≤◌, ◌<◌, List, [], ◌∷◌, All, filter, map, max, min, nat_eq, if◌then◌else◌, Option, Some, None, IsTrue}
use Rattle.std.specs.Option.{ForSome}
use Rattle.std.specs.Ordering.{nat_cmp}
use Rattle.std.specs.FinMap.{find, put, is_sorted}
use Rattle.vol_numbers.specs.declared.block.Block.{Block}
use Rattle.block_format.specs.declared.inode.Inode.{Inode}
use Rattle.block_format.specs.declared.slot.Slot.{Slot}
use Rattle.volume_model.specs.Done.{Cut}
use Rattle.dirty_store.specs.declared.effect.Effect.{Effect}
use Rattle.dirty_store.specs.declared.effect.Touched.{Touched}
use Rattle.dirty_store.specs.declared.effect.SlotChange.{SlotChange}
use Rattle.dirty_store.specs.declared.node_change.NodeChange.{NodeChange}
use Rattle.dirty_store.specs.Entries.{Entries, AreKept, cut_at, uncut, all_put}

-- The dirty places with their blocks, what is staged of each node by its number, and the staged slots by directory and slot. Each is in order.
pub record Overlay : Type 0 where
  pub blocks : Entries Block
  pub nodes : List (ℕ × NodeChange)
  pub slots : Entries Slot

-- nothing is staged
abbrev pub clean : Overlay
clean = record { blocks = []; nodes = []; slots = [] }

-- Each part is in order, with each number or spot once, and within the greatest size.
pub record IsOverlay (o : Overlay) : Type 0 where
  pub blocks : AreKept o.blocks
  pub nodes : IsTrue (is_sorted nat_cmp o.nodes)
  pub slots : AreKept o.slots

-- within the greatest sizes of a file and a directory
pub record IsEffect (e : Effect) : Type 0 where
  pub cut : ForSome e.cut_to (λ blocks. blocks ≤ 1048576)
  pub touched : All (λ t. t.place < 1048576) e.touched
  pub slots : All (λ c. c.slot < 65534) e.slots

-- ---- look-ups

-- what is staged of a node
abbrev pub node_of : Overlay → ℕ → Option NodeChange
node_of o number = find nat_cmp number o.nodes

-- the least number of blocks that a cut has named, and the greatest that a node can have where there was none
abbrev pub least_cut : Option NodeChange → ℕ
least_cut None = 1048576
least_cut (Some node) = node.cut_to

-- the dirty places of a node
abbrev pub dirty_places : {T : Type 0} → Entries T → ℕ → List ℕ
dirty_places blocks number = map (λ e. e.0.1) (filter (λ e. nat_eq e.0.0 number) blocks)

-- one more than the greatest staged slot of a directory
abbrev pub width_of : {T : Type 0} → Entries T → ℕ → ℕ
width_of [] directory = 0
width_of (e ∷ es) directory = if nat_eq e.0.0 directory then max (e.0.1 + 1) (width_of es directory) else width_of es directory

-- ---- staging

-- what an effect cuts off its node
abbrev pub cut_of : Effect → Option Cut
cut_of e = cut_at e.number e.cut_to

-- only a cut to no block
abbrev pub whole : Option ℕ → Option ℕ
whole None = None
whole (Some blocks) = if nat_eq blocks 0 then Some blocks else None

-- the slots that an effect forgets: all, of a directory that is cut to no block
abbrev pub forgotten : Effect → Option Cut
forgotten e = cut_at e.number (whole e.cut_to)

abbrev pub touched_entries : ℕ → List Touched → Entries Block
touched_entries number touched = map (λ t. ((number, t.place), t.block)) touched

abbrev pub slot_entries : List SlotChange → Entries Slot
slot_entries changes = map (λ c. ((c.directory, c.slot), c.content)) changes

-- the least cut, with one more
abbrev pub lower_cut : Option NodeChange → Option ℕ → ℕ
lower_cut was None = least_cut was
lower_cut was (Some blocks) = min (least_cut was) blocks

-- The kind and size are the new ones, and the least cut goes on.
abbrev pub node_after : Inode → Option ℕ → Option NodeChange → NodeChange
node_after inode cut_to was = record { inode = inode; cut_to = lower_cut was cut_to }

-- The cut is made first, then the touched places and the slot changes, each list in its order.
abbrev pub staged : Overlay → Effect → Overlay
staged o e = record {
  blocks = all_put (touched_entries e.number e.touched) (uncut (cut_of e) o.blocks);
  nodes = put nat_cmp e.number (node_after e.inode e.cut_to (node_of o e.number)) o.nodes;
  slots = all_put (slot_entries e.slots) (uncut (forgotten e) o.slots);
}
