-- What a staging replaced, and how it is put back.
use Rattle.std.specs.Prelude.{ℕ, ◌+◌, ◌≤◌, List, length, Option, Some, None, IsSome}
use Rattle.std.specs.Ordering.{nat_cmp}
use Rattle.std.specs.FinMap.{put}
use Rattle.std.specs.Map.{remove_entry}
use Rattle.std.specs.BTreeMap.{is_at}
use Rattle.vol_numbers.specs.declared.block.Block.{Block}
use Rattle.block_format.specs.declared.slot.Slot.{Slot}
use Rattle.dirty_store.specs.declared.node_change.NodeChange.{NodeChange}
use Rattle.dirty_store.specs.Entries.{Entries, put_back, there}
use Rattle.dirty_store.specs.Overlay.{Overlay, node_of}

-- A store: what is staged, and how many dirty blocks and staged slots it holds without more memory.
pub record Store : Type 0 where
  pub overlay : Overlay
  pub block_room : ℕ
  pub slot_room : ℕ

-- What the node, the places and the slots of a staging had before it, in the order in which they changed.
pub record Replaced : Type 0 where
  pub number : ℕ
  pub node : Option NodeChange
  pub blocks : Entries (Option Block)
  pub slots : Entries (Option Slot)

-- with what a node had before
abbrev pub node_back : ℕ → Option NodeChange → List (ℕ × NodeChange) → List (ℕ × NodeChange)
node_back number None nodes = remove_entry (is_at (nat_cmp number)) nodes
node_back number (Some node) nodes = put nat_cmp number node nodes

-- all that was replaced is back
abbrev pub undone : Overlay → Replaced → Overlay
undone o r = record {
  blocks = put_back r.blocks o.blocks;
  nodes = node_back r.number r.node o.nodes;
  slots = put_back r.slots o.slots;
}

-- What was replaced can be put back without memory: there is room for it, and its node is staged.
pub record IsUndoable (h : Store) (r : Replaced) : Type 0 where
  pub blocks : length h.overlay.blocks + there r.blocks ≤ h.block_room
  pub slots : length h.overlay.slots + there r.slots ≤ h.slot_room
  pub node : IsSome (node_of h.overlay r.number)

-- no room is lost
pub record KeepsRoom (old new : Store) : Type 0 where
  pub blocks : old.block_room ≤ new.block_room
  pub slots : old.slot_room ≤ new.slot_room
