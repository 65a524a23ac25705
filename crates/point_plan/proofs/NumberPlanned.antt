-- What is planned of one number, by what memory has of it.
use Rattle.std.proofs.Common.{◌≡◌, ◌<◌, ℕ, cond, List, [], take, Option, Some, None, refl, sym, ap, subst, ◌∙◌}
use Rattle.std.specs.Prelude.{◌==◌, All, MatchOption}
use Rattle.std.proofs.Common.{Bor}
use Rattle.std.specs.Option.{option_copied}
use Rattle.std.proofs.lemmas.List.Elements.{All-weaker}
use Rattle.vol_numbers.specs.declared.block.Block.{Block}
use Rattle.vol_numbers.specs.declared.runs.Change.{Change}
use Rattle.block_format.specs.Inode.{blocks_of}
use Rattle.block_format.specs.declared.inode.Inode.{Inode}
use Rattle.block_format.specs.declared.inode.Inode.TheVariants.{Unused, File, Directory}
use Rattle.block_format.specs.declared.slot.Slot.{Slot}
use Rattle.dirty_store.specs.Laws.{dirty_spots}
use Rattle.dirty_store.specs.Overlay.{node_of, least_cut}
use Rattle.held_list.specs.Held.{slots_at}
use Rattle.image_model.specs.Seen.{seen}
use Rattle.image_model.specs.Slots.{slots_of as slots_seen}
use Rattle.inode_file.specs.Inodes.{inode_of}
use Rattle.node_plan.specs.Nodes.{IsAtPoint, node_over, slots_over}
use Rattle.tree_plan.specs.Pages.{slots_or_none, slot_with, width_with}
use Rattle.point_model.specs.Holding.{inode_before, staged_or, slots_from, slots_left, as_node, node_now, width_in}
use Rattle.point_plan.specs.PlanNodes.{AreAtDirty}
use Rattle.point_plan.specs.State.{HoldsPoint, IsStagedWithin, inode_in, left_in, slots_in, node_in, slots_before, size_in}
use Rattle.point_plan.specs.declared.state.PointState.{PointState}
use Rattle.volume_model.specs.Machine.{Machine, Rules}

-- ---- what memory has

-- the slots that a look-up found
pub found_slots : (found : Option (Bor (List Slot))) (told : Option (List Slot)) → MatchOption found (told ≡ None) (λ slots. told ≡ Some slots.now) → slots_or_none (option_copied found) ≡ slots_or_none told
found_slots None told is = ap slots_or_none (sym is)
found_slots (Some slots) told is = ap slots_or_none (sym is)

-- the slots of the image are those that are seen, up to the width
abbrev slots_by : List Slot → Inode → Option (List Slot)
slots_by seen Unused = None
slots_by seen (File size height ptr) = None
slots_by seen (Directory width height ptr) = Some (take width seen)

slots_up_to : (seen : List Slot) (x : Inode) → slots_or_none (slots_by seen x) ≡ take (width_in x) seen
slots_up_to seen Unused = refl
slots_up_to seen (File size height ptr) = refl
slots_up_to seen (Directory width height ptr) = refl

pub image_slots : (old : List Block) (n : ℕ) → slots_or_none (slots_before old n) ≡ take (width_in (inode_before old n)) (slots_seen (seen old) n)
image_slots old n = slots_up_to (slots_seen (seen old) n) (inode_before old n)

module _ (s : PointState) (n : ℕ) (was : Inode) (before : List Slot) (is_was : was ≡ inode_of s.inodes.inodes n) (is_before : before ≡ slots_or_none (slots_at s.directories n)) where
  pub inode_is : staged_or (node_of s.dirty.overlay n) was ≡ inode_in s n
  inode_is = ap (staged_or (node_of s.dirty.overlay n)) is_was

  pub slots_are : slots_over s.dirty.overlay n before ≡ slots_in s n
  slots_are = ap (slots_over s.dirty.overlay n) is_before

  pub node_is : node_over s.dirty.overlay n was before ≡ node_in s n
  node_is = λ i. node_over s.dirty.overlay n (is_was i) (is_before i)

  -- with the image that it is of, it is what the image has
  pub at_point : (r : Rules) (m : Machine) (old : List Block) → HoldsPoint r m old s → IsAtPoint r old s.dirty.overlay m n was before
  at_point r m old holds = record {
    stands = holds.stands;
    coherent = holds.coherent;
    holds = holds.staged;
    inode = was_before;
    slots = is_before ∙ ap slots_or_none (holds.directories n) ∙ image_slots old n ∙ ap (λ (x : Inode). take (width_in x) (slots_seen (seen old) n)) (sym was_before);
  }
    where
      was_before : was ≡ inode_before old n
      was_before = is_was ∙ holds.nodes n

  -- changes at dirty places are below the size
  pub places_below : IsStagedWithin s → (changes : List Change) → AreAtDirty (dirty_spots s.dirty.overlay) n changes → All (λ (c : Change). c.place < blocks_of (size_in (staged_or (node_of s.dirty.overlay n) was))) changes
  places_below staged changes dirty = All-weaker _ _ (λ (c : Change) has. subst (λ (x : Inode). c.place < blocks_of (size_in x)) (sym inode_is) (staged.places (n, c.place) has)) changes dirty

-- what memory has of a number is what the image and the overlay have
pub node_held : (r : Rules) (m : Machine) (old : List Block) (s : PointState) → HoldsPoint r m old s → (n : ℕ) → node_in s n ≡ node_now old s.dirty.overlay n
node_held r m old s holds n = λ i.
    as_node (staged_or (node_of s.dirty.overlay n) (holds.nodes n i)) (slots_from (slot_with (left i) s.dirty.overlay n) 0 (width_with (left i) s.dirty.overlay n))
  where
    left : left_in s n ≡ slots_left old s.dirty.overlay n
    left = ap (λ (ss : List Slot). cond (least_cut (node_of s.dirty.overlay n) == 0) [] ss) (ap slots_or_none (holds.directories n) ∙ image_slots old n)
