-- What a test looks at before a point: that what is staged is within the rules of a volume.
use Rattle.std.specs.Prelude.{◌≡◌, ◌≢◌, ◌<◌, ◌≤◌, ℕ, true, List, Some, is_some}
use Rattle.std.specs.FinMap.{find}
use Rattle.block_format.specs.Inode.{blocks_of}
use Rattle.block_format.specs.Slot.{SlotFits}
use Rattle.block_format.specs.declared.slot.Slot.{Slot}
use Rattle.block_format.specs.declared.slot.Slot.TheVariants.{Entry}
use Rattle.dir_slots.specs.Slots.{IsDirectory, is_used, name_of, slot_of}
use Rattle.dirty_store.specs.Laws.{dirty_spots}
use Rattle.dirty_store.specs.Overlay.{Overlay}
use Rattle.point_plan.specs.State.{inode_in, size_in, slots_in}
use Rattle.point_plan.specs.declared.state.PointState.{PointState}
use Rattle.volume_model.specs.Places.{has_spot, spot_cmp}

-- An entry of a staged slot has a node's number and a valid name, no staged slot below it has that name, and where a slot that is left has it, that is
-- staged too.
pub record IsEntryWithin (left : List Slot) (o : Overlay) (n k number : ℕ) (name : List ℕ) : Type 0 where
  pub fits : SlotFits (Entry number name)
  pub apart : (j : ℕ) (other : Slot) → j < k → find spot_cmp (n, j) o.slots ≡ Some other → is_used other ≡ true → name_of other ≢ name
  pub moved : (j : ℕ) → slot_of left name ≡ Some j → is_some (find spot_cmp (n, j) o.slots) ≡ true

-- If an entry is staged in the slot, it is within the rules.
abbrev pub IsSlotWithin : List Slot → Overlay → ℕ → ℕ → Type 0
IsSlotWithin left o n k = (number : ℕ) (name : List ℕ) → find spot_cmp (n, k) o.slots ≡ Some (Entry number name) → IsEntryWithin left o n k number name

-- A number is a node's, its slots are a directory's, its dirty places are below its size, and its size is one of a file.
pub record IsNumberWithin (s : PointState) (n : ℕ) : Type 0 where
  pub node : (1 ≤ n) × (n ≤ 65535)
  pub directory : IsDirectory (slots_in s n)
  pub places : (p : ℕ) → has_spot (dirty_spots s.dirty.overlay) (n, p) ≡ true → p < blocks_of (size_in (inode_in s n))
  pub size : size_in (inode_in s n) ≤ 4294967296
