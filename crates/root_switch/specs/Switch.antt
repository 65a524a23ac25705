-- What a switch of the root changes.
use Rattle.std.specs.Prelude.{◌≡◌, ◌≢◌, ◌⊎◌, ◌+◌, ◌-◌, ℕ, false, List, [], length, slice_get, Some}
use Rattle.vol_numbers.specs.declared.block.Block.{Block}
use Rattle.disk_model.specs.Disk.{State, is_among}
use Rattle.block_format.specs.declared.root.RootBody.{RootBody}
use Rattle.block_format.specs.Root.{root_of, root_bytes}
use Rattle.root_switch.specs.Current.{current_slot, current_root, selector_block}

-- the block that spells a root
abbrev pub spelled_root : RootBody → Block
spelled_root body = record { bytes = root_bytes (root_of body) }

-- this slot is current, and neither it nor the selector is unsynced
pub record IsCurrent (slot : ℕ) (s : State) : Type 0 where
  pub slot_is : current_slot s.contents ≡ slot
  pub selector_synced : is_among s.unsynced 0 ≡ false
  pub slot_synced : is_among s.unsynced (1 + slot) ≡ false

-- The image has the root of before, and each block that was synced, but for the selector and the other slot.
pub record HasOldRoot (before : State) (slot : ℕ) (image : List Block) : Type 0 where
  pub as_long : length image ≡ length before.contents
  pub root : current_root image ≡ current_root before.contents
  pub others : (k : ℕ) → k ≢ 0 → k ≢ 2 - slot → is_among before.unsynced k ≡ false → slice_get image k ≡ slice_get before.contents k

-- The image has the new root, and each block as it was before, but for the selector and the other slot: unsynced ones too.
pub record HasNewRoot (before : State) (slot : ℕ) (body : RootBody) (image : List Block) : Type 0 where
  pub as_long : length image ≡ length before.contents
  pub root : current_root image ≡ Some (spelled_root body)
  pub others : (k : ℕ) → k ≢ 0 → k ≢ 2 - slot → slice_get image k ≡ slice_get before.contents k

-- the old root, or the new one
abbrev pub OldOrNew : State → ℕ → RootBody → List Block → Type 0
OldOrNew before slot body image = HasOldRoot before slot image ⊎ HasNewRoot before slot body image

-- The new root is current, the selector is the one block that names its slot, and nothing is unsynced. No other block has changed.
pub record IsSwitched (before : State) (slot : ℕ) (body : RootBody) (after : State) : Type 0 where
  pub all_synced : after.unsynced ≡ []
  pub as_long : length after.contents ≡ length before.contents
  pub selector : slice_get after.contents 0 ≡ Some (selector_block (1 - slot))
  pub slot_is : current_slot after.contents ≡ 1 - slot
  pub root : current_root after.contents ≡ Some (spelled_root body)
  pub others : (k : ℕ) → k ≢ 0 → k ≢ 2 - slot → slice_get after.contents k ≡ slice_get before.contents k
