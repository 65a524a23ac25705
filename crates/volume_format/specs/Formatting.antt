-- The state of a disk while it is formatted.
use Rattle.std.specs.Prelude.{◌≡◌, ◌≢◌, ◌⊎◌, ◌<◌, ℕ, zero, suc, ◌+◌, ◌*◌, false, List, [], length, slice_get, Some}
use Rattle.vol_numbers.specs.Block.{zero_block}
use Rattle.vol_numbers.specs.declared.block.Block.{Block}
use Rattle.vol_numbers.specs.Layout.{Layout, count_blocks, area_start}
use Rattle.disk_model.specs.Disk.{State, EachImage, written, synced, is_among, DuringWriteThrough}
use Rattle.root_switch.specs.Current.{selector_block}
use Rattle.volume_format.specs.Blocks.{count_block, index_block, inode_block, root_block}
use Rattle.volume_format.specs.Fresh.{IsFresh}

-- the first n count blocks are written
unfoldable pub with_counts : Layout → ℕ → State → State
with_counts g zero s = s
with_counts g (suc n) s = written (3 + 2 * n) (count_block g n) (with_counts g n s)

-- the inode block and the inode index are written
abbrev pub with_inodes : Layout → State → State
with_inodes g s = written (area_start g + 1) (index_block g) (written (area_start g) inode_block s)

-- the root is written and all of it is on the disk
abbrev pub with_root : Layout → State → State
with_root g s = synced (written 1 (root_block g) s)

-- the selector names slot 0, and nothing is unsynced
abbrev pub with_selector : State → State
with_selector s = synced (written 0 zero_block s)

-- nothing is unsynced, the selector is that of slot 0, and the volume is fresh
pub record IsFormatted (g : Layout) (s : State) : Type 0 where
  pub all_synced : s.unsynced ≡ []
  pub selector : slice_get s.contents 0 ≡ Some (selector_block 0)
  pub fresh : IsFresh g s.contents

-- all that a fresh volume has but the selector
pub record HasFreshBody (g : Layout) (image : List Block) : Type 0 where
  pub root : slice_get image 1 ≡ Some (root_block g)
  pub counts : (i : ℕ) → i < count_blocks g → slice_get image (3 + 2 * i) ≡ Some (count_block g i)
  pub inodes : slice_get image (area_start g) ≡ Some inode_block
  pub index : slice_get image (area_start g + 1) ≡ Some (index_block g)

-- the selector is written last: an image with another selector than before has all else
abbrev pub HasSelectorLast : Layout → List Block → List Block → Type 0
HasSelectorLast g before image = slice_get image 0 ≢ slice_get before 0 → HasFreshBody g image

-- there are as many blocks as before, the selector is as before, and it is unsynced only if it was
pub record KeepsSelector (before s : State) : Type 0 where
  pub as_long : length s.contents ≡ length before.contents
  pub same : slice_get s.contents 0 ≡ slice_get before.contents 0
  pub closed : is_among before.unsynced 0 ≡ false → is_among s.unsynced 0 ≡ false

-- the root is being written, or all is on the disk and the selector is being written
abbrev pub WritesRootFirst : Block → State → State → Type 0
WritesRootFirst root before s = DuringWriteThrough 1 root before s ⊎ DuringWriteThrough 0 zero_block (synced (written 1 root before)) s

-- a moment of a format: the selector isn't written yet, or each image has all else
abbrev pub IsMomentOfFormat : Layout → State → State → Type 0
IsMomentOfFormat g before s = KeepsSelector before s ⊎ ((length s.contents ≡ length before.contents) × EachImage (HasFreshBody g) s)
