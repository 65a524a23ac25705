-- A volume as a format leaves it.
use Rattle.std.specs.Prelude.{◌≡◌, ℕ, ◌+◌, ◌==◌, if◌then◌else◌, List, [], ◌∷◌, replicate}
use Rattle.vol_numbers.specs.Layout.{Layout, count_blocks, area_start}
use Rattle.vol_numbers.specs.declared.block.Block.{Block}
use Rattle.root_switch.specs.Current.{root_of_image, HasRoot, FitsImage}
use Rattle.block_format.specs.Root.{Root}
use Rattle.block_format.specs.Index.{index_bytes}
use Rattle.block_format.specs.declared.inode.Inode.{Inode}
use Rattle.block_format.specs.declared.inode.Inode.TheVariants.{Unused, Directory}
use Rattle.tree_model.specs.Tree.{new_tree}
use Rattle.volume_model.specs.Machine.{Stored}
use Rattle.image_model.specs.Planned.{CountsStand, inodes_bytes}
use Rattle.block_tree.specs.Tree.{blocks_in}

-- number 1 is an empty directory
abbrev pub fresh_inode : ℕ → Inode
fresh_inode n = if n == 1 then Directory 0 0 0 else Unused

-- One pointer leads to the inode block, which is the first block of the area, and one to the inode index behind it.
abbrev pub fresh_count : Layout → ℕ → ℕ
fresh_count g b = (if area_start g + 1 == b then 1 else 0) + (if area_start g == b then 1 else 0)

-- point 0, no records, and each count block in its first home
abbrev pub fresh_root : Layout → Root
fresh_root g = record { layout = g; point = 0; inode_index = area_start g + 1; records = 0; log_used = 0; homes = replicate 128 0 }

-- The image has such a root, counts of two blocks, and in these the inode index and the inode of the root directory.
pub record IsFresh (g : Layout) (image : List Block) : Type 0 where
  pub has_root : HasRoot image
  pub fits : FitsImage image
  pub root : root_of_image image ≡ fresh_root g
  pub counts : CountsStand (blocks_in image) (replicate 128 0) (fresh_count g) (count_blocks g)
  pub inodes : blocks_in image (area_start g) ≡ inodes_bytes fresh_inode 0 64
  pub index : blocks_in image (area_start g + 1) ≡ index_bytes (area_start g ∷ replicate 1023 0)

-- the root directory alone
abbrev pub fresh_stored : Layout → Stored
fresh_stored g = record { layout = g; tree = new_tree; places = []; records = []; point = 0 }
