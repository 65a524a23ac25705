-- The blocks of a volume as a format leaves it.
use Rattle.std.specs.Prelude.{◌≡◌, ◌<◌, ℕ, ◌+◌, ◌*◌, List, length, slice_get, Some}
use Rattle.vol_numbers.specs.Layout.{Layout, count_blocks, area_start}
use Rattle.vol_numbers.specs.declared.block.Block.{Block}
use Rattle.block_format.specs.Root.{HasGeometry}
use Rattle.root_switch.specs.Current.{current_slot}
use Rattle.image_model.specs.Fresh.{fresh_root}
use Rattle.volume_format.specs.Blocks.{count_block, index_block, inode_block, root_block}

-- The image is a volume of this layout whose tree is the empty root directory: slot 0 is current, and its root, the counts, the inode
-- block and the inode index are those of a fresh volume.
pub record IsFresh (g : Layout) (image : List Block) : Type 0 where
  pub as_long : length image ≡ g.blocks
  pub slot : current_slot image ≡ 0
  pub root : slice_get image 1 ≡ Some (root_block g)
  pub geometry : HasGeometry (fresh_root g)
  pub counts : (i : ℕ) → i < count_blocks g → slice_get image (3 + 2 * i) ≡ Some (count_block g i)
  pub inodes : slice_get image (area_start g) ≡ Some inode_block
  pub index : slice_get image (area_start g + 1) ≡ Some (index_block g)
