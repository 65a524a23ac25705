-- The pages of directories at the last point.
use Rattle.std.specs.Prelude.{◌≡◌, ◌<◌, ℕ, ◌==◌, false, List, length, take}
use Rattle.vol_numbers.specs.declared.block.Block.{Block}
use Rattle.block_format.specs.declared.inode.Inode.TheVariants.{Directory}
use Rattle.block_format.specs.declared.slot.Slot.{Slot}
use Rattle.block_tree.specs.Tree.{Blocks, blocks_in, block_below}
use Rattle.dir_slots.specs.Pages.{IsPage, pages_for}
use Rattle.image_model.specs.Seen.{seen}
use Rattle.image_model.specs.Slots.{slots_of as slots_seen}
use Rattle.point_model.specs.Holding.{inode_before}

-- Each page of so many slots is there, and spells its slots.
pub record PagesStand (read : Blocks) (slots : List Slot) (height ptr : ℕ) : Type 0 where
  pub there : (place : ℕ) → place < pages_for (length slots) → (block_below read height ptr place == 0) ≡ false
  pub spelled : (place : ℕ) → place < pages_for (length slots) → IsPage slots place (read (block_below read height ptr place))

-- That is so of each directory of an image.
abbrev pub DirectoriesStand : List Block → Type 0
DirectoriesStand image = (n width height ptr : ℕ) → inode_before image n ≡ Directory width height ptr → PagesStand (blocks_in image) (take width (slots_seen (seen image) n)) height ptr
