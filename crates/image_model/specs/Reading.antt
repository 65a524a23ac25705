-- What can be read in the blocks of an image, from what is seen of it: files, directories and inodes.
use Rattle.std.specs.Prelude.{◌≡◌, ◌↔◌, ℕ, false, List, length, take, Some}
use Rattle.vol_numbers.specs.declared.block.Block.{Block}
use Rattle.root_switch.specs.Current.{root_of_image}
use Rattle.block_format.specs.declared.inode.Inode.TheVariants as inode
use Rattle.block_format.specs.declared.slot.Slot.{Slot}
use Rattle.block_tree.specs.Tree.{blocks_in}
use Rattle.tree_model.specs.Path.{Path}
use Rattle.tree_model.specs.Tree.{node_at}
use Rattle.tree_model.specs.declared.node.Content.TheVariants as content
use Rattle.volume_model.specs.Machine.{Stored}
use Rattle.image_model.specs.Met.{NoFaults}
use Rattle.image_model.specs.Nodes.{is_bad_directory}
use Rattle.image_model.specs.Planned.{IsSpelled}
use Rattle.image_model.specs.Seen.{seen}
use Rattle.image_model.specs.Slots.{inode_of, slots_of}
use Rattle.image_model.specs.Standing.{FileStands, DirectoryStands}
use Rattle.image_model.specs.Stands.{Stands}

-- each block has 4,096 bytes, as those of a disk have
abbrev pub HasWholeBlocks : List Block → Type 0
HasWholeBlocks image = (b : ℕ) → length (blocks_in image b) ≡ 4096

-- The image has this file: below its inode, each block has the bytes of its place, and a place without a block is one of zeros.
pub record HasFile (image : List Block) (n : ℕ) (bytes : List ℕ) : Type 0 where
  pub height : ℕ
  pub ptr : ℕ
  pub is : inode_of (seen image).nodes n ≡ inode.File (length bytes) height ptr
  pub stands : FileStands (blocks_in image) bytes height ptr

-- The image has a directory of this width: below its inode, blocks spell its slots that are seen.
pub record HasDirectory (image : List Block) (n width : ℕ) : Type 0 where
  pub height : ℕ
  pub ptr : ℕ
  pub is : inode_of (seen image).nodes n ≡ inode.Directory width height ptr
  pub wide : length (take width (slots_of (seen image) n)) ≡ width
  pub stands : DirectoryStands (blocks_in image) (take width (slots_of (seen image) n)) height ptr

-- An image has each file of the tree that it stands for.
abbrev pub FilesStand : Type 0
FilesStand = (image : List Block) (s : Stored) (path : Path) (n : ℕ) (bytes : List ℕ) → Stands image s → node_at s.tree path ≡ Some (record { number = n; content = content.File bytes }) → HasFile image n bytes

-- An image has each directory of the tree that it stands for.
abbrev pub DirectoriesStand : Type 0
DirectoriesStand = (image : List Block) (s : Stored) (path : Path) (n width : ℕ) → Stands image s → node_at s.tree path ≡ Some (record { number = n; content = content.Directory width }) → HasDirectory image n width

-- Where no fault is met, a directory isn't bad exactly where the blocks below its inode spell slots of its width.
abbrev pub DirectoryIsTested : Type 0
DirectoryIsTested = (image : List Block) (n width height ptr : ℕ) → NoFaults (seen image).met → inode_of (seen image).nodes n ≡ inode.Directory width height ptr
    → (is_bad_directory (seen image) (n, inode.Directory width height ptr) ≡ false) ↔ ((slots : List Slot) × (length slots ≡ width) × DirectoryStands (blocks_in image) slots height ptr)

-- Where each block is whole, an image that stands for something is spelled with the inodes that are seen.
abbrev pub SeenIsSpelled : Type 0
SeenIsSpelled = (image : List Block) (s : Stored) → HasWholeBlocks image → Stands image s → IsSpelled (blocks_in image) (root_of_image image).inode_index (inode_of (seen image).nodes)
