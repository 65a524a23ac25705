-- What an image stands for.
use Rattle.std.specs.Prelude.{◌≡◌, ℕ, zero, suc, ◌+◌, List, [], ◌++◌, length, take, map, replicate, Option, Some, None, option_and_then}
use Rattle.vol_numbers.specs.Layout.{Layout, log_start}
use Rattle.vol_numbers.specs.declared.block.Block.{Block}
use Rattle.root_switch.specs.Current.{root_of_image, HasRoot, FitsImage}
use Rattle.block_format.specs.Inode.{blocks_of}
use Rattle.block_format.specs.declared.inode.Inode.{Inode}
use Rattle.block_format.specs.declared.inode.Inode.TheVariants.{Unused, File, Directory}
use Rattle.tree_model.specs.Path.{Path}
use Rattle.tree_model.specs.Order.{IsOrdered}
use Rattle.tree_model.specs.Tree.{node_at}
use Rattle.tree_model.specs.declared.node.Node.{Node}
use Rattle.tree_model.specs.declared.node.Content.TheVariants as tree
use Rattle.op_log.specs.Log.{HoldsRecords, blocks_of as log_blocks_of}
use Rattle.volume_model.specs.Accepted.{Accepts}
use Rattle.volume_model.specs.Machine.{Stored}
use Rattle.volume_model.specs.Places.{Spot}
use Rattle.volume_model.specs.Space.{free_blocks}
use Rattle.image_model.specs.Slots.{held_at, inode_of, number_along}
use Rattle.image_model.specs.Seen.{Seen, SeenBlock, seen}
use Rattle.image_model.specs.Sound.{IsSound}

-- the layout that the root says
abbrev pub layout_in : List Block → Layout
layout_in image = (root_of_image image).layout

-- how many records the root says that the log has
abbrev pub records_in : List Block → ℕ
records_in image = (root_of_image image).records

-- how many log blocks the root says that they take
abbrev pub used_in : List Block → ℕ
used_in image = (root_of_image image).log_used

-- ---- the tree

-- the bytes of so many places from one on, with zeros in holes
abbrev pub bytes_from : List SeenBlock → ℕ → ℕ → ℕ → List ℕ
bytes_from held n place zero = []
bytes_from held n place (suc k) = take 4096 (held_at held n place ++ replicate 4096 0) ++ bytes_from held n (place + 1) k

-- the node of a number by its inode, with the bytes of a file
abbrev pub node_of : Seen → ℕ → Inode → Option Node
node_of s n Unused = None
node_of s n (File size height ptr) = Some (record { number = n; content = tree.File (take size (bytes_from s.contents n 0 (blocks_of size))) })
node_of s n (Directory width height ptr) = Some (record { number = n; content = tree.Directory width })

-- the node at a path
abbrev pub node_along : Seen → Path → Option Node
node_along s path = option_and_then (λ n. node_of s n (inode_of s.nodes n)) (number_along s 1 path)

-- a file's place, and its block
abbrev pub spot_of : SeenBlock → Spot × ℕ
spot_of h = ((h.number, h.place), h.block)

-- What is seen has this tree and these places.
pub record Shows (s : Seen) (stored : Stored) : Type 0 where
  pub ordered : IsOrdered stored.tree
  pub tree : (path : Path) → node_at stored.tree path ≡ node_along s path
  pub places : stored.places ≡ map spot_of s.contents

-- ---- the records

-- The log has as many records as the root says, they fill its used blocks, and they are accepted.
pub record Logs (image : List Block) (s : Stored) : Type 0 where
  pub count : length s.records ≡ records_in image
  pub logged : HoldsRecords image (log_start (layout_in image)) (used_in image) s.records
  pub filled : log_blocks_of s.records ≡ used_in image
  pub accepted : Accepts (free_blocks (layout_in image) s.tree s.places) s.tree 0 s.records

-- ---- all of it

-- The image stands for this: it has a root that fits it, what is seen of it is sound and shows the tree and the places, and the log has the records.
pub record Stands (image : List Block) (s : Stored) : Type 0 where
  pub root : HasRoot image
  pub fits : FitsImage image
  pub layout : s.layout ≡ layout_in image
  pub sound : IsSound (layout_in image) (seen image)
  pub shows : Shows (seen image) s
  pub logs : Logs image s
  pub point : s.point ≡ (root_of_image image).point
