-- Of private functions: what the walk has left for the phases behind it.
use Rattle.std.specs.Prelude.{◌≡◌, ℕ, true, map}
use Rattle.place_words.specs.Rising.{Rising}
use Rattle.block_tree.specs.Tree.{Blocks}
use Rattle.image_model.specs.Seen.{Seen}
use Rattle.image_model.specs.Slots.{inode_of}
use Rattle.image_model.specs.Walk.{is_directory}
use Rattle.image_walk.specs.Blocks.{AreOnDisk, NeverFall, blocks_held}
use Rattle.image_walk.specs.Left.{AreWithin, HasOwners, HaveWidths, SeesEnds}
use Rattle.image_walk.specs.Marks.{Says}
use Rattle.image_walk.specs.declared.walked.Walked.{Walked}

-- On every disk: nodes and blocks come by number, sizes and widths are within their limits, number 1 is a directory, and blocks are on a disk of this size.
pub record IsLeft (size : ℕ) (w : Walked) : Type 0 where
  pub numbers : Rising 1 (map (λ node. node.0) w.nodes)
  pub within : AreWithin w.nodes
  pub widths : HaveWidths w.nodes
  pub root : is_directory (inode_of w.nodes 1) ≡ true
  pub page_order : NeverFall w.pages
  pub last_order : NeverFall w.lasts
  pub pages : AreOnDisk size w.pages
  pub lasts : AreOnDisk size w.lasts

-- What the walk has left is what is seen.
pub record IsSeen (read : Blocks) (w : Walked) (s : Seen) : Type 0 where
  pub nodes : s.nodes ≡ w.nodes
  pub marks : Says w.marks s.met
  pub pages : s.pages ≡ blocks_held read w.pages
  pub ends : SeesEnds read w.lasts s
  pub owners : HasOwners s
