-- Laws of inode blocks, of what planning a number asks for beforehand, and of images that pages make.
use Rattle.std.specs.Prelude.{◌≡◌, ◌≤◌, ◌<◌, ℕ, ◌+◌, true, false, List, All, length, option_map, Some}
use Rattle.vol_numbers.specs.declared.block.Block.{Block}
use Rattle.vol_numbers.specs.declared.runs.Change.{Change}
use Rattle.vol_numbers.specs.declared.runs.Page.{Page}
use Rattle.block_format.specs.declared.inode.Inode.{Inode}
use Rattle.block_tree.specs.Edit.{leaves_of}
use Rattle.block_tree.specs.Notes.{Stand, page_blocks}
use Rattle.block_tree.specs.Tree.{blocks_in}
use Rattle.dirty_store.specs.Overlay.{Overlay}
use Rattle.image_model.specs.Live.{IsLive}
use Rattle.image_model.specs.Stands.{Stands}
use Rattle.inode_file.specs.Counting.{used_positions}
use Rattle.inode_file.specs.Inodes.{inode_of}
use Rattle.tree_plan.specs.Pages.{written_pages}
use Rattle.node_table.specs.Held.{info}
use Rattle.place_words.specs.Different.{different, is_among, total, Distinct}
use Rattle.place_words.specs.Rising.{Rising}
use Rattle.point_model.specs.Holding.{HoldsMachine, inode_before, inode_now, node_now, kind_of, slots_left}
use Rattle.point_model.specs.PointPlan.{told, LiveStays}
use Rattle.point_space.specs.Metadata.{node_metadata}
use Rattle.state_laws.specs.States.{IsCoherent}
use Rattle.tree_model.specs.Shape.{IsTree}
use Rattle.volume_model.specs.Machine.{Machine, Rules, Stored, free_of}
use Rattle.volume_model.specs.Places.{has_spot}
use Rattle.volume_model.specs.Short.{kept_and_dirty, is_short}
use Rattle.volume_model.specs.Space.{inode_blocks}

-- ---- inode blocks

-- Inodes that tell the kind and size of each number now have as many positions with a node as the tree has inode blocks.
abbrev pub InodeBlocksAre : Type 0
InodeBlocksAre = (r : Rules) (old : List Block) (o : Overlay) (m : Machine) (inodes : List Inode) → IsCoherent r m → HoldsMachine old o m
    → ((n : ℕ) → told (inode_of inodes n) ≡ option_map info (node_now old o n)) → inode_blocks m.tree ≡ used_positions inodes

-- So have the inodes of an image that stands for something.
abbrev pub OldInodeBlocksAre : Type 0
OldInodeBlocksAre = (old : List Block) (s : Stored) (inodes : List Inode) → Stands old s → ((n : ℕ) → inode_of inodes n ≡ inode_before old n) → inode_blocks s.tree ≡ used_positions inodes

-- ---- what is asked for beforehand

-- A file's dirty places touch at most as many leaves as it has index blocks after the point, or one where it needs none, and a directory
-- has at most its pages written. So what planning a number asks for beforehand is at most 8 more than its metadata after the point.
pub record NeedsAtMost (old : List Block) (o : Overlay) (m : Machine) (n : ℕ) (changes : List Change) : Type 0 where
  pub file : kind_of (inode_now old o n) ≡ Some false → different (leaves_of changes) + 3 ≤ node_metadata m.tree (kept_and_dirty m) n + 8
  pub directory : kind_of (inode_now old o n) ≡ Some true → length (written_pages (slots_left old o n) o n) + 7 ≤ node_metadata m.tree (kept_and_dirty m) n + 8

-- That is so where each change is of a dirty place.
abbrev pub RoughNeeds : Type 0
RoughNeeds = (r : Rules) (old : List Block) (o : Overlay) (m : Machine) (n : ℕ) (changes : List Change) → IsCoherent r m → HoldsMachine old o m
    → All (λ (c : Change). has_spot m.dirty (n, c.place) ≡ true) changes → NeedsAtMost old o m n changes

-- A point is short where its dirty places, the inode blocks, what some numbers have, each once, and 17 are together more than is free.
abbrev pub ShortWhere : Type 0
ShortWhere = (m : Machine) (ns : List ℕ) → IsTree m.tree → Rising 0 ns
    → free_of m < length m.dirty + (inode_blocks m.tree + total (node_metadata m.tree (kept_and_dirty m)) ns) + 17 → is_short m ≡ true

-- ---- images that pages make

-- an image in which pages stand, with the live blocks of the old one as they were
pub record HasPages (old : List Block) (pages : List Page) : Type 0 where
  pub new : List Block
  pub live : LiveStays old new
  pub stand : Stand pages (blocks_in new)

-- There is one wherever the pages are for blocks of the disk that aren't live, each once.
abbrev pub PagesMayStand : Type 0
PagesMayStand = (old : List Block) (pages : List Page) → Distinct (page_blocks pages) → All (λ b. b < length old) (page_blocks pages)
    → ((b : ℕ) → is_among (page_blocks pages) b ≡ true → IsLive old b → ⊥) → HasPages old pages
