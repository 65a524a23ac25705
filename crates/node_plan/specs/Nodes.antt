-- A node where a point is taken, from its inode and its slots at the last point and from what is staged of it.
use Rattle.std.specs.Prelude.{◌≡◌, ◌<◌, ◌≤◌, ℕ, ◌+◌, ◌==◌, if◌then◌else◌, Bool, false, IsTrue, List, [], length, take, option_map, Option}
use Rattle.vol_numbers.specs.declared.block.Block.{Block}
use Rattle.vol_numbers.specs.declared.runs.Change.{Change}
use Rattle.vol_numbers.specs.declared.runs.Page.{Page}
use Rattle.block_format.specs.Inode.{inode_shape, pointer_of}
use Rattle.block_format.specs.declared.inode.Inode.{Inode}
use Rattle.block_format.specs.declared.inode.Inode.TheVariants.{Unused, File, Directory}
use Rattle.block_format.specs.declared.slot.Slot.{Slot}
use Rattle.block_tree.specs.Edit.{leaves_of}
use Rattle.block_tree.specs.Notes.{Stand, page_blocks, change_blocks}
use Rattle.block_tree.specs.Root.{tree_indexes}
use Rattle.block_tree.specs.Tree.{blocks_in}
use Rattle.dir_slots.specs.Pages.{pages_for}
use Rattle.dirty_store.specs.Overlay.{Overlay, node_of, least_cut}
use Rattle.image_model.specs.Planned.{height_in}
use Rattle.image_model.specs.Seen.{seen}
use Rattle.image_model.specs.Slots.{slots_of as slots_seen}
use Rattle.image_model.specs.Stands.{Stands}
use Rattle.node_table.specs.Held.{info}
use Rattle.node_table.specs.declared.held.HeldNode.{HeldNode}
use Rattle.place_words.specs.Different.{different, is_among, times}
use Rattle.point_model.specs.Holding.{HoldsMachine, inode_before, staged_or, width_in, slots_from, as_node}
use Rattle.point_model.specs.NodePlan.{AreOfPlaces, node_metas}
use Rattle.point_model.specs.PointPlan.{LiveStays, NodeIsPlanned, told}
use Rattle.state_laws.specs.States.{IsCoherent}
use Rattle.volume_model.specs.Machine.{Machine, Rules, stored}
use Rattle.volume_model.specs.Places.{Places}
use Rattle.tree_plan.specs.Pages.{slot_with, width_with, written_pages}
use Rattle.tree_plan.specs.Trees.{root_of, Carries, IsTop}
use Rattle.tree_plan.specs.declared.plan.TreePlan.{TreePlan}

-- ---- what a number is now, whatever the disk

-- the slots that a number has left of the last point, none where it was cut to no block since
abbrev pub left_after : Overlay → ℕ → List Slot → List Slot
left_after o n before = if least_cut (node_of o n) == 0 then [] else before

-- the slots of a number now
abbrev pub slots_over : Overlay → ℕ → List Slot → List Slot
slots_over o n before = slots_from (slot_with (left_after o n before) o n) 0 (width_with (left_after o n before) o n)

-- what a number is now
abbrev pub node_over : Overlay → ℕ → Inode → List Slot → Option HeldNode
node_over o n was before = as_node (staged_or (node_of o n) was) (slots_over o n before)

-- a file's size, and 0 of any other
abbrev pub size_in : Inode → ℕ
size_in Unused = 0
size_in (File size height ptr) = size
size_in (Directory width height ptr) = 0

-- how many blocks are enough, whatever the old tree: for a file a leaf for each leaf that is changed and three more, and for a directory its pages and seven more
abbrev pub need_of : ℕ → ℕ → Inode → ℕ
need_of leaves pages Unused = 0
need_of leaves pages (File size height ptr) = leaves + 3
need_of leaves pages (Directory width height ptr) = pages + 7

-- the same, of a number with these changes
abbrev pub rough_need : Overlay → ℕ → Inode → List Slot → List Change → ℕ
rough_need o n was before changes = need_of (different (leaves_of changes)) (length (written_pages (left_after o n before) o n)) (staged_or (node_of o n) was)

-- ---- where the disk tells

-- The old image stands for what the machine stores, it and the overlay hold what the machine does, and the inode and the slots are those that it has of the number.
pub record IsAtPoint (r : Rules) (old : List Block) (o : Overlay) (m : Machine) (n : ℕ) (was : Inode) (before : List Slot) : Type 0 where
  pub stands : Stands old (stored m)
  pub coherent : IsCoherent r m
  pub holds : HoldsMachine old o m
  pub inode : was ≡ inode_before old n
  pub slots : before ≡ take (width_in was) (slots_seen (seen old) n)

-- The number is planned, with the changes of its dirty places, in each image in which the pages stand, and the live blocks as they were.
abbrev pub PlansNode : List Block → Overlay → ℕ → Inode → List Slot → List Change → Inode → List ℕ → List ℕ → List Page → Type 0
PlansNode old o n was before changes is added dropped pages = (r : Rules) (m : Machine) → IsAtPoint r old o m n was before
    → (placed : Places) → AreOfPlaces m.dirty placed n changes → (new : List Block) → LiveStays old new → Stand pages (blocks_in new)
    → NodeIsPlanned old new o m placed n is added dropped (page_blocks pages)

-- the metadata of a node are its index blocks, and the pages of a directory
abbrev pub HasMetas : List Block → ℕ → Inode → Type 0
HasMetas image n inode = length (node_metas image n inode) ≡ length (tree_indexes (blocks_in image) (root_of inode)) + pages_for (width_in inode)

-- What is planned of the tree of a number, for private functions: the inode is in shape and of the kind of now, and what comes leads to a page or to the block of
-- a change, and no more often. Where the disk tells, the number is planned, its metadata are its index blocks and its pages, the metadata is at least the pages,
-- and a top index is a page's or the old one.
pub record IsTreePlanned (tells : Bool) (old : List Block) (o : Overlay) (n : ℕ) (was : Inode) (before : List Slot) (changes : List Change) (p : TreePlan) : Type 0 where
  pub shape : IsTrue (inode_shape p.inode)
  pub kind : told p.inode ≡ option_map info (node_over o n was before)
  pub used : (b : ℕ) → times b p.added ≤ times b (page_blocks p.pages) + times b (change_blocks changes)
  pub planned : IsTrue tells → PlansNode old o n was before changes p.inode p.added p.dropped p.pages
  pub metas : IsTrue tells → (r : Rules) (m : Machine) → IsAtPoint r old o m n was before → (new : List Block) → LiveStays old new → Stand p.pages (blocks_in new) → HasMetas new n p.inode
  pub at_most : IsTrue tells → (new : List Block) → Carries old new was p.pages → length (page_blocks p.pages) ≤ length (node_metas new n p.inode)
  pub top : IsTrue tells → height_in p.inode ≡ 2 → 0 < pointer_of p.inode → is_among (page_blocks p.pages) (pointer_of p.inode) ≡ false → IsTop was (pointer_of p.inode)
