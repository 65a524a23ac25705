-- What a check answers.
use Rattle.std.specs.Prelude.{◌≡◌, ◌<◌, ◌*◌, ℕ, false, All, List, length, replicate, Result, Ok, Err, None}
use Rattle.vol_numbers.specs.Layout.{count_blocks}
use Rattle.vol_numbers.specs.declared.block.Block.{Block}
use Rattle.block_format.specs.Root.{root_of, HasGeometry}
use Rattle.block_format.specs.declared.inode.Inode.{Inode}
use Rattle.root_switch.specs.Current.{current_slot, root_of_image}
use Rattle.count_pairs.specs.Homes.{blocks_in}
use Rattle.count_pairs.specs.Table.{IsKept}
use Rattle.op_log.specs.Record.{HasRecord}
use Rattle.held_list.specs.declared.held.Held.{Held as Directories}
use Rattle.tree_model.specs.Shape.{IsTree}
use Rattle.tree_model.specs.declared.command.Command.{Command}
use Rattle.volume_model.specs.Accepted.{Accepts}
use Rattle.volume_model.specs.Machine.{Stored}
use Rattle.volume_model.specs.Space.{free_blocks, metadata_blocks}
use Rattle.image_model.specs.Finds.{Finds, early_finding}
use Rattle.image_model.specs.Findings.{free_in}
use Rattle.image_model.specs.Seen.{seen}
use Rattle.image_model.specs.Stands.{Stands, layout_in}
use Rattle.node_table.specs.Held.{Nodes, HoldsNodes, AreDirectories}
use Rattle.name_check.specs.Seeing.{HoldsDirectories}
use Rattle.log_check.specs.Accepting.{HoldsATree}
use Rattle.log_check.specs.Holding.{AreNodes, HoldsEachTree, IsTableOf}
use Rattle.fs_check.specs.declared.checking.Summary.{Summary}
use Rattle.fs_check.specs.declared.examining.Examined.{Examined}
use Rattle.fs_check.specs.declared.fault.CheckFault.{CheckFault}
use Rattle.fs_check.specs.declared.fault.CheckFault.TheVariants.{Found, Device, OutOfMemory}

-- A finding is that of the image, which then stands for nothing.
abbrev pub IsFaultOf : List Block → CheckFault → Type 0
IsFaultOf image (Found f) = Finds image f × ((s : Stored) → ¬ Stands image s)
IsFaultOf image Device = Unit {0}
IsFaultOf image OutOfMemory = Unit {0}

-- The answer is P of the image, or such a fault.
abbrev pub IsVerdict : {T : Type 0} → List Block → (T → Type 0) → Result T CheckFault → Type 0
IsVerdict image P (Ok value) = P value
IsVerdict image P (Err fault) = IsFaultOf image fault

-- The image stands for something: the numbers are those of its used nodes, its records and its free blocks.
pub record IsSummed (image : List Block) (sum : Summary) : Type 0 where
  pub stored : Stored
  pub stands : Stands image stored
  pub nodes : sum.nodes ≡ length (seen image).nodes
  pub records : sum.records ≡ length stored.records
  pub free : sum.free ≡ free_blocks stored.layout stored.tree stored.places

-- The image stands for something, and what was loaded is that: the root, the counts in the homes that it names, the directories, the nodes of the tree, their
-- inodes, and the records.
pub record IsLoaded (image : List Block) (e : Examined) : Type 0 where
  pub stored : Stored
  pub stands : Stands image stored
  pub slot : e.current.slot ≡ current_slot image
  pub root : root_of e.current.body ≡ root_of_image image
  pub counts : e.counts.counts ≡ (seen image).kept
  pub kept : IsKept (blocks_in image) e.current.body.homes.bytes e.counts
  pub directories : HoldsDirectories (seen image) e.directories
  pub nodes : HoldsNodes e.nodes stored.tree
  pub inodes : (seen image).nodes ≡ e.inodes
  pub used : e.used ≡ length (seen image).nodes
  pub records : stored.records ≡ e.records
  pub free : e.free ≡ free_blocks stored.layout stored.tree stored.places
  pub metadata : e.metadata ≡ metadata_blocks stored.tree stored.places

-- What holds on every disk of this size: there is a root within its rules, each count block is there and untouched, the table has the nodes of the inodes,
-- each of its directories is one, it holds a tree, and that accepts the records.
pub record IsFit (size : ℕ) (e : Examined) : Type 0 where
  pub slot : e.current.slot < 2
  pub grammar : HasGeometry (root_of e.current.body)
  pub size_is : (root_of e.current.body).layout.blocks ≡ size
  pub long : length e.counts.counts ≡ 1024 * count_blocks (root_of e.current.body).layout
  pub untouched : e.counts.touched ≡ replicate (count_blocks (root_of e.current.body).layout) false
  pub free : e.free ≡ free_in (root_of e.current.body).layout e.counts.counts
  pub are : AreNodes e.inodes e.directories
  pub table : IsTableOf e.inodes e.directories e.nodes
  pub each_directory : AreDirectories e.nodes
  pub a_tree : HoldsATree e.nodes
  pub have_records : All HasRecord e.records
  pub accepted : (s : Stored) → IsTree s.tree → HoldsNodes e.nodes s.tree → Accepts e.free s.tree 0 e.records

-- ---- of private functions

-- Nothing is found in the image before the log. These are its nodes and its directories, and so many blocks are free.
pub record IsEarly (image : List Block) (nodes : List (ℕ × Inode)) (directories : List Directories) (free : ℕ) : Type 0 where
  pub none : early_finding image ≡ None
  pub nodes_are : (seen image).nodes ≡ nodes
  pub directories_are : HoldsDirectories (seen image) directories
  pub free_is : free ≡ free_in (layout_in image) (seen image).kept

-- The image stands for a tree that each table of these nodes and directories holds, and for these records, beside so many free blocks.
pub record StandsWith (image : List Block) (nodes : List (ℕ × Inode)) (directories : List Directories) (free : ℕ) (records : List Command) : Type 0 where
  pub stored : Stored
  pub stands : Stands image stored
  pub holds : (table : Nodes) → HoldsEachTree nodes directories table → HoldsNodes table stored.tree
  pub records_are : stored.records ≡ records
  pub free_is : free ≡ free_blocks stored.layout stored.tree stored.places

-- Each tree that a table of these nodes and directories holds accepts the records.
abbrev pub AreAccepted : List (ℕ × Inode) → List Directories → ℕ → List Command → Type 0
AreAccepted nodes directories free records = (table : Nodes) → IsTableOf nodes directories table → (s : Stored) → IsTree s.tree → HoldsNodes table s.tree → Accepts free s.tree 0 records
