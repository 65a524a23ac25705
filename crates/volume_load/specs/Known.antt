-- Of private functions: the inodes that a check has left.
use Rattle.std.specs.Prelude.{◌≡◌, ℕ, List, All, Contains, Result, Ok, Err}
use Rattle.vol_numbers.specs.Layout.{Layout}
use Rattle.vol_numbers.specs.declared.block.Block.{Block}
use Rattle.block_format.specs.Index.{IsInArea}
use Rattle.block_format.specs.Root.{root_of}
use Rattle.block_format.specs.declared.inode.Inode.{Inode}
use Rattle.block_format.specs.declared.root.RootBody.{RootBody}
use Rattle.block_tree.specs.declared.fault.TreeFault.{TreeFault}
use Rattle.block_tree.specs.declared.fault.TreeFault.TheVariants as trees
use Rattle.dirty_store.specs.Undo.{Store}
use Rattle.fs_check.specs.declared.examining.Examined.{Examined}
use Rattle.fs_check.specs.declared.fault.CheckFault.{CheckFault}
use Rattle.fs_check.specs.declared.fault.CheckFault.TheVariants.{Found, Device, OutOfMemory}
use Rattle.image_model.specs.Seen.{seen}
use Rattle.image_model.specs.Slots.{inode_of as inode_among}
use Rattle.image_model.specs.Stands.{Stands}
use Rattle.image_model.specs.declared.finding.Finding.TheVariants.{BadPointer}
use Rattle.inode_file.specs.Inodes.{InodeTable, inode_of}
use Rattle.inode_file.specs.Loading.{IsWhole}
use Rattle.root_switch.specs.Current.{root_of_image}
use Rattle.volume_model.specs.Machine.{Stored}
use Rattle.volume_load.specs.declared.loading.Loaded.{Loaded}

-- each inode is in shape, and points to no block or to one of the area
abbrev pub AreWhole : Layout → List (ℕ × Inode) → Type 0
AreWhole g nodes = All (λ node. IsWhole g node.1) nodes

-- one of the nodes has this number, and its inode isn't so
pub record IsOutside (g : Layout) (nodes : List (ℕ × Inode)) (n : ℕ) : Type 0 where
  pub inode : Inode
  pub among : Contains nodes (n, inode)
  pub outside : ¬ IsWhole g inode

-- The inode index is a block of the area, and the inodes are whole.
pub record AreSound (g : Layout) (index : ℕ) (nodes : List (ℕ × Inode)) : Type 0 where
  pub index_in : IsInArea g index
  pub whole : AreWhole g nodes

-- the inodes of all numbers are those of these nodes, and unused where it is none of them
abbrev pub HasInodes : List (ℕ × Inode) → List Inode → Type 0
HasInodes nodes inodes = (n : ℕ) → inode_of inodes n ≡ inode_among nodes n

-- The image stands for something, and has this root and these inodes.
pub record IsOfImage (image : List Block) (body : RootBody) (nodes : List (ℕ × Inode)) : Type 0 where
  pub stored : Stored
  pub stands : Stands image stored
  pub root : root_of body ≡ root_of_image image
  pub inodes : (seen image).nodes ≡ nodes

-- it is no finding
abbrev pub IsNoFinding : CheckFault → Type 0
IsNoFinding (Found f) = ⊥
IsNoFinding Device = Unit {0}
IsNoFinding OutOfMemory = Unit {0}

-- no finding is answered
abbrev pub FindsNothing : {T : Type 0} → Result T CheckFault → Type 0
FindsNothing (Ok value) = Unit {0}
FindsNothing (Err fault) = IsNoFinding fault

-- what is answered where the inode index can't be loaded: a damaged index is one to which no pointer may lead
abbrev pub of_tree : TreeFault → CheckFault
of_tree trees.Device = Device
of_tree (trees.Damaged b) = Found (BadPointer b)
of_tree trees.OutOfMemory = OutOfMemory

-- What is made of all that a check has left: the last point, with such a store beside it.
abbrev pub made_of : Examined → InodeTable → Store → Loaded
made_of e inodes dirty = record {
  state = record {
    geometry = e.current.body.geometry;
    current = e.current;
    counts = e.counts;
    inodes = inodes;
    directories = e.directories;
    metadata = e.metadata;
    dirty = dirty;
  };
  nodes = e.nodes;
  records = e.records;
  free = e.free;
}
