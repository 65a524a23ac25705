-- What a volume has in memory, and how it goes with a disk.
use Rattle.std.specs.Prelude.{◌≡◌, ℕ, Bool, false}
use Rattle.disk_model.specs.Disk.{State}
use Rattle.consistency_point.specs.Taking.{IsHeld}
use Rattle.node_table.specs.Held.{Nodes, HoldsNodes, AreDirectories, held}
use Rattle.point_plan.specs.State.{IsOfSize, node_in}
use Rattle.point_plan.specs.declared.state.PointState.{PointState}
use Rattle.space_account.specs.Charge.{pending}
use Rattle.tree_model.specs.Shape.{IsTree}
use Rattle.tree_model.specs.Tree.{Tree}
use Rattle.volume_model.specs.Machine.{Machine, Rules, free_of}

-- A volume as contracts see it: what it has of the last point and has staged since, the nodes as they are now, how many blocks the commands
-- since the point may cost, how many blocks are free, and whether a write or a sync has failed.
pub record Memory : Type 0 where
  pub state : PointState
  pub nodes : Nodes
  pub pending : ℕ
  pub free : ℕ
  pub is_failed : Bool

-- the table holds some tree
pub record HoldsSomeTree (nodes : Nodes) : Type 0 where
  pub tree : Tree
  pub is_tree : IsTree tree
  pub holds : HoldsNodes nodes tree

-- On every disk: the memory is of one volume with so many blocks. The table has what the rest of the memory has of each number, each of
-- its directories is one, and it holds some tree.
pub record IsFitting (blocks : ℕ) (v : Memory) : Type 0 where
  pub size : IsOfSize blocks v.state
  pub table : (n : ℕ) → held v.nodes n ≡ node_in v.state n
  pub directories : AreDirectories v.nodes
  pub tree : HoldsSomeTree v.nodes

-- the memory is of one volume
abbrev pub FitsSome : Memory → Type 0
FitsSome v = (blocks : ℕ) × IsFitting blocks v

-- Where the disk tells what it holds: no write has failed, disk and memory hold the machine, and what is pending and what is free are the machine's.
pub record IsIn (r : Rules) (m : Machine) (s : State) (v : Memory) : Type 0 where
  pub alive : v.is_failed ≡ false
  pub holds : IsHeld r m s v.state
  pub pending : v.pending ≡ pending m.records
  pub free : v.free ≡ free_of m

-- they hold some machine
pub record IsInSome (s : State) (v : Memory) : Type 0 where
  pub rules : Rules
  pub machine : Machine
  pub is : IsIn rules machine s v
