-- What staging a change does.
use Rattle.std.specs.Prelude.{◌≡◌, List}
use Rattle.vol_numbers.specs.Geometry.{layout_of}
use Rattle.vol_numbers.specs.declared.block.Block.{Block}
use Rattle.place_read.specs.Holding.{HoldsFiles}
use Rattle.point_model.specs.Holding.{HoldsMachine}
use Rattle.point_model.specs.NodeChanges.{IsTableOf}
use Rattle.tree_model.specs.declared.command.Command.{Command}
use Rattle.volume_model.specs.Done.{done}
use Rattle.volume_model.specs.Machine.{Machine, Rules}
use Rattle.volume_core.specs.Memory.{Memory}

-- An image of the last point and the memory hold what the machine does, whatever records the log has.
pub record HoldsNow (r : Rules) (m : Machine) (image : List Block) (v : Memory) : Type 0 where
  pub files : HoldsFiles r m image v.state.inodes v.state.dirty.overlay
  pub layout : m.layout ≡ layout_of v.state.geometry
  pub table : IsTableOf image v.state.dirty.overlay v.nodes

-- Image and memory hold the machine after a command.
pub record IsStaged (m : Machine) (command : Command) (image : List Block) (v : Memory) : Type 0 where
  pub machine : HoldsMachine image v.state.dirty.overlay (done m command)
  pub table : IsTableOf image v.state.dirty.overlay v.nodes
