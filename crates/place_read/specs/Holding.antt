-- What has to hold of memory and disk for a file to be read.
use Rattle.std.specs.Prelude.{◌≡◌, ℕ, List}
use Rattle.vol_numbers.specs.declared.block.Block.{Block}
use Rattle.dirty_store.specs.Overlay.{Overlay}
use Rattle.image_model.specs.Stands.{Stands}
use Rattle.inode_file.specs.Inodes.{InodeTable, inode_of}
use Rattle.point_model.specs.Holding.{HoldsMachine, inode_before}
use Rattle.state_laws.specs.States.{IsCoherent}
use Rattle.tree_model.specs.declared.command.Command.{Command}
use Rattle.volume_model.specs.Machine.{Machine, Rules, Stored}

-- what the disk keeps of a machine, with these commands in its log
abbrev pub stored_with : List Command → Machine → Stored
stored_with records m = record { layout = m.layout; tree = m.stored_tree; places = m.stored_places; records = records; point = m.point }

-- An image stands for what is stored of the machine, with some commands in its log: while a mount replays them, the machine has done
-- fewer. The inodes are those of the image, and with what is staged it holds what the machine does.
pub record HoldsFiles (r : Rules) (m : Machine) (image : List Block) (inodes : InodeTable) (o : Overlay) : Type 0 where
  pub records : List Command
  pub stands : Stands image (stored_with records m)
  pub coherent : IsCoherent r m
  pub staged : HoldsMachine image o m
  pub nodes : (n : ℕ) → inode_of inodes.inodes n ≡ inode_before image n
