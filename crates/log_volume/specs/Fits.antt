-- How a disk fits a volume, and what its images may stand for.
use Rattle.std.specs.Prelude.{◌≡◌, ◌≤◌, ℕ, Bool, List, [], length, take}
use Rattle.vol_numbers.specs.declared.block.Block.{Block}
use Rattle.disk_model.specs.Disk.{State}
use Rattle.root_switch.specs.Current.{current_slot, root_of_image}
use Rattle.block_format.specs.Root.{Root}
use Rattle.tree_model.specs.declared.command.Command.{Command}
use Rattle.tree_model.specs.Tree.{Tree}
use Rattle.log_volume.specs.Image.{Stands}
use Rattle.log_volume.specs.Replay.{Kept, after}

-- A volume as contracts see it: the current slot and its root, the tree, and whether a write or a sync has failed.
pub record Volume : Type 0 where
  pub slot : ℕ
  pub root : Root
  pub tree : Tree
  pub is_failed : Bool

-- what the log of a volume keeps
abbrev pub kept_by : Volume → Kept
kept_by volume = record { tree = volume.tree; used = volume.root.log_used }

-- the image stands for what was kept before and some of these commands, the first ones
pub record StandsForSome (start : Kept) (added : List Command) (image : List Block) : Type 0 where
  pub count : ℕ
  pub within : count ≤ length added
  pub stands : Stands image (after (take count added) start)

-- nothing is unsynced, the volume's slot is current and has its root, and the contents stand for what it keeps
pub record Fits (volume : Volume) (s : State) : Type 0 where
  pub all_synced : s.unsynced ≡ []
  pub slot_is : current_slot s.contents ≡ volume.slot
  pub root_is : root_of_image s.contents ≡ volume.root
  pub stands : Stands s.contents (kept_by volume)
