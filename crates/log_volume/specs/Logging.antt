-- What logging a command makes of a disk.
use Rattle.std.specs.Prelude.{◌≡◌, ◌⊎◌, ◌+◌, ℕ, List, []}
use Rattle.vol_numbers.specs.declared.block.Block.{Block}
use Rattle.disk_model.specs.Disk.{State}
use Rattle.root_switch.specs.Current.{current_slot, root_of_image, HasRoot, FitsImage}
use Rattle.block_format.specs.Root.{Root}
use Rattle.tree_model.specs.declared.command.Command.{Command}
use Rattle.op_log.specs.Record.{record_blocks}
use Rattle.log_volume.specs.Image.{KeepsLive, HasNext}

-- nothing is unsynced, and this slot is current and has this root
pub record HasCurrent (slot : ℕ) (root : Root) (s : State) : Type 0 where
  pub all_synced : s.unsynced ≡ []
  pub slot_is : current_slot s.contents ≡ slot
  pub root_is : root_of_image s.contents ≡ root
  pub has : HasRoot s.contents
  pub fits : FitsImage s.contents

-- the root of a log that has one record more
abbrev pub next_root : Root → Command → Root
next_root root command = record root { records = root.records + 1; log_used = root.log_used + record_blocks command }

-- the image keeps what is live, or has the next record
abbrev pub KeepsOrNext : List Block → Command → List Block → Type 0
KeepsOrNext old command image = KeepsLive old image ⊎ HasNext old image command
