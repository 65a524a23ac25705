-- What logging a command makes of a disk.
use Rattle.std.specs.Prelude.{◌≡◌, ◌≤◌, ◌⊎◌, ◌+◌, ℕ, List, [], slice_get}
use Rattle.vol_numbers.specs.Layout.{log_start}
use Rattle.vol_numbers.specs.declared.block.Block.{Block}
use Rattle.disk_model.specs.Disk.{State}
use Rattle.block_format.specs.Root.{Root}
use Rattle.root_switch.specs.Current.{current_slot, root_of_image, HasRoot, FitsImage}
use Rattle.tree_model.specs.declared.command.Command.{Command}
use Rattle.op_log.specs.Append.{IsOutside}
use Rattle.op_log.specs.Record.{record_blocks}
use Rattle.space_account.specs.Charge.{need, pending}
use Rattle.state_laws.specs.Accepted.{IsAccepted}
use Rattle.state_laws.specs.States.{IsCoherent}
use Rattle.volume_model.specs.Done.{done}
use Rattle.volume_model.specs.Machine.{Machine, Rules, stored, free_of}
use Rattle.image_model.specs.Stands.{Stands}

-- Nothing is unsynced, and this slot is current and has this root.
pub record HasCurrent (slot : ℕ) (root : Root) (s : State) : Type 0 where
  pub all_synced : s.unsynced ≡ []
  pub slot_is : current_slot s.contents ≡ slot
  pub root_is : root_of_image s.contents ≡ root
  pub has : HasRoot s.contents
  pub fits : FitsImage s.contents

-- The contents stand for what a coherent state stores. Its tree accepts the command, and what is pending, the charge and the reserve of the
-- command are together no more than is free.
pub record MayDo (r : Rules) (m : Machine) (command : Command) (contents : List Block) : Type 0 where
  pub coherent : IsCoherent r m
  pub stands : Stands contents (stored m)
  pub accepted : IsAccepted m.tree command
  pub space : pending m.records + need command ≤ free_of m

-- the image stands for what the state stores before the command, or after it
abbrev pub StandsForEither : Machine → Command → List Block → Type 0
StandsForEither m command image = Stands image (stored m) ⊎ Stands image (stored (done m command))

-- the root of a log that has one record more
abbrev pub next_root : Root → Command → Root
next_root root command = record root { records = root.records + 1; log_used = root.log_used + record_blocks command }

-- behind the root slots, and none of the blocks of the log in which the record of the command comes
abbrev pub IsBeside : Root → Command → ℕ → Type 0
IsBeside root command b = (3 ≤ b) × IsOutside (log_start root.layout + root.log_used) (record_blocks command) b

-- all these blocks are the same
abbrev pub KeepsBeside : Root → Command → List Block → List Block → Type 0
KeepsBeside root command old new = (b : ℕ) → IsBeside root command b → slice_get new b ≡ slice_get old b
