-- Laws of what an image stands for.
use Rattle.std.specs.Prelude.{◌≡◌, ℕ, ◌+◌, false, List}
use Rattle.vol_numbers.specs.declared.block.Block.{Block}
use Rattle.vol_numbers.specs.Layout.{Layout, IsValid}
use Rattle.disk_model.specs.Disk.{State, IsImage, is_among}
use Rattle.root_switch.specs.Current.{current_slot}
use Rattle.tree_model.specs.declared.command.Command.{Command}
use Rattle.log_volume.specs.declared.finding.Finding.{Finding}
use Rattle.log_volume.specs.Finding.{Finds}
use Rattle.volume_format.specs.Fresh.{IsFresh}
use Rattle.log_volume.specs.Image.{Stands, IsLive, KeepsLive, HasNext}
use Rattle.log_volume.specs.Replay.{Kept, nothing_kept, and_command, IsDone}

abbrev pub OneMeaning : Type 0
OneMeaning = (image : List Block) (kept other : Kept) → Stands image kept → Stands image other → kept ≡ other

abbrev pub KeptMeaning : Type 0
KeptMeaning = (old new : List Block) (kept : Kept) → KeepsLive old new → Stands old kept → Stands new kept

-- neither the selector, nor the current root, nor a live block is unsynced
pub record OpensNoLive (s : State) : Type 0 where
  pub selector : is_among s.unsynced 0 ≡ false
  pub root : is_among s.unsynced (1 + current_slot s.contents) ≡ false
  pub live : (k : ℕ) → IsLive s.contents k → is_among s.unsynced k ≡ false

abbrev pub ImagesStand : Type 0
ImagesStand = (s : State) (image : List Block) (kept : Kept) → OpensNoLive s → IsImage s image → Stands s.contents kept → Stands image kept

abbrev pub NextStands : Type 0
NextStands = (old new : List Block) (command : Command) (kept : Kept) → HasNext old new command → Stands old kept → IsDone kept command → Stands new (and_command kept command)

-- an image in which something is found stands for nothing
abbrev pub FindsNothing : Type 0
FindsNothing = (image : List Block) (finding : Finding) (kept : Kept) → Finds image finding → ¬ Stands image kept

-- what a format leaves stands for the root directory alone, with an empty log
abbrev pub FreshStands : Type 0
FreshStands = (g : Layout) (image : List Block) → IsFresh g image → IsValid g → Stands image nothing_kept
