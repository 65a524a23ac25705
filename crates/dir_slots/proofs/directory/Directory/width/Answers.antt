use Rattle.std.proofs.Common.{subst, List}
use Rattle.block_format.specs.declared.slot.Slot.{Slot}
use Rattle.dir_slots.specs.Slots.{IsDirectory}
use Rattle.dir_slots.proofs.KeptLaws.{kept_directory}
use Rattle.dir_slots.proofs.directory.Directory.width.Goals as goal

pub returns-clause-directory : goal.returns-clause-directory
returns-clause-directory c = subst (λ (slots : List Slot). IsDirectory slots) c.self.view_is (kept_directory _ _ _ c.self.invariant.0)
