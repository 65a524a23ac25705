use Rattle.std.proofs.Common.{◌<◌, ℕ, get_or}
use Rattle.dir_slots.specs.Slots.{IsDirectory}
use Rattle.held_list.specs.declared.held.Held.{Held as HeldOf}
use Rattle.point_tests.proofs.held.are_directories.Given as goal

abbrev pub invariant-loop-held : goal.invariant-loop-held
invariant-loop-held l = (k : ℕ) (d : HeldOf) → k < l.held-index → IsDirectory (get_or l.held-items k d).slots
