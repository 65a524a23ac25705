use Rattle.std.proofs.Common.{◌≡◌, ℕ, ◌<◌, get_or, true, false}
use Rattle.mem_disk.proofs.sure_disk.close_all.Given as goal

abbrev pub invariant-loop-is_unsynced : goal.invariant-loop-is_unsynced
invariant-loop-is_unsynced l = (k : ℕ) → k < l.is_unsynced-index → get_or l.is_unsynced-items k true ≡ false
