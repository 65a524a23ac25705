use Rattle.std.proofs.Common.{◌≡◌, ◌<◌, ℕ}
use Rattle.std.specs.FinSet as set
use Rattle.inode_file.specs.Taken.{is_taken}
use Rattle.inode_file.proofs.taken.taken_numbers.Given as goal

abbrev pub invariant-loop-n : goal.invariant-loop-n
invariant-loop-n l = (m : ℕ) → m < l.n → set.contains l.numbers m ≡ is_taken l.inodes m
