use Rattle.std.proofs.Common.{◌≡◌, drop}
use Rattle.run_allocator.specs.Taken.{first_fit}
use Rattle.run_allocator.proofs.pieces.find_piece.Given as goal

abbrev pub invariant-loop-i : goal.invariant-loop-i
invariant-loop-i l = first_fit l.n (drop l.i l.runs.items) ≡ first_fit l.n l.runs.items
