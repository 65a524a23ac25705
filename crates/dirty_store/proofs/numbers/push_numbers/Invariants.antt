use Rattle.std.proofs.Common.{◌≡◌, ◌++◌, take}
use Rattle.dirty_store.specs.Numbers.{numbers_in}
use Rattle.dirty_store.proofs.numbers.push_numbers.Given as goal

abbrev pub invariant-loop-entry : goal.invariant-loop-entry
invariant-loop-entry g l = l.numbers.items ≡ l.fn.numbers.items ++ numbers_in (take l.entry-index l.entries)
