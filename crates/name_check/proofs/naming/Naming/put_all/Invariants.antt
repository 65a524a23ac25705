use Rattle.std.proofs.Common.{◌++◌, ℕ, List, take}
use Rattle.name_check.specs.Names.{HasNamed}
use Rattle.name_check.proofs.naming.Naming.put_all.Given as goal

abbrev pub invariant-loop-number : goal.invariant-loop-number
invariant-loop-number l = (named : List ℕ) → HasNamed l.fn.self named → HasNamed l.self (named ++ take l.number-index l.numbers)
