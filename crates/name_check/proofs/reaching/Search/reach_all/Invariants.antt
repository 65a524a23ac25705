use Rattle.std.proofs.Common.{take}
use Rattle.name_check.specs.Reaching.{IsSearch, Reaches}
use Rattle.name_check.proofs.reaching.Search.reach_all.Given as goal

abbrev pub invariant-loop-number : goal.invariant-loop-number
invariant-loop-number l = record {
  search : IsSearch l.directories l.self;
  reaches : Reaches (take l.number-index l.numbers) l.fn.self l.self;
}
