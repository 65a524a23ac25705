use Rattle.run_allocator.proofs.RunLaws.{numbers_ascend}
use Rattle.run_allocator.proofs.free_map.FreeMap.free.Goals as goal

pub returns-clause-ascends : goal.returns-clause-ascends
returns-clause-ascends c = rw (← c.self.view_is) (numbers_ascend 1 c.self.inside.runs.items c.self.invariant.0)
