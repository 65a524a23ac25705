use Rattle.std.proofs.Common.{◌∙◌, arith}
use Rattle.run_allocator.specs.Runs.{numbers_of}
use Rattle.run_allocator.proofs.RuleLaws.{taken_is}
use Rattle.run_allocator.proofs.free_map.FreeMap.take_run.Goals as goal

pub returns-clause-taken : goal.returns-clause-taken
returns-clause-taken c =
    let taken = taken_is (numbers_of c.self.inside.runs.items) c.args.n c.in_ok-taken.taken.items (omega (arith, c.if-self-n.false, c.self.invariant.1)) c.in_ok-taken.ensures.taken.taken in
    rw (← c.self.view_is) (c.from_vec.ensures ∙ taken)
