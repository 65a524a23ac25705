use Rattle.run_allocator.proofs.RuleLaws.{taken_is}
use Rattle.run_allocator.proofs.ComputedLaws.{taken_both}
use Rattle.run_allocator.proofs.rule.taken_runs_are_the_rule.Goals as goal

pub returns-clause-one : goal.returns-clause-one
returns-clause-one c = taken_is

pub returns-clause-both : goal.returns-clause-both
returns-clause-both c = taken_both
