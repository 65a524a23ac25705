use Rattle.std.proofs.Common.{sym}
use Rattle.point_plan.proofs.HeldLaws.{apart_tests, with_other, with_own}
use Rattle.point_plan.proofs.directories.replace.Goals as goal

pub returns-in-Some-clause-own : goal.returns-in-Some-clause-own
returns-in-Some-clause-own c = with_own c.args.number c.args.slots c.args.directories.now

pub returns-in-Some-clause-others : goal.returns-in-Some-clause-others
returns-in-Some-clause-others c = λ n other. with_other c.args.number c.args.slots c.args.directories.now n (apart_tests c.args.number n (λ e. other (sym e)))
