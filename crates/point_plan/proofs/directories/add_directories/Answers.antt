use Rattle.std.proofs.Common.{◌∙◌}
use Rattle.point_plan.proofs.HeldLaws.{same_list}
use Rattle.point_plan.proofs.directories.add_directories.Goals as goal

pub returns-in-Err-clause-unchanged : goal.returns-in-Err-clause-unchanged
returns-in-Err-clause-unchanged c =
    same_list c.take_back.new.directories c.args.directories.now c.as_slice-in-Err.ensures.order c.as_slice.ensures.order (λ n. c.take_back.ensures n ∙ c.in-Err.ensures.back n)
