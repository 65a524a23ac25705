use Rattle.std.proofs.Common.{List, ap, ◌∙◌}
use Rattle.held_list.specs.Held.{slots_at}
use Rattle.held_list.specs.declared.held.Held.{Held}
use Rattle.point_plan.proofs.HeldLaws.{without_other, without_own}
use Rattle.point_plan.proofs.directories.take.Goals as goal

pub returns-clause-own : goal.returns-clause-own
returns-clause-own c =
    ap (λ (ds : List Held). slots_at ds c.args.number) c.remove.ensures.removed ∙ without_own c.args.directories.now c.args.number c.as_slice.ensures.order

pub returns-clause-others : goal.returns-clause-others
returns-clause-others c = λ n other.
    ap (λ (ds : List Held). slots_at ds n) c.remove.ensures.removed ∙ without_other c.args.directories.now c.args.number n other
