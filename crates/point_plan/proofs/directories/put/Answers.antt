use Rattle.std.proofs.Common.{List, sym, ap, ◌∙◌}
use Rattle.held_list.specs.Held.{slots_at}
use Rattle.held_list.specs.declared.held.Held.{Held}
use Rattle.point_plan.proofs.HeldLaws.{apart_tests, with_other, with_own}
use Rattle.point_plan.proofs.directories.put.Goals as goal

pub returns-clause-own : goal.returns-clause-own
returns-clause-own c =
    ap (λ (ds : List Held). slots_at ds c.args.number) c.in_ok-insert.ensures.inserted ∙ with_own c.args.number c.args.slots c.args.directories.now

pub returns-clause-others : goal.returns-clause-others
returns-clause-others c = λ n other.
    ap (λ (ds : List Held). slots_at ds n) c.in_ok-insert.ensures.inserted
    ∙ with_other c.args.number c.args.slots c.args.directories.now n (apart_tests c.args.number n (λ e. other (sym e)))
