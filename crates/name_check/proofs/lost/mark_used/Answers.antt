use Rattle.std.proofs.Common.{◌∙◌, Bool, ap}
use Rattle.std.specs.Prelude.{if◌then◌else◌, nat_eq}
use Rattle.std.specs.FinSet as set
use Rattle.std.specs.Ordering.{nat_cmp}
use Rattle.name_check.proofs.LostLaws.{written}
use Rattle.name_check.proofs.lost.mark_used.Goals as goal

pub returns-then-node-le-MOST_NUMBER : goal.returns-then-node-le-MOST_NUMBER
returns-then-node-le-MOST_NUMBER c n at_most =
    let used = c.args.used.now in
    let m = c.args.node.now.0 in
    ap (λ (s : set.FinSet nat_cmp). set.contains s n) c.set.ensures ∙ written used m n c.is_used.result
    ∙ ap (λ (b : Bool). if nat_eq m n then b else set.contains used n) c.is_used.ensures
