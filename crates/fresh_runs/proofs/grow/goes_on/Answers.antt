use Rattle.std.proofs.Common.{sym, ◌∙◌}
use Rattle.dirty_store.proofs.LastLaws.{last_is}
use Rattle.fresh_runs.proofs.Growing.{last_some}
use Rattle.fresh_runs.proofs.grow.goes_on.Goals as goal

pub returns-in-Some : goal.returns-in-Some
returns-in-Some c = c.continues.ensures ∙ sym (last_some c.args.lines.now c.in-Some.last.now c.args.line (sym (last_is c.args.lines.now) ∙ sym c.in-Some.ensures.value))
