use Rattle.std.proofs.Common.{sym, ◌∙◌, arith}
use Rattle.dirty_store.proofs.LastLaws.{last_is}
use Rattle.dirty_store.proofs.RunLaws.{last_some, last_within}
use Rattle.dirty_store.proofs.runs.ends_at.Goals as goal

pub overflow_add-result : goal.overflow_add-result
overflow_add-result c = omega (arith, last_within c.args.runs.now c.in-Some.last.now c.requires (sym (last_is c.args.runs.now) ∙ sym c.in-Some.ensures.value))

pub returns-in-Some : goal.returns-in-Some
returns-in-Some c = sym (last_some c.args.runs.now c.in-Some.last.now c.args.place (sym (last_is c.args.runs.now) ∙ sym c.in-Some.ensures.value))
