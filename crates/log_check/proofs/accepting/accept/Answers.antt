use Rattle.std.proofs.Common.{◌∙◌, sym}
use Rattle.log_check.specs.Accepting.{TakesNext}
use Rattle.log_check.proofs.AcceptLemmas.{not_taken, taken_next, still_holds}
use Rattle.log_check.proofs.accepting.accept.Goals as goal

pub returns-then-is_some-clause-refused : goal.returns-then-is_some-clause-refused
returns-then-is_some-clause-refused c = λ _. not_taken c.args.free c.args.charged c.args.nodes.now c.args.command.now c.refusal.result c.refusal.ensures (sym c.is_some.ensures ∙ c.if-is_some.true)

does_it : (c : goal.In_ok-change) → TakesNext c.args.free c.args.charged c.args.nodes.now c.args.command.now c.change.new.self
does_it c =
    taken_next c.args.free c.args.charged c.args.nodes.now c.change.new.self c.args.command.now c.refusal.result c.requires.change c.refusal.ensures (sym c.is_some.ensures ∙ c.if-is_some.false)
    (c.has_room.ensures.0 c.if-not-has_room.false) c.in_ok-change.ensures.holds

pub returns-clause-takes : goal.returns-clause-takes
returns-clause-takes c = λ _. does_it c

pub returns-clause-still : goal.returns-clause-still
returns-clause-still c = still_holds c.args.free c.args.charged c.args.nodes.now c.change.new.self c.args.command.now c.requires.holds (does_it c)
