use Rattle.std.proofs.Common.{◌≡◌, ◌∙◌, sym, subst}
use Rattle.std.proofs.lemmas.Option.{none-some, same_Some}
use Rattle.tree_model.specs.declared.command.Command.{Command}
use Rattle.op_log.specs.Reading.{Spells}
use Rattle.op_log.proofs.ReadLemmas.{if_none_weaker}
use Rattle.op_log.proofs.RecordLemmas.{fields_read}
use Rattle.op_log.proofs.decoding.decode.Goals as goal

pub returns-in_default-clause-none : goal.returns-in_default-clause-none
returns-in_default-clause-none c = λ command has spells.
    let fields = fields_read c.args.bytes.now c.read-head.result command c.read-head.ensures has spells in
    none-some command (sym c.in_default.is ∙ c.in_ok-command.ensures.is command has fields)

pub returns-clause-none : goal.returns-clause-none
returns-clause-none c = if_none_weaker c.if_spelled.result (λ refused command has spells.
    let fields = fields_read c.args.bytes.now c.read-head.result command c.read-head.ensures has spells in
    let same : c.in-Some.command ≡ command = same_Some c.in-Some.command command (sym c.in-Some.is ∙ c.in_ok-command.ensures.is command has fields) in
    refused (subst (λ (d : Command). Spells d c.args.bytes.now) (sym same) spells)) c.if_spelled.ensures.none
