use Rattle.std.proofs.Common.{◌∙◌, sym, ap}
use Rattle.line_text.specs.Numbers.{number_in, is_decimal}
use Rattle.line_text.proofs.NumberLemmas.{number_read, no_number, decimal_is_text}
use Rattle.line_text.proofs.number.read_number.Goals as goal

pub returns-then-not-is_decimal : goal.returns-then-not-is_decimal
returns-then-not-is_decimal c = sym (no_number c.args.field.now (sym c.is_decimal.ensures ∙ c.if-not-is_decimal.true))

pub returns-in-Ok : goal.returns-in-Ok
returns-in-Ok c =
    c.ok.ensures.value
    ∙ number_read c.in-Ok.digits.now c.parse.result c.parse.ensures.value.0 (ap is_decimal c.in-Ok.ensures.cases.0 ∙ sym c.is_decimal.ensures ∙ c.if-not-is_decimal.false)
    ∙ ap number_in c.in-Ok.ensures.cases.0

pub returns-in-Err : goal.returns-in-Err
returns-in-Err c = absurd (c.in-Err.ensures.cases.0 (decimal_is_text c.args.field.now (sym c.is_decimal.ensures ∙ c.if-not-is_decimal.false)))
