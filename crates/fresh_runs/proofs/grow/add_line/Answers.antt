use Rattle.std.proofs.Common.{◌≡◌, ◌++◌, ◌∷◌, [], List, sym, ap, ◌∙◌, subst, true, false}
use Rattle.tree_model.specs.declared.report.Line.{Line}
use Rattle.volume_model.specs.Lines.{line_places, lines_places}
use Rattle.fresh_runs.specs.Inside.{AreStretches, goes_on}
use Rattle.fresh_runs.proofs.Growing.{lines_longer, lines_more, stretches_longer, stretches_more}
use Rattle.fresh_runs.proofs.grow.add_line.Goals as goal

pub lengthen_last-requires-clause-on : goal.lengthen_last-requires-clause-on
lengthen_last-requires-clause-on c = ap (λ (ls : List Line). goes_on ls c.args.line) (sym c.deref.ensures.value) ∙ sym c.goes_on.ensures ∙ c.if-goes_on.true

pub returns-then-goes_on-clause-places : goal.returns-then-goes_on-clause-places
returns-then-goes_on-clause-places c =
    let lines = c.args.lines.now.items in
    let on : goes_on lines c.args.line ≡ true = ap (λ (ls : List Line). goes_on ls c.args.line) (sym c.deref.ensures.value) ∙ sym c.goes_on.ensures ∙ c.if-goes_on.true in
    ap lines_places c.lengthen_last.ensures ∙ lines_longer lines c.args.line on

pub returns-then-goes_on-clause-stretches : goal.returns-then-goes_on-clause-stretches
returns-then-goes_on-clause-stretches c are = subst AreStretches (sym c.lengthen_last.ensures) (stretches_longer c.args.line.length c.args.lines.now.items are)

pub returns-clause-places : goal.returns-clause-places
returns-clause-places c = ap lines_places c.in_ok-push.ensures.items ∙ lines_more c.args.lines.now.items c.args.line

pub returns-clause-stretches : goal.returns-clause-stretches
returns-clause-stretches c are =
    let lines = c.args.lines.now.items in
    let off : goes_on lines c.args.line ≡ false = ap (λ (ls : List Line). goes_on ls c.args.line) (sym c.deref.ensures.value) ∙ sym c.goes_on.ensures ∙ c.if-goes_on.false in
    subst AreStretches (sym c.in_ok-push.ensures.items) (stretches_more lines c.args.line c.requires.fresh c.requires.some off are)
