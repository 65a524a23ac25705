use Rattle.std.proofs.Common.{◌≤◌, ◌+◌, ◌∙◌, ℕ, get_or, sym, subst, refl}
use Rattle.count_pairs.proofs.ChangeLaws.{changes_then}
use Rattle.disk_model.proofs.Moments.{adds_then}
use Rattle.disk_model.specs.Media.{Fixed}
use Rattle.tree_model.specs.declared.report.Line.{Line}
use Rattle.tree_model.specs.declared.report.LineKind.TheVariants.{Fresh}
use Rattle.consistency_point.specs.Writing.{IsBlockOf, IsOneOf, blocks_of_lines}
use Rattle.consistency_point.proofs.StandLaws.{line_within, lines_more}
use Rattle.consistency_point.proofs.blocks.write_lines.Goals as goal

abbrev no_line : Line
no_line = record { kind = Fresh; number = 0; place = 0; length = 0; block = 0 }

pub write_line-requires-clause-blocks : goal.write_line-requires-clause-blocks
write_line-requires-clause-blocks g c =
    let here : Line = get_or c.args.lines.now c.loop-line.line-index no_line in
    subst (λ (f : Fixed). here.block + here.length ≤ f.size) (sym c.loop-line.invariant.fixed) (c.requires.within c.loop-line.line-index no_line c.loop-line-test.true).blocks

pub loop-line-preserved : goal.loop-line-preserved
loop-line-preserved g c =
    let inv = c.loop-line.invariant in
    let one = c.write_line.ensures in
    let lines = c.args.lines.now in
    let i = c.loop-line.line-index in
    let here : Line = get_or lines i no_line in
    let within : (b : ℕ) → IsBlockOf here b → IsOneOf (blocks_of_lines lines) b = line_within lines i no_line here c.loop-line-test.true refl in
    record {
      stand = λ tells distinct. lines_more lines i no_line here c.loop-line-test.true refl c.args.dirty.now.overlay distinct (one.changes tells) (c.in_ok-write_line.ensures.stand tells) (inv.stand tells distinct);
      changes = λ tells. changes_then (inv.changes tells) (one.changes tells) within;
      during = λ tells. adds_then (inv.during tells) (one.during tells) (λ s during. changes_then (inv.changes tells) during within);
      fixed = one.fixed ∙ inv.fixed;
      given = one.given ∙ inv.given;
      faults = c.in_ok-write_line.ensures.cause ∙ inv.faults;
    }

pub returns-in_err-write_line-clause-changes : goal.returns-in_err-write_line-clause-changes
returns-in_err-write_line-clause-changes g c = λ tells.
    let lines = c.args.lines.now in
    let i = c.loop-line.line-index in
    let here : Line = get_or lines i no_line in
    let h = c.write_line.ensures.changes tells in
    changes_then (c.loop-line.invariant.changes tells) h (line_within lines i no_line here c.loop-line-test.true refl)

pub returns-in_err-write_line-clause-during : goal.returns-in_err-write_line-clause-during
returns-in_err-write_line-clause-during g c = λ tells.
    let lines = c.args.lines.now in
    let i = c.loop-line.line-index in
    let here : Line = get_or lines i no_line in
    adds_then (c.loop-line.invariant.during tells) (c.write_line.ensures.during tells) (λ s during. changes_then (c.loop-line.invariant.changes tells) during (line_within lines i no_line here c.loop-line-test.true refl))
