use Rattle.std.proofs.Common.{◌≡◌, ap}
use Rattle.std.proofs.lemmas.Result.{on_ok_weaker}
use Rattle.tree_model.specs.declared.report.Line.{Line}
use Rattle.tree_model.specs.declared.report.LineKind.TheVariants.{Fresh}
use Rattle.fresh_runs.proofs.Adding.{line_adds}
use Rattle.fresh_runs.proofs.grow.add_piece.Goals as goal

pub returns : goal.returns
returns c =
    let line : Line = record { kind = Fresh; number = c.args.number; place = c.args.place; length = c.args.blocks.length; block = c.args.blocks.first } in
    on_ok_weaker c.add_changes.result (λ is. line_adds line c.args.lines.now.items c.add_line.new.lines.items c.args.changes.now.items c.add_changes.new.changes.items
    c.in_ok-add_line.ensures.places c.in_ok-add_line.ensures.stretches is) c.add_changes.ensures
