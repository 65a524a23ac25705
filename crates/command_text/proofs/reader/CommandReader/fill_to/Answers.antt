use Rattle.std.proofs.Common.{◌∙◌, length, refl, ap, arith}
use Rattle.command_text.specs.Reading.{Reading}
use Rattle.command_text.specs.Filling.{IsShorter}
use Rattle.command_text.proofs.FillLemmas.{no_fill, fills_more}
use Rattle.command_text.proofs.reader.CommandReader.fill_to.Goals as goal

pub pieces-init : goal.pieces-init
pieces-init g c = record { filled = no_fill (IsShorter c.args.count) c.args.self.now (g.R.Source.seen c.args.source.now); same = refl }

pub pieces-preserved : goal.pieces-preserved
pieces-preserved g c =
    let held = ap (λ (r : Reading). length r.held) c.self.view_is in
    record {
      filled = fills_more (IsShorter c.args.count) c.args.self.now c.pieces.self c.take_piece.new.self (g.R.Source.seen c.args.source.now) (g.R.Source.seen c.pieces.source) (g.R.Source.seen c.take_piece.new.source) c.pieces.invariant.filled
          (omega arith) c.in_ok-take_piece.ensures.piece;
      same = c.in_ok-take_piece.ensures.cause ∙ c.pieces.invariant.same;
    }
