use Rattle.std.proofs.Common.{◌≡◌, ◌∙◌, refl, Bool, Result, Ok, ap, sym, subst}
use Rattle.command_text.specs.declared.fault.TextFault.{TextFault}
use Rattle.command_text.specs.Reading.{Reading, Undecided}
use Rattle.command_text.proofs.FillLemmas.{no_fill, fills_more, input_ends, where_none, ends_inside}
use Rattle.command_text.proofs.reader.CommandReader.fill_line.Goals as goal

pub returns-then-not-branch-clause-ended : goal.returns-then-not-branch-clause-ended
returns-then-not-branch-clause-ended g c =
    let answered : Bool → Result Bool TextFault = λ b. Ok b in
    let ended = c.in_ok-take_piece.ensures.ended (ap answered c.if-not-branch.true) in
    where_none _ c.at_input_end.result
    (input_ends _ c.take_piece.new.self (g.R.Source.seen c.args.source.now) (g.R.Source.seen c.pieces.source) (g.R.Source.seen c.take_piece.new.source) c.pieces.invariant.filled.takes.told ended.1 ended.0 ended.2 c.in_ok-take_piece.ensures.piece)

pub returns-then-not-branch-clause-err : goal.returns-then-not-branch-clause-err
returns-then-not-branch-clause-err g c =
    let answered : Bool → Result Bool TextFault = λ b. Ok b in
    let ended = c.in_ok-take_piece.ensures.ended (ap answered c.if-not-branch.true) in
    let held : c.take_piece.new.self.held ≡ c.as_slice.result.now = ap (λ (r : Reading). r.held) (ended.0 ∙ sym c.self.view_is) ∙ sym c.as_slice.ensures in
    ends_inside c.take_piece.new.self (g.R.Source.seen c.args.source.now) (g.R.Source.seen c.take_piece.new.source) c.at_input_end.result c.at_input_end.ensures.err (subst Undecided (sym held) c.in-Missing.ensures.end)
    (input_ends _ c.take_piece.new.self (g.R.Source.seen c.args.source.now) (g.R.Source.seen c.pieces.source) (g.R.Source.seen c.take_piece.new.source) c.pieces.invariant.filled.takes.told ended.1 ended.0 ended.2 c.in_ok-take_piece.ensures.piece)

pub pieces-init : goal.pieces-init
pieces-init g c = record { filled = no_fill Undecided c.args.self.now (g.R.Source.seen c.args.source.now); same = refl }

pub pieces-preserved : goal.pieces-preserved
pieces-preserved g c =
    let held = c.as_slice.ensures ∙ ap (λ (r : Reading). r.held) c.self.view_is in
    record {
      filled = fills_more Undecided c.args.self.now c.pieces.self c.take_piece.new.self (g.R.Source.seen c.args.source.now) (g.R.Source.seen c.pieces.source) (g.R.Source.seen c.take_piece.new.source) c.pieces.invariant.filled
          (subst Undecided held c.in-Missing.ensures.end) c.in_ok-take_piece.ensures.piece;
      same = c.in_ok-take_piece.ensures.cause ∙ c.pieces.invariant.same;
    }
