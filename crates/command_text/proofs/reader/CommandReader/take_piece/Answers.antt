use Rattle.std.proofs.Common.{◌≡◌, ◌∙◌, ℕ, List, ap, subst}
use Rattle.command_text.specs.Holding.{Holding}
use Rattle.command_text.specs.Reading.{Reading}
use Rattle.command_text.specs.Filling.{HoldsMore, TakesPiece}
use Rattle.command_text.proofs.FillLemmas.{took_nothing}
use Rattle.command_text.proofs.reader.CommandReader.take_piece.Goals as goal

pub returns-in_err-count-clause-piece : goal.returns-in_err-count-clause-piece
returns-in_err-count-clause-piece g c =
    let inside : Reading = record { held = c.self.inside.held.bytes; budget = c.self.inside.budget; is_over = c.self.inside.is_over; fault = c.self.inside.fault } in
    let new : Reading = record inside { held = c.take_piece.new.self.bytes } in
    let same : new ≡ inside = ap (λ (h : Holding). record inside { held = h.bytes }) (c.in_err-count.ensures.none ∙ c.move_up.ensures) in
    subst (λ (r : Reading). TakesPiece r new (g.R.Source.seen c.args.source.now) (g.R.Source.seen c.take_piece.new.source)) c.self.view_is
    (took_nothing inside new (g.R.Source.seen c.args.source.now) (g.R.Source.seen c.take_piece.new.source)
    (subst (λ (l : List ℕ). HoldsMore l c.take_piece.new.self.bytes (g.R.Source.seen c.args.source.now) (g.R.Source.seen c.take_piece.new.source)) (ap (λ (h : Holding). h.bytes) c.move_up.ensures) c.in_err-count.ensures.more) same)
