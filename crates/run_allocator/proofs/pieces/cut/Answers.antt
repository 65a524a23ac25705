use Rattle.std.proofs.Common.{◌≡◌, ◌<◌, ◌∙◌, ap, set, sym, subst, arith}
use Rattle.std.specs.Prelude.{Option, OnSome}
use Rattle.std.specs.List.{remove}
use Rattle.std.specs.VecDeque.{deque_len}
use Rattle.vol_numbers.specs.declared.runs.Run.{Run}
use Rattle.run_allocator.proofs.StepLaws.{take_at_whole, take_at_part}
use Rattle.run_allocator.proofs.pieces.cut.Goals as goal

pub returns-then-piece : goal.returns-then-piece
returns-then-piece c =
    let runs = c.args.runs.now.items in
    let piece = c.args.piece in
    let within : piece.index < deque_len c.args.runs.now = omega (arith, c.requires.index) in
    let removed : c.remove.new.self.items ≡ remove runs piece.index =
    subst (λ (o : Option Run). OnSome o (c.remove.new.self.items ≡ remove runs piece.index)) (c.remove.ensures.succeeds piece.run within) c.remove.ensures.items in
    removed ∙ sym (take_at_whole runs piece.index piece.run piece.length c.requires.there c.if-piece.true)

pub returns : goal.returns
returns c =
    let runs = c.args.runs.now.items in
    let piece = c.args.piece in
    ap (λ (r : Run). set runs piece.index r) c.behind.ensures ∙ sym (take_at_part runs piece.index piece.run piece.length c.requires.there c.if-piece.false)
