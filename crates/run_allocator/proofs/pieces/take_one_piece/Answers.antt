use Rattle.std.proofs.Common.{ap}
use Rattle.vol_numbers.specs.declared.runs.Run.{Run}
use Rattle.run_allocator.proofs.StepLaws.{cut_is_step, step_alone}
use Rattle.run_allocator.proofs.pieces.take_one_piece.Goals as goal

pub returns-clause-taken : goal.returns-clause-taken
returns-clause-taken c =
    let runs = c.args.runs.now.items in
    let piece = c.args.piece in
    let blocks = c.blocks-2.result in
    let step = cut_is_step runs piece.length piece blocks c.cut.new.runs.items c.requires.apart c.requires.piece c.blocks-2.ensures c.cut.ensures in
    rw (c.in_ok-push.ensures.items, c.new-taken.ensures.items) (step_alone runs piece.length blocks c.cut.new.runs.items (ap (λ (r : Run). r.length) c.blocks-2.ensures) step)
