use Rattle.run_allocator.proofs.StepLaws.{cut_is_step}
use Rattle.run_allocator.proofs.pieces.take_last.Goals as goal

pub returns-clause-step : goal.returns-clause-step
returns-clause-step c =
    cut_is_step c.args.runs.now.items c.args.n c.in-Some.piece c.blocks-in-Some.result c.cut.new.runs.items c.requires.apart c.in-Some.ensures.found c.blocks-in-Some.ensures c.cut.ensures
