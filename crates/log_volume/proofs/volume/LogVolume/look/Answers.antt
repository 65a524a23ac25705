use Rattle.std.proofs.Common.{◌∙◌, ap}
use Rattle.tree_model.specs.Tree.{Tree}
use Rattle.block_format.specs.Root.{root_of}
use Rattle.log_volume.specs.Fits.{Volume}
use Rattle.log_volume.proofs.AnswerLemmas.{tree_kept, tree_same}
use Rattle.log_volume.proofs.volume.LogVolume.look.Goals as goal

pub invariant_of-self : goal.invariant_of-self
invariant_of-self c = (c.self.invariant.0, c.self.invariant.1, tree_kept c.self.inside.tree c.step.new.self c.args.command.now c.step.result c.step.ensures.ok c.step.ensures.err c.self.invariant.2)

pub returns-clause-same : goal.returns-clause-same
returns-clause-same c =
    let as_it_is : Tree → Volume = λ t. record { slot = c.self.inside.current.slot; root = root_of c.self.inside.current.body; tree = t; is_failed = c.self.inside.is_failed } in
    ap as_it_is (tree_same c.self.inside.tree c.step.new.self c.args.command.now c.step.result c.step.ensures.ok c.step.ensures.err c.requires.reading) ∙ c.self.view_is
