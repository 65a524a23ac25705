use Rattle.log_volume.proofs.AnswerLemmas.{tree_kept}
use Rattle.log_volume.proofs.volume.change_tree.Goals as goal

pub returns-clause-sound : goal.returns-clause-sound
returns-clause-sound c sound = tree_kept c.args.tree.now c.step.new.self c.args.command.now c.step.result c.step.ensures.ok c.step.ensures.err sound
