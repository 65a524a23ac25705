use Rattle.tree_model.proofs.AttemptLaws.{refused_leaves}
use Rattle.tree_model.proofs.laws.refused_leaves.Goals as goal

pub returns : goal.returns
returns c = refused_leaves
