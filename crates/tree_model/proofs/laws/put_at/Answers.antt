use Rattle.tree_model.proofs.AttemptLaws.{put_at}
use Rattle.tree_model.proofs.laws.put_at.Goals as goal

pub returns : goal.returns
returns c = put_at
