use Rattle.tree_model.proofs.RefusalLaws.{refusal_tells}
use Rattle.tree_model.proofs.laws.refusal_tells.Goals as goal

pub returns : goal.returns
returns c = refusal_tells
