use Rattle.volume_model.proofs.Cached.{use_keeps}
use Rattle.volume_model.proofs.laws.use_keeps.Goals as goal

pub returns : goal.returns
returns c = use_keeps
