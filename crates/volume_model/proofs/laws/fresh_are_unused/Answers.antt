use Rattle.volume_model.proofs.LineLaws.{fresh_are_unused}
use Rattle.volume_model.proofs.laws.fresh_are_unused.Goals as goal

pub returns : goal.returns
returns c = fresh_are_unused
