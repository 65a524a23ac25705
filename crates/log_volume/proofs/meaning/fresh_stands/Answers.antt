use Rattle.log_volume.proofs.FreshLemmas.{fresh_stands}
use Rattle.log_volume.proofs.meaning.fresh_stands.Goals as goal

pub returns : goal.returns
returns c = fresh_stands
