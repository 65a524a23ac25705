use Rattle.log_volume.proofs.FindingLemmas.{finds_nothing}
use Rattle.log_volume.proofs.meaning.found_stands_for_nothing.Goals as goal

pub returns : goal.returns
returns c = finds_nothing
