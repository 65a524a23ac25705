use Rattle.fresh_runs.proofs.StagedNumbers.{staged_have_dirty}
use Rattle.fresh_runs.proofs.laws.staged_have_dirty.Goals as goal

pub returns : goal.returns
returns c = staged_have_dirty
