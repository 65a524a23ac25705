use Rattle.dirty_store.proofs.MachineLaws.{dirty_after_all}
use Rattle.dirty_store.proofs.laws.dirty_are_the_machines.Goals as goal

pub returns : goal.returns
returns c = dirty_after_all
