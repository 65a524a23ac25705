use Rattle.dirty_store.proofs.OrderLaws.{staged_in_order}
use Rattle.dirty_store.proofs.laws.staged_is_in_order.Goals as goal

pub returns : goal.returns
returns c = staged_in_order
