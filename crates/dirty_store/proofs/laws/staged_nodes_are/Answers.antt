use Rattle.dirty_store.proofs.SlotLaws.{own_node, other_node}
use Rattle.dirty_store.proofs.laws.staged_nodes_are.Goals as goal

pub returns : goal.returns
returns c = record { own = own_node; others = other_node }
