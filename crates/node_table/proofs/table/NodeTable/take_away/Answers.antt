use Rattle.node_table.proofs.KeptLaws.{kept_taken}
use Rattle.node_table.proofs.table.NodeTable.take_away.Goals as goal

pub invariant_of-self : goal.invariant_of-self
invariant_of-self c = kept_taken _ _ _ c.args.number c.self.invariant c.requires.at_least c.requires.at_most c.take_away.ensures
