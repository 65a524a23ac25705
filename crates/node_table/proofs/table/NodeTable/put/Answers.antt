use Rattle.node_table.proofs.KeptLaws.{kept_put}
use Rattle.node_table.proofs.table.NodeTable.put.Goals as goal

pub invariant_of-self : goal.invariant_of-self
invariant_of-self c = kept_put _ _ _ c.args.number c.args.node c.self.invariant c.requires.at_least c.requires.at_most c.requires.fits c.put.ensures
