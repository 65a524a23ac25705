use Rattle.std.proofs.Common.{ap, ◌∙◌}
use Rattle.node_table.specs.Walks.{look}
use Rattle.node_table.proofs.WalkLaws.{look_is}
use Rattle.node_table.proofs.table.NodeTable.find.Goals as goal

pub returns : goal.returns
returns c = λ tree h holds. c.look.ensures ∙ ap (look c.args.self.now) c.names.ensures.is ∙ look_is c.args.self.now tree h holds c.args.path.now
