use Rattle.std.proofs.Common.{sym, ◌∙◌, refl}
use Rattle.node_table.proofs.AcceptedLaws.{size_goes, truncate_ready}
use Rattle.node_table.proofs.RefusalLaws.{truncate_same}
use Rattle.node_table.proofs.table.NodeTable.truncate.Goals as goal

pub unreachable-requires : goal.unreachable-requires
unreachable-requires c =
    size_goes c.args.self.now c.args.path.now c.args.size (truncate_same c.args.self.now c.requires.tree c.requires.is_tree c.requires.holds c.args.path.now c.args.size ∙ c.requires.accepted)
    c.in_default.field-0 (sym c.may_size.ensures ∙ c.in_default.is)

pub put-requires-clause-at_least : goal.put-requires-clause-at_least
put-requires-clause-at_least c = (truncate_ready c.args.self.now c.args.path.now c.args.size c.requires c.in-Ok.number (sym c.may_size.ensures ∙ c.in-Ok.is)).at_least

pub put-requires-clause-at_most : goal.put-requires-clause-at_most
put-requires-clause-at_most c = (truncate_ready c.args.self.now c.args.path.now c.args.size c.requires c.in-Ok.number (sym c.may_size.ensures ∙ c.in-Ok.is)).at_most

pub returns : goal.returns
returns c =
    let ready = truncate_ready c.args.self.now c.args.path.now c.args.size c.requires c.in-Ok.number (sym c.may_size.ensures ∙ c.in-Ok.is) in
    record { before = ready.before; path_is = ready.leads; was = ready.was; size_is = refl; node = c.put.ensures }
