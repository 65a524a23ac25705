use Rattle.std.proofs.Common.{◌+◌, arith, length, sym, ◌∙◌}
use Rattle.node_table.proofs.AcceptedLaws.{size_goes, write_ready}
use Rattle.node_table.proofs.PlanLaws.{sized_said}
use Rattle.node_table.proofs.PlannedLaws.{sized_does}
use Rattle.node_table.proofs.RefusalLaws.{write_same}
use Rattle.node_table.proofs.WithinLaws.{few_bytes, size_within}
use Rattle.node_table.proofs.table.NodeTable.plan_write.Goals as goal

pub unreachable-requires : goal.unreachable-requires
unreachable-requires c =
    size_goes c.args.self.now c.args.path.now _ (write_same c.args.self.now c.requires.tree c.requires.is_tree c.requires.holds c.args.path.now c.args.offset c.args.bytes.now ∙ c.requires.accepted)
    c.in_default.field-0 (sym c.may_write.ensures ∙ c.in_default.is)

pub file_size-requires : goal.file_size-requires
file_size-requires c = let ready = write_ready c.args.self.now c.args.path.now c.args.offset c.args.bytes.now c.requires c.in-Ok.number (sym c.may_write.ensures ∙ c.in-Ok.is) in (ready.before, ready.was)

pub returns-clause-said : goal.returns-clause-said
returns-clause-said c =
    let ready = write_ready c.args.self.now c.args.path.now c.args.offset c.args.bytes.now c.requires c.in-Ok.number (sym c.may_write.ensures ∙ c.in-Ok.is) in
    sized_said c.args.self.now c.args.path.now _ c.in-Ok.number c.file_size.result _ ready.leads c.file_size.ensures c.max-size.ensures

pub returns-clause-done : goal.returns-clause-done
returns-clause-done c =
    let ready = write_ready c.args.self.now c.args.path.now c.args.offset c.args.bytes.now c.requires c.in-Ok.number (sym c.may_write.ensures ∙ c.in-Ok.is) in
    sized_does c.args.self.now c.args.path.now _ c.in-Ok.number c.file_size.result _ ready.leads c.file_size.ensures c.max-size.ensures

pub returns-clause-within : goal.returns-clause-within
returns-clause-within c =
    let ready = write_ready c.args.self.now c.args.path.now c.args.offset c.args.bytes.now c.requires c.in-Ok.number (sym c.may_write.ensures ∙ c.in-Ok.is) in
    let few = few_bytes c.args.self.now c.args.path.now (c.args.offset + length c.args.bytes.now) c.in-Ok.number (sym c.may_write.ensures ∙ c.in-Ok.is) in
    let was = size_within c.args.self.now c.requires.tree c.requires.is_tree c.requires.holds c.in-Ok.number c.file_size.result c.file_size.ensures in
    ((ready.at_least, ready.at_most), omega (arith, c.max-size.ensures, few, was))
