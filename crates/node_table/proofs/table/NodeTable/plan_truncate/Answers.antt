use Rattle.std.proofs.Common.{refl, sym, ◌∙◌}
use Rattle.node_table.proofs.AcceptedLaws.{size_goes, truncate_ready}
use Rattle.node_table.proofs.PlanLaws.{sized_said}
use Rattle.node_table.proofs.PlannedLaws.{sized_does}
use Rattle.node_table.proofs.RefusalLaws.{truncate_same}
use Rattle.node_table.proofs.WithinLaws.{few_bytes}
use Rattle.node_table.proofs.table.NodeTable.plan_truncate.Goals as goal

pub unreachable-requires : goal.unreachable-requires
unreachable-requires c =
    size_goes c.args.self.now c.args.path.now c.args.size (truncate_same c.args.self.now c.requires.tree c.requires.is_tree c.requires.holds c.args.path.now c.args.size ∙ c.requires.accepted)
    c.in_default.field-0 (sym c.may_size.ensures ∙ c.in_default.is)

pub returns-clause-said : goal.returns-clause-said
returns-clause-said c =
    let ready = truncate_ready c.args.self.now c.args.path.now c.args.size c.requires c.in-Ok.number (sym c.may_size.ensures ∙ c.in-Ok.is) in
    sized_said c.args.self.now c.args.path.now (λ _. c.args.size) c.in-Ok.number ready.before c.args.size ready.leads ready.was refl

pub returns-clause-done : goal.returns-clause-done
returns-clause-done c =
    let ready = truncate_ready c.args.self.now c.args.path.now c.args.size c.requires c.in-Ok.number (sym c.may_size.ensures ∙ c.in-Ok.is) in
    sized_does c.args.self.now c.args.path.now (λ _. c.args.size) c.in-Ok.number ready.before c.args.size ready.leads ready.was refl

pub returns-clause-within : goal.returns-clause-within
returns-clause-within c =
    let ready = truncate_ready c.args.self.now c.args.path.now c.args.size c.requires c.in-Ok.number (sym c.may_size.ensures ∙ c.in-Ok.is) in
    ((ready.at_least, ready.at_most), few_bytes c.args.self.now c.args.path.now c.args.size c.in-Ok.number (sym c.may_size.ensures ∙ c.in-Ok.is))
