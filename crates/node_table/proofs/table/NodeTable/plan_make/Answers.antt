use Rattle.std.proofs.Common.{arith, sym, ap, subst, length, ◌∙◌}
use Rattle.node_table.specs.Held.{AreDirectories}
use Rattle.node_table.proofs.AcceptedLaws.{make_goes, number_goes, make_ready}
use Rattle.node_table.proofs.PlanLaws.{made_said}
use Rattle.node_table.proofs.PlannedLaws.{made_does}
use Rattle.node_table.proofs.WithinLaws.{number_within}
use Rattle.node_table.proofs.table.NodeTable.plan_make.Goals as goal

pub unreachable-requires : goal.unreachable-requires
unreachable-requires c = make_goes c.args.self.now c.args.path.now c.requires c.in_default.field-0 (sym c.may_make.ensures ∙ c.in_default.is)

pub unreachable-requires-in_default-next_number : goal.unreachable-requires-in_default-next_number
unreachable-requires-in_default-next_number c = number_goes c.args.self.now c.args.path.now c.requires c.next_number.result c.next_number.ensures c.in_default-next_number.is

pub free_slot-slot-requires : goal.free_slot-slot-requires
free_slot-slot-requires c = (make_ready c.args.self.now c.args.path.now c.requires (subst AreDirectories c.self.view_is c.self.invariant.directories) c.in-Ok.parent (sym c.may_make.ensures ∙ c.in-Ok.is) c.last_name-name.result.now c.last_name-name.ensures).directory

pub returns-clause-said : goal.returns-clause-said
returns-clause-said c =
    let ready = make_ready c.args.self.now c.args.path.now c.requires (subst AreDirectories c.self.view_is c.self.invariant.directories) c.in-Ok.parent (sym c.may_make.ensures ∙ c.in-Ok.is) c.last_name-name.result.now c.last_name-name.ensures in
    made_said c.args.self.now c.args.path.now c.in-Ok.parent c.free_slot-slot.result c.in-Some.number ready.leads c.free_slot-slot.ensures c.in-Some.ensures

pub returns-clause-done : goal.returns-clause-done
returns-clause-done c =
    let ready = make_ready c.args.self.now c.args.path.now c.requires (subst AreDirectories c.self.view_is c.self.invariant.directories) c.in-Ok.parent (sym c.may_make.ensures ∙ c.in-Ok.is) c.last_name-name.result.now c.last_name-name.ensures in
    made_does c.args.self.now c.args.path.now c.in-Ok.parent c.free_slot-slot.result c.in-Some.number c.last_name-name.result.now (ap length (sym c.self.view_is) ∙ c.self.invariant.places) ready c.last_name-name.ensures c.free_slot-slot.ensures c.in-Some.ensures

pub returns-clause-within : goal.returns-clause-within
returns-clause-within c =
    let ready = make_ready c.args.self.now c.args.path.now c.requires (subst AreDirectories c.self.view_is c.self.invariant.directories) c.in-Ok.parent (sym c.may_make.ensures ∙ c.in-Ok.is) c.last_name-name.result.now c.last_name-name.ensures in
    (number_within c.args.self.now c.requires.tree c.requires.is_tree c.requires.holds c.in-Ok.parent _ ready.directory, omega (arith, c.free_slot-slot.ensures, ready.room), (c.in-Some.ensures.at_least, c.in-Some.ensures.at_most))
