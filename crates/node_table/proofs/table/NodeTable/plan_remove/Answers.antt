use Rattle.std.proofs.Common.{sym, ap, subst, length, ◌∙◌}
use Rattle.tree_model.specs.Path.{parent_of}
use Rattle.tree_model.proofs.Fronts.{last_name}
use Rattle.node_table.specs.Held.{AreDirectories, held, slots_of}
use Rattle.node_table.specs.Walks.{look}
use Rattle.node_table.proofs.AcceptedLaws.{remove_goes, remove_named, remove_above, remove_ready}
use Rattle.node_table.proofs.MoveLaws.{slot_there}
use Rattle.node_table.proofs.PlanLaws.{removed_said}
use Rattle.node_table.proofs.PlannedLaws.{removed_does}
use Rattle.node_table.proofs.WithinLaws.{number_within, slot_below}
use Rattle.node_table.proofs.table.NodeTable.plan_remove.Goals as goal

pub unreachable-requires : goal.unreachable-requires
unreachable-requires c = remove_goes c.args.self.now c.args.path.now c.requires (subst AreDirectories c.self.view_is c.self.invariant.directories) c.in_default.field-0 (sym c.may_remove.ensures ∙ c.in_default.is)

pub unreachable-requires-in_default-look : goal.unreachable-requires-in_default-look
unreachable-requires-in_default-look c =
    let last = last_name c.args.path.now (remove_named c.args.self.now c.args.path.now c.requires (subst AreDirectories c.self.view_is c.self.invariant.directories)) in
    remove_above c.args.self.now c.args.path.now c.requires (subst AreDirectories c.self.view_is c.self.invariant.directories) last.0 last.1 c.in_default-look.field-0
    (ap (look c.args.self.now) (sym (c.parent_names.ensures ∙ ap parent_of c.names.ensures.is)) ∙ sym c.look.ensures ∙ c.in_default-look.is)

pub last_name-requires : goal.last_name-requires
last_name-requires c = remove_named c.args.self.now c.args.path.now c.requires (subst AreDirectories c.self.view_is c.self.invariant.directories)

pub slot_in-slot-requires-clause-directory : goal.slot_in-slot-requires-clause-directory
slot_in-slot-requires-clause-directory c = (remove_ready c.args.self.now c.args.path.now c.requires (subst AreDirectories c.self.view_is c.self.invariant.directories) c.in-Ok.number (sym c.may_remove.ensures ∙ c.in-Ok.is) c.in-Ok-look.above (ap (look c.args.self.now) (sym (c.parent_names.ensures ∙ ap parent_of c.names.ensures.is)) ∙ sym c.look.ensures ∙ c.in-Ok-look.is) c.last_name.result.now c.last_name.ensures).directory

pub slot_in-slot-requires-clause-there : goal.slot_in-slot-requires-clause-there
slot_in-slot-requires-clause-there c =
    slot_there (slots_of (held c.args.self.now c.in-Ok-look.above.number)) c.last_name.result.now c.in-Ok.number (remove_ready c.args.self.now c.args.path.now c.requires (subst AreDirectories c.self.view_is c.self.invariant.directories) c.in-Ok.number (sym c.may_remove.ensures ∙ c.in-Ok.is) c.in-Ok-look.above (ap (look c.args.self.now) (sym (c.parent_names.ensures ∙ ap parent_of c.names.ensures.is)) ∙ sym c.look.ensures ∙ c.in-Ok-look.is) c.last_name.result.now c.last_name.ensures).number_is

pub returns-clause-said : goal.returns-clause-said
returns-clause-said c =
    let ready = remove_ready c.args.self.now c.args.path.now c.requires (subst AreDirectories c.self.view_is c.self.invariant.directories) c.in-Ok.number (sym c.may_remove.ensures ∙ c.in-Ok.is) c.in-Ok-look.above (ap (look c.args.self.now) (sym (c.parent_names.ensures ∙ ap parent_of c.names.ensures.is)) ∙ sym c.look.ensures ∙ c.in-Ok-look.is) c.last_name.result.now c.last_name.ensures in
    removed_said c.args.self.now c.args.path.now c.in-Ok-look.above.number c.slot_in-slot.result c.in-Ok.number c.last_name.result.now c.last_name.ensures ready.leads c.slot_in-slot.ensures ready.number_is

pub returns-clause-done : goal.returns-clause-done
returns-clause-done c =
    let ready = remove_ready c.args.self.now c.args.path.now c.requires (subst AreDirectories c.self.view_is c.self.invariant.directories) c.in-Ok.number (sym c.may_remove.ensures ∙ c.in-Ok.is) c.in-Ok-look.above (ap (look c.args.self.now) (sym (c.parent_names.ensures ∙ ap parent_of c.names.ensures.is)) ∙ sym c.look.ensures ∙ c.in-Ok-look.is) c.last_name.result.now c.last_name.ensures in
    removed_does c.args.self.now c.args.path.now c.in-Ok-look.above.number c.slot_in-slot.result c.in-Ok.number c.last_name.result.now (ap length (sym c.self.view_is) ∙ c.self.invariant.places) ready c.last_name.ensures c.slot_in-slot.ensures

pub returns-clause-within : goal.returns-clause-within
returns-clause-within c =
    let ready = remove_ready c.args.self.now c.args.path.now c.requires (subst AreDirectories c.self.view_is c.self.invariant.directories) c.in-Ok.number (sym c.may_remove.ensures ∙ c.in-Ok.is) c.in-Ok-look.above (ap (look c.args.self.now) (sym (c.parent_names.ensures ∙ ap parent_of c.names.ensures.is)) ∙ sym c.look.ensures ∙ c.in-Ok-look.is) c.last_name.result.now c.last_name.ensures in
    (number_within c.args.self.now c.requires.tree c.requires.is_tree c.requires.holds c.in-Ok-look.above.number _ ready.directory, slot_below c.args.self.now (subst AreDirectories c.self.view_is c.self.invariant.directories) c.in-Ok-look.above.number c.slot_in-slot.result c.last_name.result.now ready.directory c.slot_in-slot.ensures, (ready.at_least, ready.at_most))
