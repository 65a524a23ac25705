use Rattle.std.proofs.Common.{sym, ap, subst, length, ◌∙◌}
use Rattle.tree_model.specs.Path.{parent_of}
use Rattle.tree_model.proofs.Fronts.{last_name}
use Rattle.node_table.specs.Held.{AreDirectories, held, slots_of}
use Rattle.node_table.specs.Walks.{look}
use Rattle.node_table.proofs.AcceptedLaws.{rename_goes, from_named, to_named, rename_above, rename_ready}
use Rattle.node_table.proofs.MoveLaws.{slot_there}
use Rattle.node_table.proofs.PlanLaws.{renamed_said, comes_back, comes_over}
use Rattle.node_table.proofs.PlannedLaws.{renamed_does}
use Rattle.node_table.proofs.WithinLaws.{comes_below, number_within, slot_below}
use Rattle.node_table.proofs.table.NodeTable.plan_rename.Goals as goal

pub unreachable-requires : goal.unreachable-requires
unreachable-requires c = rename_goes c.args.self.now c.args.from.now c.args.to.now c.requires (subst AreDirectories c.self.view_is c.self.invariant.directories) c.in_default.field-0 (sym c.may_rename.ensures ∙ c.in_default.is)

pub unreachable-requires-in_default-look : goal.unreachable-requires-in_default-look
unreachable-requires-in_default-look c =
    let last = last_name c.args.from.now (from_named c.args.self.now c.args.from.now c.args.to.now c.requires (subst AreDirectories c.self.view_is c.self.invariant.directories)) in
    rename_above c.args.self.now c.args.from.now c.args.to.now c.requires (subst AreDirectories c.self.view_is c.self.invariant.directories) last.0 last.1 c.in_default-look.field-0
    (ap (look c.args.self.now) (sym (c.parent_names.ensures ∙ ap parent_of c.names.ensures.is)) ∙ sym c.look.ensures ∙ c.in_default-look.is)

pub last_name-name-requires : goal.last_name-name-requires
last_name-name-requires c = from_named c.args.self.now c.args.from.now c.args.to.now c.requires (subst AreDirectories c.self.view_is c.self.invariant.directories)

pub last_name-into_name-requires : goal.last_name-into_name-requires
last_name-into_name-requires c = to_named c.args.self.now c.args.from.now c.args.to.now c.requires (subst AreDirectories c.self.view_is c.self.invariant.directories)

pub slot_in-from_slot-requires-clause-directory : goal.slot_in-from_slot-requires-clause-directory
slot_in-from_slot-requires-clause-directory c = (rename_ready c.args.self.now c.args.from.now c.args.to.now c.requires (subst AreDirectories c.self.view_is c.self.invariant.directories) c.in-Ok.plan (sym c.may_rename.ensures ∙ c.in-Ok.is) c.in-Ok-look.above (ap (look c.args.self.now) (sym (c.parent_names.ensures ∙ ap parent_of c.names.ensures.is)) ∙ sym c.look.ensures ∙ c.in-Ok-look.is) c.last_name-name.result.now c.last_name-into_name.result.now c.last_name-name.ensures c.last_name-into_name.ensures).directory

pub slot_in-from_slot-requires-clause-there : goal.slot_in-from_slot-requires-clause-there
slot_in-from_slot-requires-clause-there c = slot_there (slots_of (held c.args.self.now c.in-Ok-look.above.number)) c.last_name-name.result.now c.in-Ok.plan.number (rename_ready c.args.self.now c.args.from.now c.args.to.now c.requires (subst AreDirectories c.self.view_is c.self.invariant.directories) c.in-Ok.plan (sym c.may_rename.ensures ∙ c.in-Ok.is) c.in-Ok-look.above (ap (look c.args.self.now) (sym (c.parent_names.ensures ∙ ap parent_of c.names.ensures.is)) ∙ sym c.look.ensures ∙ c.in-Ok-look.is) c.last_name-name.result.now c.last_name-into_name.result.now c.last_name-name.ensures c.last_name-into_name.ensures).number_is

pub free_slot-first-requires : goal.free_slot-first-requires
free_slot-first-requires c = (rename_ready c.args.self.now c.args.from.now c.args.to.now c.requires (subst AreDirectories c.self.view_is c.self.invariant.directories) c.in-Ok.plan (sym c.may_rename.ensures ∙ c.in-Ok.is) c.in-Ok-look.above (ap (look c.args.self.now) (sym (c.parent_names.ensures ∙ ap parent_of c.names.ensures.is)) ∙ sym c.look.ensures ∙ c.in-Ok-look.is) c.last_name-name.result.now c.last_name-into_name.result.now c.last_name-name.ensures c.last_name-into_name.ensures).into_directory

pub returns-then-parent-plan-clause-said : goal.returns-then-parent-plan-clause-said
returns-then-parent-plan-clause-said c =
    let ready = rename_ready c.args.self.now c.args.from.now c.args.to.now c.requires (subst AreDirectories c.self.view_is c.self.invariant.directories) c.in-Ok.plan (sym c.may_rename.ensures ∙ c.in-Ok.is) c.in-Ok-look.above (ap (look c.args.self.now) (sym (c.parent_names.ensures ∙ ap parent_of c.names.ensures.is)) ∙ sym c.look.ensures ∙ c.in-Ok-look.is) c.last_name-name.result.now c.last_name-into_name.result.now c.last_name-name.ensures c.last_name-into_name.ensures in
    renamed_said c.args.self.now c.args.from.now c.args.to.now c.in-Ok.plan.number c.in-Ok-look.above.number c.slot_in-from_slot.result c.in-Ok.plan.to _ c.last_name-name.result.now c.last_name-name.ensures ready.leads ready.into_leads c.slot_in-from_slot.ensures ready.number_is
    (comes_back c.args.self.now c.in-Ok-look.above.number c.in-Ok.plan.to c.slot_in-from_slot.result c.free_slot-first.result c.min-to_slot.result c.if-parent-plan.true c.free_slot-first.ensures c.min-to_slot.ensures)

pub returns-else-parent-plan-clause-said : goal.returns-else-parent-plan-clause-said
returns-else-parent-plan-clause-said c =
    let ready = rename_ready c.args.self.now c.args.from.now c.args.to.now c.requires (subst AreDirectories c.self.view_is c.self.invariant.directories) c.in-Ok.plan (sym c.may_rename.ensures ∙ c.in-Ok.is) c.in-Ok-look.above (ap (look c.args.self.now) (sym (c.parent_names.ensures ∙ ap parent_of c.names.ensures.is)) ∙ sym c.look.ensures ∙ c.in-Ok-look.is) c.last_name-name.result.now c.last_name-into_name.result.now c.last_name-name.ensures c.last_name-into_name.ensures in
    renamed_said c.args.self.now c.args.from.now c.args.to.now c.in-Ok.plan.number c.in-Ok-look.above.number c.slot_in-from_slot.result c.in-Ok.plan.to _ c.last_name-name.result.now c.last_name-name.ensures ready.leads ready.into_leads c.slot_in-from_slot.ensures ready.number_is
    (comes_over c.args.self.now c.in-Ok-look.above.number c.in-Ok.plan.to c.slot_in-from_slot.result c.free_slot-first.result c.if-parent-plan.false c.free_slot-first.ensures)

pub returns-then-parent-plan-clause-done : goal.returns-then-parent-plan-clause-done
returns-then-parent-plan-clause-done c =
    let ready = rename_ready c.args.self.now c.args.from.now c.args.to.now c.requires (subst AreDirectories c.self.view_is c.self.invariant.directories) c.in-Ok.plan (sym c.may_rename.ensures ∙ c.in-Ok.is) c.in-Ok-look.above (ap (look c.args.self.now) (sym (c.parent_names.ensures ∙ ap parent_of c.names.ensures.is)) ∙ sym c.look.ensures ∙ c.in-Ok-look.is) c.last_name-name.result.now c.last_name-into_name.result.now c.last_name-name.ensures c.last_name-into_name.ensures in
    renamed_does c.args.self.now c.args.from.now c.args.to.now c.in-Ok.plan.number c.in-Ok-look.above.number c.slot_in-from_slot.result c.in-Ok.plan.to _ c.last_name-name.result.now c.last_name-into_name.result.now (ap length (sym c.self.view_is) ∙ c.self.invariant.places) ready
    c.last_name-name.ensures c.last_name-into_name.ensures c.slot_in-from_slot.ensures
    (comes_back c.args.self.now c.in-Ok-look.above.number c.in-Ok.plan.to c.slot_in-from_slot.result c.free_slot-first.result c.min-to_slot.result c.if-parent-plan.true c.free_slot-first.ensures c.min-to_slot.ensures)

pub returns-else-parent-plan-clause-done : goal.returns-else-parent-plan-clause-done
returns-else-parent-plan-clause-done c =
    let ready = rename_ready c.args.self.now c.args.from.now c.args.to.now c.requires (subst AreDirectories c.self.view_is c.self.invariant.directories) c.in-Ok.plan (sym c.may_rename.ensures ∙ c.in-Ok.is) c.in-Ok-look.above (ap (look c.args.self.now) (sym (c.parent_names.ensures ∙ ap parent_of c.names.ensures.is)) ∙ sym c.look.ensures ∙ c.in-Ok-look.is) c.last_name-name.result.now c.last_name-into_name.result.now c.last_name-name.ensures c.last_name-into_name.ensures in
    renamed_does c.args.self.now c.args.from.now c.args.to.now c.in-Ok.plan.number c.in-Ok-look.above.number c.slot_in-from_slot.result c.in-Ok.plan.to _ c.last_name-name.result.now c.last_name-into_name.result.now (ap length (sym c.self.view_is) ∙ c.self.invariant.places) ready
    c.last_name-name.ensures c.last_name-into_name.ensures c.slot_in-from_slot.ensures
    (comes_over c.args.self.now c.in-Ok-look.above.number c.in-Ok.plan.to c.slot_in-from_slot.result c.free_slot-first.result c.if-parent-plan.false c.free_slot-first.ensures)

pub returns-then-parent-plan-clause-within : goal.returns-then-parent-plan-clause-within
returns-then-parent-plan-clause-within c =
    let ready = rename_ready c.args.self.now c.args.from.now c.args.to.now c.requires (subst AreDirectories c.self.view_is c.self.invariant.directories) c.in-Ok.plan (sym c.may_rename.ensures ∙ c.in-Ok.is) c.in-Ok-look.above (ap (look c.args.self.now) (sym (c.parent_names.ensures ∙ ap parent_of c.names.ensures.is)) ∙ sym c.look.ensures ∙ c.in-Ok-look.is) c.last_name-name.result.now c.last_name-into_name.result.now c.last_name-name.ensures c.last_name-into_name.ensures in
    let below = slot_below c.args.self.now (subst AreDirectories c.self.view_is c.self.invariant.directories) c.in-Ok-look.above.number c.slot_in-from_slot.result c.last_name-name.result.now ready.directory c.slot_in-from_slot.ensures in (
      (ready.at_least, ready.at_most),
      number_within c.args.self.now c.requires.tree c.requires.is_tree c.requires.holds c.in-Ok-look.above.number _ ready.directory,
      below,
      number_within c.args.self.now c.requires.tree c.requires.is_tree c.requires.holds c.in-Ok.plan.to _ ready.into_directory,
      comes_below c.args.self.now c.in-Ok-look.above.number c.in-Ok.plan.to c.slot_in-from_slot.result _ below ready.room (comes_back c.args.self.now c.in-Ok-look.above.number c.in-Ok.plan.to c.slot_in-from_slot.result c.free_slot-first.result c.min-to_slot.result c.if-parent-plan.true c.free_slot-first.ensures c.min-to_slot.ensures),
    )

pub returns-else-parent-plan-clause-within : goal.returns-else-parent-plan-clause-within
returns-else-parent-plan-clause-within c =
    let ready = rename_ready c.args.self.now c.args.from.now c.args.to.now c.requires (subst AreDirectories c.self.view_is c.self.invariant.directories) c.in-Ok.plan (sym c.may_rename.ensures ∙ c.in-Ok.is) c.in-Ok-look.above (ap (look c.args.self.now) (sym (c.parent_names.ensures ∙ ap parent_of c.names.ensures.is)) ∙ sym c.look.ensures ∙ c.in-Ok-look.is) c.last_name-name.result.now c.last_name-into_name.result.now c.last_name-name.ensures c.last_name-into_name.ensures in
    let below = slot_below c.args.self.now (subst AreDirectories c.self.view_is c.self.invariant.directories) c.in-Ok-look.above.number c.slot_in-from_slot.result c.last_name-name.result.now ready.directory c.slot_in-from_slot.ensures in (
      (ready.at_least, ready.at_most),
      number_within c.args.self.now c.requires.tree c.requires.is_tree c.requires.holds c.in-Ok-look.above.number _ ready.directory,
      below,
      number_within c.args.self.now c.requires.tree c.requires.is_tree c.requires.holds c.in-Ok.plan.to _ ready.into_directory,
      comes_below c.args.self.now c.in-Ok-look.above.number c.in-Ok.plan.to c.slot_in-from_slot.result _ below ready.room (comes_over c.args.self.now c.in-Ok-look.above.number c.in-Ok.plan.to c.slot_in-from_slot.result c.free_slot-first.result c.if-parent-plan.false c.free_slot-first.ensures),
    )
