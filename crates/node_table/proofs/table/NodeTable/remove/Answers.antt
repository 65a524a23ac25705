use Rattle.std.proofs.Common.{sym, ap, subst, ◌∙◌}
use Rattle.tree_model.specs.Path.{parent_of}
use Rattle.tree_model.proofs.Fronts.{last_name}
use Rattle.node_table.specs.Held.{AreDirectories, held, slots_of}
use Rattle.node_table.specs.Walks.{look}
use Rattle.node_table.proofs.AcceptedLaws.{remove_goes, remove_named, remove_above, remove_ready}
use Rattle.node_table.proofs.MoveLaws.{slot_there}
use Rattle.node_table.proofs.table.NodeTable.remove.Goals as goal

pub unreachable-requires : goal.unreachable-requires
unreachable-requires c = remove_goes c.args.self.now c.args.path.now c.requires (subst AreDirectories c.self.view_is c.self.invariant.directories) c.in_default.field-0 (sym c.may_remove.ensures ∙ c.in_default.is)

pub unreachable-requires-in_default-look : goal.unreachable-requires-in_default-look
unreachable-requires-in_default-look c =
    let last = last_name c.args.path.now (remove_named c.args.self.now c.args.path.now c.requires (subst AreDirectories c.self.view_is c.self.invariant.directories)) in
    remove_above c.args.self.now c.args.path.now c.requires (subst AreDirectories c.self.view_is c.self.invariant.directories) last.0 last.1 c.in_default-look.field-0
    (ap (look c.args.self.now) (sym (c.parent_names.ensures ∙ ap parent_of c.names.ensures.is)) ∙ sym c.look.ensures ∙ c.in_default-look.is)

pub last_name-requires : goal.last_name-requires
last_name-requires c = remove_named c.args.self.now c.args.path.now c.requires (subst AreDirectories c.self.view_is c.self.invariant.directories)

pub remove_entry-slot-requires-clause-directory : goal.remove_entry-slot-requires-clause-directory
remove_entry-slot-requires-clause-directory c = (remove_ready c.args.self.now c.args.path.now c.requires (subst AreDirectories c.self.view_is c.self.invariant.directories) c.in-Ok.number (sym c.may_remove.ensures ∙ c.in-Ok.is) c.in-Ok-look.above (ap (look c.args.self.now) (sym (c.parent_names.ensures ∙ ap parent_of c.names.ensures.is)) ∙ sym c.look.ensures ∙ c.in-Ok-look.is) c.last_name.result.now c.last_name.ensures).directory

pub remove_entry-slot-requires-clause-there : goal.remove_entry-slot-requires-clause-there
remove_entry-slot-requires-clause-there c =
    slot_there (slots_of (held c.args.self.now c.in-Ok-look.above.number)) c.last_name.result.now c.in-Ok.number (remove_ready c.args.self.now c.args.path.now c.requires (subst AreDirectories c.self.view_is c.self.invariant.directories) c.in-Ok.number (sym c.may_remove.ensures ∙ c.in-Ok.is) c.in-Ok-look.above (ap (look c.args.self.now) (sym (c.parent_names.ensures ∙ ap parent_of c.names.ensures.is)) ∙ sym c.look.ensures ∙ c.in-Ok-look.is) c.last_name.result.now c.last_name.ensures).number_is

pub take_away-requires-clause-at_least : goal.take_away-requires-clause-at_least
take_away-requires-clause-at_least c = (remove_ready c.args.self.now c.args.path.now c.requires (subst AreDirectories c.self.view_is c.self.invariant.directories) c.in-Ok.number (sym c.may_remove.ensures ∙ c.in-Ok.is) c.in-Ok-look.above (ap (look c.args.self.now) (sym (c.parent_names.ensures ∙ ap parent_of c.names.ensures.is)) ∙ sym c.look.ensures ∙ c.in-Ok-look.is) c.last_name.result.now c.last_name.ensures).at_least

pub take_away-requires-clause-at_most : goal.take_away-requires-clause-at_most
take_away-requires-clause-at_most c = (remove_ready c.args.self.now c.args.path.now c.requires (subst AreDirectories c.self.view_is c.self.invariant.directories) c.in-Ok.number (sym c.may_remove.ensures ∙ c.in-Ok.is) c.in-Ok-look.above (ap (look c.args.self.now) (sym (c.parent_names.ensures ∙ ap parent_of c.names.ensures.is)) ∙ sym c.look.ensures ∙ c.in-Ok-look.is) c.last_name.result.now c.last_name.ensures).at_most

pub returns : goal.returns
returns c =
    let ready = remove_ready c.args.self.now c.args.path.now c.requires (subst AreDirectories c.self.view_is c.self.invariant.directories) c.in-Ok.number (sym c.may_remove.ensures ∙ c.in-Ok.is) c.in-Ok-look.above (ap (look c.args.self.now) (sym (c.parent_names.ensures ∙ ap parent_of c.names.ensures.is)) ∙ sym c.look.ensures ∙ c.in-Ok-look.is) c.last_name.result.now c.last_name.ensures in
    record {
      name = c.last_name.result.now;
      between = c.remove_entry-slot.new.self;
      path_is = c.last_name.ensures;
      parent_is = ready.leads;
      entry = record { directory = ready.directory; slot_is = c.remove_entry-slot.ensures.slot; number_is = ready.number_is; set = c.remove_entry-slot.ensures.removed };
      node = c.take_away.ensures;
    }
