use Rattle.std.proofs.Common.{sym, ap, subst, ◌∙◌}
use Rattle.tree_model.specs.Path.{parent_of}
use Rattle.tree_model.proofs.Fronts.{last_name}
use Rattle.node_table.specs.Held.{AreDirectories}
use Rattle.node_table.specs.Walks.{look}
use Rattle.node_table.proofs.AcceptedLaws.{rename_goes, from_named, to_named, rename_above, rename_ready}
use Rattle.node_table.proofs.table.NodeTable.rename.Goals as goal

pub unreachable-requires : goal.unreachable-requires
unreachable-requires c = rename_goes c.args.self.now c.args.from.now c.args.to.now c.requires (subst AreDirectories c.self.view_is c.self.invariant.directories) c.in_default.field-0 (sym c.may_rename.ensures ∙ c.in_default.is)

pub unreachable-requires-in_default-look : goal.unreachable-requires-in_default-look
unreachable-requires-in_default-look c =
    let last = last_name c.args.from.now (from_named c.args.self.now c.args.from.now c.args.to.now c.requires (subst AreDirectories c.self.view_is c.self.invariant.directories)) in
    rename_above c.args.self.now c.args.from.now c.args.to.now c.requires (subst AreDirectories c.self.view_is c.self.invariant.directories) last.0 last.1 c.in_default-look.field-0
    (ap (look c.args.self.now) (sym (c.parent_names.ensures ∙ ap parent_of c.names.ensures.is)) ∙ sym c.look.ensures ∙ c.in_default-look.is)

pub last_name-requires : goal.last_name-requires
last_name-requires c = from_named c.args.self.now c.args.from.now c.args.to.now c.requires (subst AreDirectories c.self.view_is c.self.invariant.directories)

pub last_name-requires-2 : goal.last_name-requires-2
last_name-requires-2 c = to_named c.args.self.now c.args.from.now c.args.to.now c.requires (subst AreDirectories c.self.view_is c.self.invariant.directories)

pub move_entry-requires-clause-directory : goal.move_entry-requires-clause-directory
move_entry-requires-clause-directory c = (rename_ready c.args.self.now c.args.from.now c.args.to.now c.requires (subst AreDirectories c.self.view_is c.self.invariant.directories) c.in-Ok.plan (sym c.may_rename.ensures ∙ c.in-Ok.is) c.in-Ok-look.above (ap (look c.args.self.now) (sym (c.parent_names.ensures ∙ ap parent_of c.names.ensures.is)) ∙ sym c.look.ensures ∙ c.in-Ok-look.is) c.last_name.result.now c.last_name-2.result.now c.last_name.ensures c.last_name-2.ensures).directory

pub move_entry-requires-clause-into : goal.move_entry-requires-clause-into
move_entry-requires-clause-into c = (rename_ready c.args.self.now c.args.from.now c.args.to.now c.requires (subst AreDirectories c.self.view_is c.self.invariant.directories) c.in-Ok.plan (sym c.may_rename.ensures ∙ c.in-Ok.is) c.in-Ok-look.above (ap (look c.args.self.now) (sym (c.parent_names.ensures ∙ ap parent_of c.names.ensures.is)) ∙ sym c.look.ensures ∙ c.in-Ok-look.is) c.last_name.result.now c.last_name-2.result.now c.last_name.ensures c.last_name-2.ensures).into_directory

pub move_entry-requires-clause-there : goal.move_entry-requires-clause-there
move_entry-requires-clause-there c = (rename_ready c.args.self.now c.args.from.now c.args.to.now c.requires (subst AreDirectories c.self.view_is c.self.invariant.directories) c.in-Ok.plan (sym c.may_rename.ensures ∙ c.in-Ok.is) c.in-Ok-look.above (ap (look c.args.self.now) (sym (c.parent_names.ensures ∙ ap parent_of c.names.ensures.is)) ∙ sym c.look.ensures ∙ c.in-Ok-look.is) c.last_name.result.now c.last_name-2.result.now c.last_name.ensures c.last_name-2.ensures).number_is

pub move_entry-requires-clause-absent : goal.move_entry-requires-clause-absent
move_entry-requires-clause-absent c = (rename_ready c.args.self.now c.args.from.now c.args.to.now c.requires (subst AreDirectories c.self.view_is c.self.invariant.directories) c.in-Ok.plan (sym c.may_rename.ensures ∙ c.in-Ok.is) c.in-Ok-look.above (ap (look c.args.self.now) (sym (c.parent_names.ensures ∙ ap parent_of c.names.ensures.is)) ∙ sym c.look.ensures ∙ c.in-Ok-look.is) c.last_name.result.now c.last_name-2.result.now c.last_name.ensures c.last_name-2.ensures).absent

pub move_entry-requires-clause-number : goal.move_entry-requires-clause-number
move_entry-requires-clause-number c = (rename_ready c.args.self.now c.args.from.now c.args.to.now c.requires (subst AreDirectories c.self.view_is c.self.invariant.directories) c.in-Ok.plan (sym c.may_rename.ensures ∙ c.in-Ok.is) c.in-Ok-look.above (ap (look c.args.self.now) (sym (c.parent_names.ensures ∙ ap parent_of c.names.ensures.is)) ∙ sym c.look.ensures ∙ c.in-Ok-look.is) c.last_name.result.now c.last_name-2.result.now c.last_name.ensures c.last_name-2.ensures).at_least

pub move_entry-requires-clause-at_most : goal.move_entry-requires-clause-at_most
move_entry-requires-clause-at_most c = (rename_ready c.args.self.now c.args.from.now c.args.to.now c.requires (subst AreDirectories c.self.view_is c.self.invariant.directories) c.in-Ok.plan (sym c.may_rename.ensures ∙ c.in-Ok.is) c.in-Ok-look.above (ap (look c.args.self.now) (sym (c.parent_names.ensures ∙ ap parent_of c.names.ensures.is)) ∙ sym c.look.ensures ∙ c.in-Ok-look.is) c.last_name.result.now c.last_name-2.result.now c.last_name.ensures c.last_name-2.ensures).at_most

pub move_entry-requires-clause-room : goal.move_entry-requires-clause-room
move_entry-requires-clause-room c = (rename_ready c.args.self.now c.args.from.now c.args.to.now c.requires (subst AreDirectories c.self.view_is c.self.invariant.directories) c.in-Ok.plan (sym c.may_rename.ensures ∙ c.in-Ok.is) c.in-Ok-look.above (ap (look c.args.self.now) (sym (c.parent_names.ensures ∙ ap parent_of c.names.ensures.is)) ∙ sym c.look.ensures ∙ c.in-Ok-look.is) c.last_name.result.now c.last_name-2.result.now c.last_name.ensures c.last_name-2.ensures).room

pub returns-clause-renamed : goal.returns-clause-renamed
returns-clause-renamed c =
    let ready = rename_ready c.args.self.now c.args.from.now c.args.to.now c.requires (subst AreDirectories c.self.view_is c.self.invariant.directories) c.in-Ok.plan (sym c.may_rename.ensures ∙ c.in-Ok.is) c.in-Ok-look.above (ap (look c.args.self.now) (sym (c.parent_names.ensures ∙ ap parent_of c.names.ensures.is)) ∙ sym c.look.ensures ∙ c.in-Ok-look.is) c.last_name.result.now c.last_name-2.result.now c.last_name.ensures c.last_name-2.ensures in
    record {
      name = c.last_name.result.now;
      into_name = c.last_name-2.result.now;
      from_is = c.last_name.ensures;
      to_is = c.last_name-2.ensures;
      parent_is = ready.leads;
      into_is = ready.into_leads;
      entry = c.in_ok-moved.ensures.moved;
    }
