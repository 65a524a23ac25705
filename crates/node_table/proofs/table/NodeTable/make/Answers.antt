use Rattle.std.proofs.Common.{sym, subst, ◌∙◌}
use Rattle.node_table.specs.Held.{AreDirectories}
use Rattle.node_table.proofs.AcceptedLaws.{make_goes, number_goes, make_ready}
use Rattle.node_table.proofs.table.NodeTable.make.Goals as goal

pub unreachable-requires : goal.unreachable-requires
unreachable-requires c = make_goes c.args.self.now c.args.path.now c.requires.accepted c.in_default.field-0 (sym c.may_make.ensures ∙ c.in_default.is)

pub unreachable-requires-in_default-next_number : goal.unreachable-requires-in_default-next_number
unreachable-requires-in_default-next_number c = number_goes c.args.self.now c.args.path.now c.requires.accepted c.next_number.result c.next_number.ensures c.in_default-next_number.is

pub add_entry-requires-clause-directory : goal.add_entry-requires-clause-directory
add_entry-requires-clause-directory c = (make_ready c.args.self.now c.args.path.now c.requires.accepted (subst AreDirectories c.self.view_is c.self.invariant.directories) c.in-Ok.parent (sym c.may_make.ensures ∙ c.in-Ok.is) c.last_name.result.now c.last_name.ensures).directory

pub add_entry-requires-clause-absent : goal.add_entry-requires-clause-absent
add_entry-requires-clause-absent c = (make_ready c.args.self.now c.args.path.now c.requires.accepted (subst AreDirectories c.self.view_is c.self.invariant.directories) c.in-Ok.parent (sym c.may_make.ensures ∙ c.in-Ok.is) c.last_name.result.now c.last_name.ensures).absent

pub add_entry-requires-clause-room : goal.add_entry-requires-clause-room
add_entry-requires-clause-room c = (make_ready c.args.self.now c.args.path.now c.requires.accepted (subst AreDirectories c.self.view_is c.self.invariant.directories) c.in-Ok.parent (sym c.may_make.ensures ∙ c.in-Ok.is) c.last_name.result.now c.last_name.ensures).room

pub returns-clause-made : goal.returns-clause-made
returns-clause-made c = record {
  name = c.last_name.result.now;
  between = c.add_entry.new.self;
  path_is = c.last_name.ensures;
  parent_is = (make_ready c.args.self.now c.args.path.now c.requires.accepted (subst AreDirectories c.self.view_is c.self.invariant.directories) c.in-Ok.parent (sym c.may_make.ensures ∙ c.in-Ok.is) c.last_name.result.now c.last_name.ensures).leads;
  least = c.in-Some.ensures;
  entry = c.in_ok-slot.ensures.added;
  node = c.put.ensures;
}
