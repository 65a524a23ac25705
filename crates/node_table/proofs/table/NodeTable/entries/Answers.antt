use Rattle.std.proofs.Common.{ap, sym, subst, ◌∙◌}
use Rattle.node_table.specs.Held.{AreDirectories}
use Rattle.node_table.specs.Walks.{look}
use Rattle.node_table.proofs.OrderLaws.{none_listed, all_listed, ok_then}
use Rattle.node_table.proofs.table.NodeTable.entries.Goals as goal

pub returns-in-Err : goal.returns-in-Err
returns-in-Err c = λ tree h holds.
    c.new.ensures ∙ none_listed c.args.self.now c.args.path.now tree h holds c.in-Err.field-0 (ap (look c.args.self.now) (sym c.names.ensures.is) ∙ sym c.look.ensures ∙ c.in-Err.is)

pub returns-in-Ok : goal.returns-in-Ok
returns-in-Ok c =
    ok_then _ _ c.entries_in.result
    (λ sorted are tree h holds.
    all_listed c.args.self.now c.args.path.now tree h holds (subst AreDirectories c.self.view_is c.self.invariant.directories) c.in-Ok.found (ap (look c.args.self.now) (sym c.names.ensures.is) ∙ sym c.look.ensures ∙ c.in-Ok.is) sorted are)
    c.entries_in.ensures
