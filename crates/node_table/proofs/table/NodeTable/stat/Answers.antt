use Rattle.std.proofs.Common.{ap, sym, subst, ◌∙◌, Ok}
use Rattle.tree_model.specs.declared.reply.Reply.TheVariants.{Stat}
use Rattle.node_table.specs.Held.{AreDirectories}
use Rattle.node_table.specs.Walks.{look}
use Rattle.node_table.proofs.ListLaws.{stat_there, stat_refused}
use Rattle.node_table.proofs.table.NodeTable.stat.Goals as goal

pub returns-in-Err : goal.returns-in-Err
returns-in-Err c = λ tree h holds.
    stat_refused c.args.self.now tree h holds c.args.path.now c.in-Err.refusal (ap (look c.args.self.now) (sym c.names.ensures.is) ∙ sym c.look.ensures ∙ c.in-Err.is)

pub returns-in-Ok : goal.returns-in-Ok
returns-in-Ok c = λ tree h holds.
    stat_there c.args.self.now tree h holds (subst AreDirectories c.self.view_is c.self.invariant.directories) c.args.path.now c.in-Ok.found (ap (look c.args.self.now) (sym c.names.ensures.is) ∙ sym c.look.ensures ∙ c.in-Ok.is)
    ∙ (λ i. Ok (Stat (sym c.kind.ensures i) c.in-Ok.found.number (sym c.size_in.ensures i), tree))
