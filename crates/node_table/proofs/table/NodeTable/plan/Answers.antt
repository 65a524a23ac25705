use Rattle.std.proofs.Common.{ℕ, ◌+◌, max, List, [], length, sym, subst}
use Rattle.tree_model.specs.declared.command.Command.{Command}
use Rattle.node_table.specs.Changes.{Does, IsSized}
use Rattle.node_table.specs.declared.held.HeldNode.TheVariants.{File, Directory}
use Rattle.node_table.proofs.table.NodeTable.plan.Goals as goal

pub returns-in-Write-clause-said : goal.returns-in-Write-clause-said
returns-in-Write-clause-said c = λ change new does.
    c.plan_write.ensures.said change new (subst (λ (bytes : List ℕ). IsSized c.in-Write.path (λ before. max before (c.in-Write.offset + length bytes)) change c.args.self.now new) (sym c.as_slice.ensures.is)
    (subst (λ (command : Command). Does command change c.args.self.now new) c.in-Write.is does))

pub returns-in-Truncate-clause-said : goal.returns-in-Truncate-clause-said
returns-in-Truncate-clause-said c = λ change new does. c.plan_truncate.ensures.said change new (subst (λ (command : Command). Does command change c.args.self.now new) c.in-Truncate.is does)

pub returns-in-Mkdir-clause-done : goal.returns-in-Mkdir-clause-done
returns-in-Mkdir-clause-done c =
    let done = c.plan_make.ensures.done (Directory []) in
    (done.0, subst (λ (command : Command). Does command c.plan_make.result c.args.self.now done.0) (sym c.in-Mkdir.is) done.1)

pub returns-in-Create-clause-done : goal.returns-in-Create-clause-done
returns-in-Create-clause-done c =
    let done = c.plan_make-in-Create.ensures.done (File 0) in
    (done.0, subst (λ (command : Command). Does command c.plan_make-in-Create.result c.args.self.now done.0) (sym c.in-Create.is) done.1)
