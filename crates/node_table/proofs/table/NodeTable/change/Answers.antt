use Rattle.std.proofs.Common.{subst}
use Rattle.node_table.specs.Held.{AreDirectories}
use Rattle.node_table.proofs.DoesLaws.{does_hold}
use Rattle.node_table.proofs.table.NodeTable.change.Goals as goal

pub returns-clause-holds : goal.returns-clause-holds
returns-clause-holds c = λ tree h holds none.
    does_hold c.args.self.now c.carry_out.new.self tree h holds (subst AreDirectories c.self.view_is c.self.invariant.directories) (subst AreDirectories c.self-2.view_is c.self-2.invariant.directories)
    c.args.command.now c.in_ok-change.change c.requires.change none c.in_ok-change.ensures.done
