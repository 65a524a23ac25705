use Rattle.std.proofs.Common.{◌≡◌, drop}
use Rattle.node_table.specs.Walks.{look, look_from}
use Rattle.node_table.proofs.table.NodeTable.look.Given as goal

-- what is left of the walk
abbrev pub invariant-loop-name : goal.invariant-loop-name
invariant-loop-name l = look_from l.self l.number (drop l.name-index l.path) ≡ look l.self l.path
