use Rattle.std.proofs.Common.{◌≡◌, ◌++◌, drop}
use Rattle.node_table.specs.Listing.{listed}
use Rattle.node_table.proofs.table.NodeTable.listed.Given as goal

-- what is left to list
abbrev pub invariant-loop-slot : goal.invariant-loop-slot
invariant-loop-slot l = l.entries.items ++ listed l.self (drop l.slot-index l.slot-items) ≡ listed l.self l.slot-items
