use Rattle.std.proofs.Common.{◌≡◌, ◌+◌, drop}
use Rattle.plain_tree.specs.Places.{place_of}
use Rattle.plain_tree.proofs.node_list.place_of.Given as goal

abbrev pub invariant-loop-i : goal.invariant-loop-i
invariant-loop-i l = l.i + place_of l.path (drop l.i l.nodes) ≡ place_of l.path l.nodes
