use Rattle.std.proofs.Common.{◌≡◌, ◌≤◌, ◌+◌, ◌*◌, drop}
use Rattle.tree_model.specs.Path.{path_length}
use Rattle.tree_model.proofs.path.path_length.Given as goal

abbrev pub invariant-loop-name : goal.invariant-loop-name
invariant-loop-name l = record { sum : l.total + path_length (drop l.name-index l.names) ≡ path_length l.names; at_most : l.total ≤ 251 * l.name-index }
