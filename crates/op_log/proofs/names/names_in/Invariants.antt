use Rattle.std.proofs.Common.{◌≡◌, length}
use Rattle.std.specs.Prelude.{All}
use Rattle.vol_numbers.specs.Name.{IsName}
use Rattle.tree_model.specs.Path.{Path}
use Rattle.op_log.specs.Record.{path_bytes}
use Rattle.op_log.proofs.NameLemmas.{Left}
use Rattle.op_log.proofs.names.names_in.Given as goal

abbrev pub invariant-loop-rest : goal.invariant-loop-rest
invariant-loop-rest l = (path : Path) → All IsName path → path_bytes path ≡ l.fn.bytes → Left l.names.items path l.rest

abbrev pub decreases-loop-rest : goal.decreases-loop-rest
decreases-loop-rest l = length l.rest
