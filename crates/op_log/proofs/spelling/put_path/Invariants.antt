use Rattle.std.proofs.Common.{◌≡◌, ◌++◌, take}
use Rattle.std.specs.Prelude.{All}
use Rattle.vol_numbers.specs.Name.{IsName}
use Rattle.op_log.specs.Record.{path_bytes}
use Rattle.op_log.proofs.spelling.put_path.Given as goal

abbrev pub invariant-loop-name : goal.invariant-loop-name
invariant-loop-name l = record {
  written : l.head.items ≡ l.fn.head.items ++ path_bytes (take l.name-index l.name-items);
  names : All IsName (take l.name-index l.name-items);
}
