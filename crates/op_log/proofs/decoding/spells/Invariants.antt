use Rattle.std.proofs.Common.{◌≡◌, ◌<◌, ℕ}
use Rattle.op_log.specs.Record.{record_block}
use Rattle.op_log.specs.Reading.{bytes_block}
use Rattle.op_log.proofs.decoding.spells.Given as goal

-- each block was that of the record
abbrev pub invariant-loop-i : goal.invariant-loop-i
invariant-loop-i l = (k : ℕ) → k < l.i → bytes_block l.bytes k ≡ record_block l.command k
