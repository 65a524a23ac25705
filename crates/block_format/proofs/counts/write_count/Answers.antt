use Rattle.std.proofs.Common.{◌≡◌, ◌∙◌, ◌*◌, ◌+◌, refl, ap, arith}
use Rattle.byteorder.specs.Endian.{little_bytes}
use Rattle.block_format.specs.Words.{words}
use Rattle.block_format.proofs.PartLaws.{with_part, renamed}
use Rattle.block_format.proofs.WordLaws.{words-put}
use Rattle.block_format.proofs.counts.write_count.Goals as goal

pub returns : goal.returns
returns c =
    let xs = c.args.into.now.bytes in
    let k = c.args.k in
    let put : c.put.new.bytes ≡ with_part xs (little_bytes 4 c.args.count) (4 * k) (4 * k + 4) = renamed c.put.new.bytes xs c.spelled.result (little_bytes 4 c.args.count) (4 * k) 4 c.put.ensures c.spelled.ensures refl in
    record { bytes = put; counts = ap words put ∙ words-put k xs c.args.count (omega arith) (omega arith) }
