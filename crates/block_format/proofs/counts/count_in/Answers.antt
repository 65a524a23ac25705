use Rattle.std.proofs.Common.{ℕ, List, length, ◌*◌, ap, ◌∙◌, arith}
use Rattle.std.proofs.lemmas.Slice.{between_to_end}
use Rattle.byteorder.specs.Endian.{little_number}
use Rattle.block_format.proofs.WordLaws.{words-at}
use Rattle.block_format.proofs.counts.count_in.Goals as goal

pub returns : goal.returns
returns c =
    let bytes = c.args.bytes.now in
    let k = c.args.k in
    c.read_u32.ensures ∙ ap (λ (xs : List ℕ). little_number 4 xs) (between_to_end bytes (4 * k) (length bytes) (omega arith)) ∙ words-at k bytes (omega arith)
