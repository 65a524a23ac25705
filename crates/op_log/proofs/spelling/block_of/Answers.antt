use Rattle.std.proofs.Common.{◌≡◌, ◌∙◌, ◌+◌, ◌-◌, ℕ, List, ◌++◌, length, drop, ap, arith}
use Rattle.std.specs.Prelude.{replicate}
use Rattle.std.proofs.lemmas.List.{drop-replicate}
use borrow.Rule.Slice.PartMut.{put_mid}
use Rattle.op_log.specs.Record.{filled}
use Rattle.op_log.proofs.HeaderLemmas.{rest_written}
use Rattle.op_log.proofs.spelling.block_of.Goals as goal

pub returns : goal.returns
returns c =
    let front : List ℕ = c.args.front.now in
    let rest : List ℕ = c.args.rest.now in
    let k : ℕ = length front + length rest - length front in
    let zeros : front ++ drop (length front) (replicate 4096 0) ≡ filled front = ap (λ (l : List ℕ). front ++ l) (drop-replicate (length front) 4096 0) in
    rw c.copy_from_slice.ensures.after (rw c.copy_from_slice-2.ensures.after (ap (λ (l : List ℕ). put_mid (length front) k l rest) zeros ∙ rest_written front rest k (omega arith)))
