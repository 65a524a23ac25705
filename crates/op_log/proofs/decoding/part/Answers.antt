use Rattle.std.proofs.Common.{◌≡◌, ℕ, ◌+◌, ◌-◌, ◌*◌, take, drop, ap, arith}
use Rattle.op_log.proofs.decoding.part.Goals as goal

pub returns : goal.returns
returns c =
    let from : ℕ = 4096 * c.args.i in
    let len : from + 4096 - from ≡ 4096 = omega arith in
    ap (λ (n : ℕ). take n (drop from c.args.bytes.now)) len
