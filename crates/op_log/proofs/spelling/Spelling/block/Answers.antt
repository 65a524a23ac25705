use Rattle.std.proofs.Common.{◌∙◌, ◌-◌, ◌*◌, ◌≤◌, ◌++◌, List, ℕ, length, take, drop, sym, ap, arith}
use Rattle.op_log.specs.Record.{filled}
use Rattle.op_log.proofs.PieceLemmas.{drop-append-over}
use Rattle.op_log.proofs.spelling.Spelling.block.Goals as goal

pub returns-then-i-eq0 : goal.returns-then-i-eq0
returns-then-i-eq0 c =
    let text : List ℕ = c.args.self.now.head.items ++ c.args.self.now.payload.now in
    c.first_block.ensures ∙ ap (λ (l : List ℕ). filled (take 4096 (l ++ c.args.self.now.payload.now))) c.as_slice.ensures.value ∙ sym (ap (λ (n : ℕ). filled (take 4096 (drop (4096 * n) text))) c.if-i-eq0.true)

pub returns-else-i-eq0 : goal.returns-else-i-eq0
returns-else-i-eq0 c =
    let head : List ℕ = c.args.self.now.head.items in
    let payload : List ℕ = c.args.self.now.payload.now in
    let later : length head ≤ 4096 * c.args.i = omega (arith, c.len.ensures.value, c.len.ensures.fits, c.if-i-eq0.false) in
    c.later_block.ensures ∙ ap (λ (n : ℕ). filled (take 4096 (drop (4096 * c.args.i - n) payload))) c.len.ensures.value ∙ sym (ap (λ (l : List ℕ). filled (take 4096 l)) (drop-append-over (4096 * c.args.i) head payload later))
