-- Bytes behind those that are held.
use Rattle.std.proofs.Common.{◌≡◌, ◌∙◌, ◌+◌, ◌++◌, ◌≤◌, ℕ, List, drop, take, length, sym, ap, arith, append_assoc}
use Rattle.std.proofs.lemmas.Grind.{common_steps}
use Rattle.std.proofs.lemmas.List.{take-append-le, drop-append-le}
use Rattle.std.proofs.Math.Seq.{take-append-add}

take_twice : (n len : ℕ) (l : List ℕ) → n ≤ len → take n (take len l) ≡ take n l
take_twice n len l le = grind (arith, common_steps)

-- what stands behind the old bytes after a write there
pub written_behind : (old into rest tail : List ℕ) (start end count len : ℕ) → length old ≡ end → start ≤ end → count ≤ length into → end + count ≤ len
    → drop start (take (end + count) (take len (old ++ (into ++ rest) ++ tail))) ≡ drop start old ++ take count into
written_behind old into rest tail start end count len is within fits inside =
    let first = take_twice (end + count) len (old ++ (into ++ rest) ++ tail) inside in
    let regrouped = append_assoc old (into ++ rest) tail ∙ ap (λ (l : List ℕ). old ++ l) (append_assoc into rest tail) in
    let second = ap (λ (n : ℕ). take (n + count) (old ++ (into ++ (rest ++ tail)))) (sym is) ∙ take-append-add old (into ++ (rest ++ tail)) count ∙ ap (λ (l : List ℕ). old ++ l) (take-append-le count into (rest ++ tail) fits) in
    ap (drop start) (first ∙ ap (take (end + count)) regrouped ∙ second) ∙ drop-append-le start old (take count into) (omega arith)

-- more memory, and the old bytes at its front
pub old_front : (old : List ℕ) (more : List ℕ) (end most : ℕ) → length old ≡ end → take end (take (end + most) old ++ more) ≡ old
old_front old more end most is = grind (arith, common_steps)
