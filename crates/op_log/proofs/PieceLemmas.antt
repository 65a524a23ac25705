-- Pieces of two lists, one behind the other.
use Rattle.std.proofs.Common.{◌≡◌, ◌∙◌, ◌+◌, ◌-◌, ◌≤◌, ℕ, List, ◌++◌, length, take, drop, ap, arith}
use Rattle.std.proofs.Math.Seq.{take-append-add, drop-append-add}

pub take-append-over : (n : ℕ) (xs ys : List ℕ) → length xs ≤ n → take n (xs ++ ys) ≡ xs ++ take (n - length xs) ys
take-append-over n xs ys le =
    let same : n ≡ length xs + (n - length xs) = omega arith in
    ap (λ (k : ℕ). take k (xs ++ ys)) same ∙ take-append-add xs ys (n - length xs)

pub drop-append-over : (n : ℕ) (xs ys : List ℕ) → length xs ≤ n → drop n (xs ++ ys) ≡ drop (n - length xs) ys
drop-append-over n xs ys le =
    let same : n ≡ length xs + (n - length xs) = omega arith in
    ap (λ (k : ℕ). drop k (xs ++ ys)) same ∙ drop-append-add xs ys (n - length xs)
