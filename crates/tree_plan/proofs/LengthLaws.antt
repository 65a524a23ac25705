-- How many blocks there are, from how often each is there.
use Rattle.std.proofs.Common.{◌≡◌, ℕ, suc, ◌+◌, ◌≤◌, Bool, true, false, cond, List, [], ◌∷◌, length, refl, ap, arith}
use Rattle.std.specs.Prelude.{nat_eq}
use Rattle.std.proofs.lemmas.Bool.{eqb-true}
use Rattle.std.proofs.lemmas.Bool.Decides.{nat_tests}
use Rattle.place_words.specs.Different.{times}

-- without the first of these that is this one
abbrev without_one : ℕ → List ℕ → List ℕ
without_one x [] = []
without_one x (y ∷ ys) = cond (nat_eq y x) ys (y ∷ without_one x ys)

abbrev one_if : Bool → ℕ
one_if t = cond t 1 0

own_test : (x : ℕ) → nat_eq x x ≡ true
own_test x = grind (arith, nat_tests)

shorter : (x : ℕ) (ys : List ℕ) → 1 ≤ times x ys → length ys ≡ length (without_one x ys) + 1
shorter x [] some = absurd (omega (arith, some))
shorter x (y ∷ ys) some = by (nat_eq y x) some (shorter x ys)
  where
    by : (t : Bool) → 1 ≤ one_if t + times x ys → (1 ≤ times x ys → length ys ≡ length (without_one x ys) + 1) → suc (length ys) ≡ length (cond t ys (y ∷ without_one x ys)) + 1
    by true some more = omega arith
    by false some more = let rest = more (omega (arith, some)) in omega (arith, rest)

left_times : (x b : ℕ) (ys : List ℕ) → 1 ≤ times x ys → times b ys ≡ one_if (nat_eq x b) + times b (without_one x ys)
left_times x b [] some = absurd (omega (arith, some))
left_times x b (y ∷ ys) some = by (nat_eq y x) refl some (left_times x b ys)
  where
    by : (t : Bool) → nat_eq y x ≡ t → 1 ≤ one_if t + times x ys → (1 ≤ times x ys → times b ys ≡ one_if (nat_eq x b) + times b (without_one x ys))
        → one_if (nat_eq y b) + times b ys ≡ one_if (nat_eq x b) + times b (cond t ys (y ∷ without_one x ys))
    by true is some more = ap (λ (k : ℕ). one_if (nat_eq k b) + times b ys) (eqb-true y x is)
    by false is some more = let rest = more (omega (arith, some)) in omega (arith, rest)

-- a list of which each number stands at most as often in another is at most as long
pub times_length : (xs ys : List ℕ) → ((b : ℕ) → times b xs ≤ times b ys) → length xs ≤ length ys
times_length [] ys each = omega arith
times_length (x ∷ xs) ys each =
    let some : 1 ≤ times x ys = omega (arith, each x, ap one_if (own_test x)) in
    let rest = times_length xs (without_one x ys) (λ b. omega (arith, each b, left_times x b ys some)) in
    omega (arith, rest, shorter x ys some)
