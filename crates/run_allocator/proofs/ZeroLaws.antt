-- The runs of the zeros of a list of counts, put together from above.
use Rattle.std.proofs.Common.{◌≡◌, ◌<◌, ◌≤◌, ℕ, suc, ◌+◌, ◌-◌, ◌==◌, Bool, true, false, List, [], ◌∷◌, ◌++◌, length, get_or, drop, refl, ap, ◌∙◌, arith}
use Rattle.std.specs.Prelude.{if◌then◌else◌}
use Rattle.std.proofs.lemmas.Bool.Decides.{nat_tests}
use Rattle.std.proofs.lemmas.List.{at_drop_more}
use Rattle.vol_numbers.specs.declared.runs.Run.{Run}
use Rattle.run_allocator.specs.Runs.{numbers_from, numbers_of, AreApart, zeros_from}
use Rattle.run_allocator.specs.Taken.{with_number}

-- one number more
pub with_numbers : (b : ℕ) (rs : List Run) → numbers_of (with_number b rs) ≡ b ∷ numbers_of rs
with_numbers b [] = refl
with_numbers b (r ∷ rs) = by_test (b + 1 == r.first) refl
  where
    by_test : (t : Bool) → (b + 1 == r.first) ≡ t → numbers_of (if t then record { first = b; length = r.length + 1 } ∷ rs else record { first = b; length = 1 } ∷ r ∷ rs) ≡ b ∷ numbers_of (r ∷ rs)
    by_test true is =
        let next : b + 1 ≡ r.first = grind (arith, nat_tests, is) in
        let one : r.length + 1 ≡ suc r.length = omega arith in
        ap (λ (n : ℕ). numbers_from b n ++ numbers_of rs) one ∙ ap (λ (f : ℕ). b ∷ (numbers_from f r.length ++ numbers_of rs)) next
    by_test false is = refl

pub with_apart : (b : ℕ) (rs : List Run) → b < 65536 → AreApart (b + 1) rs → AreApart b (with_number b rs)
with_apart b [] small are = (omega arith, omega arith, omega (arith, small), tt)
with_apart b (r ∷ rs) small are = by_test (b + 1 == r.first) refl
  where
    by_test : (t : Bool) → (b + 1 == r.first) ≡ t → AreApart b (if t then record { first = b; length = r.length + 1 } ∷ rs else record { first = b; length = 1 } ∷ r ∷ rs)
    by_test true is =
        let next : b + 1 ≡ r.first = grind (arith, nat_tests, is) in
        let end : b + (r.length + 1) + 1 ≡ r.first + r.length + 1 = omega (arith, next) in
        (omega arith, omega arith, omega (arith, next, are.2), rw end are.3)
    by_test false is =
        let other : b + 1 ≡ r.first → ⊥ = λ e. let t : (b + 1 == r.first) ≡ true = grind (arith, nat_tests, e) in cc in
        (omega arith, omega arith, omega (arith, small), (omega (arith, are.0, other), are.1, are.2, are.3))

-- the numbers of the zeros from one place before
pub zeros_more : (cs : List ℕ) (b d : ℕ) → 0 < b → b ≤ length cs → zeros_from (b - 1) (drop (b - 1) cs) ≡ (if get_or cs (b - 1) d == 0 then (b - 1) ∷ zeros_from b (drop b cs) else zeros_from b (drop b cs))
zeros_more cs b d some within =
    let e : b - 1 + 1 ≡ b = omega (arith, some) in
    at_drop_more (zeros_from (b - 1)) cs (b - 1) d (omega (arith, some, within))
    ∙ ap (λ (k : ℕ). if get_or cs (b - 1) d == 0 then (b - 1) ∷ zeros_from k (drop k cs) else zeros_from k (drop k cs)) e

pub zero_there : (cs : List ℕ) (b d : ℕ) → 0 < b → b ≤ length cs → (get_or cs (b - 1) d == 0) ≡ true → zeros_from (b - 1) (drop (b - 1) cs) ≡ (b - 1) ∷ zeros_from b (drop b cs)
zero_there cs b d some within is = zeros_more cs b d some within
    ∙ ap (λ (t : Bool). if t then (b - 1) ∷ zeros_from b (drop b cs) else zeros_from b (drop b cs)) is

pub none_there : (cs : List ℕ) (b d : ℕ) → 0 < b → b ≤ length cs → (get_or cs (b - 1) d == 0) ≡ false → zeros_from (b - 1) (drop (b - 1) cs) ≡ zeros_from b (drop b cs)
none_there cs b d some within not = zeros_more cs b d some within
    ∙ ap (λ (t : Bool). if t then (b - 1) ∷ zeros_from b (drop b cs) else zeros_from b (drop b cs)) not
