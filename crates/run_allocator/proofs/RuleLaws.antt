-- The runs that are taken by the rule are those that it computes.
use Rattle.std.proofs.Common.{◌≡◌, ◌<◌, ◌≤◌, ℕ, ◌+◌, ◌-◌, ◌==◌, Bool, true, false, List, [], ◌∷◌, length, refl, ap, sym, ◌∙◌, subst, arith}
use Rattle.std.specs.Prelude.{Some, None, Option, nat_lt, if◌then◌else◌}
use Rattle.std.proofs.lemmas.Bool.Decides.{nat_tests}
use Rattle.vol_numbers.specs.declared.runs.Run.{Run}
use Rattle.run_allocator.specs.Runs.{outside}
use Rattle.run_allocator.specs.Taken.{with_number, runs_of, first_fit, longer, longest, front, step_or, step_taken, AreTaken, done, more, taken_or, taken_in, taken_runs}

-- each run has a block
abbrev AreSome : List Run → Type 0
AreSome [] = Unit {0}
AreSome (r ∷ rs) = (1 ≤ r.length) × AreSome rs

with_some : (b : ℕ) (rs : List Run) → AreSome rs → AreSome (with_number b rs)
with_some b [] are = (omega arith, tt)
with_some b (r ∷ rs) are = by_test (b + 1 == r.first)
  where
    by_test : (t : Bool) → AreSome (if t then record { first = b; length = r.length + 1 } ∷ rs else record { first = b; length = 1 } ∷ r ∷ rs)
    by_test true = (omega arith, are.1)
    by_test false = (omega arith, are)

runs_some : (free : List ℕ) → AreSome (runs_of free)
runs_some [] = tt
runs_some (b ∷ bs) = with_some b (runs_of bs) (runs_some bs)

longer_some : (x : Run) (o : Option Run) (r : Run) → 1 ≤ x.length → ((s : Run) → o ≡ Some s → 1 ≤ s.length) → longer x o ≡ Some r → 1 ≤ r.length
longer_some x None r some others is = let same : x ≡ r = cc in subst (λ (y : Run). 1 ≤ y.length) same some
longer_some x (Some s) r some others is = by_test (nat_lt x.length s.length) is
  where
    by_test : (t : Bool) → (if t then Some s else Some x) ≡ Some r → 1 ≤ r.length
    by_test true is = let same : s ≡ r = cc in subst (λ (y : Run). 1 ≤ y.length) same (others s refl)
    by_test false is = let same : x ≡ r = cc in subst (λ (y : Run). 1 ≤ y.length) same some

longest_some : (rs : List Run) (r : Run) → AreSome rs → longest rs ≡ Some r → 1 ≤ r.length
longest_some [] r are is = cc
longest_some (x ∷ xs) r are is = longer_some x (longest xs) r are.0 (λ s e. longest_some xs s are.1 e) is

step_some : (n : ℕ) (free : List ℕ) (r : Run) → 0 < n → step_taken n free ≡ Some r → 1 ≤ r.length
step_some n free r some is = of_fit (first_fit n (runs_of free)) is
  where
    of_fit : (o : Option Run) → step_or n o (longest (runs_of free)) ≡ Some r → 1 ≤ r.length
    of_fit (Some s) is = let same : front s n ≡ r = cc in subst (λ (y : Run). 1 ≤ y.length) same (omega (arith, some))
    of_fit None is = longest_some (runs_of free) r (runs_some free) is

taken_in_is : (steps free : List ℕ) (n : ℕ) (runs : List Run) → n ≤ length steps → AreTaken free n runs → runs ≡ taken_in steps free n
taken_in_is [] free n [] enough t = refl
taken_in_is [] free n (r ∷ rs) enough (more _ _ _ _ some _ _) = absurd (omega (arith, some, enough))
taken_in_is (x ∷ steps) free n [] enough (done _) = refl
taken_in_is (x ∷ steps) free n (r ∷ rs) enough (more _ _ _ _ some is rest) =
    let one = step_some n free r some is in
    let t : (n == 0) ≡ false = grind (arith, nat_tests, some) in
    let after = taken_in_is steps (outside free r) (n - r.length) rs (omega (arith, enough, one)) rest in
    sym (ap (λ (b : Bool). if b then [] else taken_or (step_taken n free) (λ q. taken_in steps (outside free q) (n - q.length))) t
    ∙ (ap (λ (o : Option Run). taken_or o (λ q. taken_in steps (outside free q) (n - q.length))) is
    ∙ ap (λ (qs : List Run). r ∷ qs) (sym after)))

pub taken_is : (free : List ℕ) (n : ℕ) (runs : List Run) → n ≤ length free → AreTaken free n runs → runs ≡ taken_runs free n
taken_is free n runs enough t = taken_in_is free free n runs enough t
