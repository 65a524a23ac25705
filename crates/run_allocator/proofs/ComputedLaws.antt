-- The runs that are computed are taken by the rule.
use Rattle.std.proofs.Common.{◌≡◌, ◌<◌, ◌≤◌, ◌↔◌, ℕ, zero, suc, ◌+◌, ◌-◌, ◌==◌, Bool, true, false, List, [], ◌∷◌, length, refl, ap, sym, ◌∙◌, subst, arith}
use Rattle.std.specs.Prelude.{slice_get, Some, None, Option, nat_le, nat_lt, if◌then◌else◌}
use Rattle.std.proofs.lemmas.Bool.Decides.{nat_tests}
use Rattle.vol_numbers.specs.declared.runs.Run.{Run}
use Rattle.run_allocator.specs.Runs.{numbers_of, outside, AreApart, Ascends}
use Rattle.run_allocator.specs.Taken.{with_number, runs_of, first_fit, longer, longest, front, step_or, step_taken, AreTaken, done, more, taken_or, taken_in, taken_runs}
use Rattle.run_allocator.specs.Steps.{take_at, IsPiece, IsStep}
use Rattle.run_allocator.specs.declared.pieces.Piece.{Piece}
use Rattle.run_allocator.proofs.RunLaws.{apart_lower}
use Rattle.run_allocator.proofs.ZeroLaws.{with_numbers, with_apart}
use Rattle.run_allocator.proofs.StepLaws.{apart_at, none_fits, cut_is_step}
use Rattle.run_allocator.proofs.RuleLaws.{taken_is}

-- ---- a step takes one of the runs

fit_there : (n : ℕ) (rs : List Run) (r : Run) → first_fit n rs ≡ Some r → (i : ℕ) × (slice_get rs i ≡ Some r) × (n ≤ r.length)
fit_there n [] r e = cc
fit_there n (x ∷ xs) r e = by_test (nat_le n x.length) refl e (λ later. fit_there n xs r later)
  where
    by_test : (t : Bool) → nat_le n x.length ≡ t → (if t then Some x else first_fit n xs) ≡ Some r
        → (first_fit n xs ≡ Some r → (i : ℕ) × (slice_get xs i ≡ Some r) × (n ≤ r.length)) → (i : ℕ) × (slice_get (x ∷ xs) i ≡ Some r) × (n ≤ r.length)
    by_test true is e rest = (zero, e, let same : x ≡ r = cc in subst (λ (y : Run). n ≤ y.length) same (let le : n ≤ x.length = grind (arith, nat_tests, is) in le))
    by_test false is e rest = let found = rest e in (suc found.0, found.1, found.2)

longer_there : (x : Run) (xs : List Run) (s r : Run) → (i : ℕ) × (slice_get xs i ≡ Some s) → longer x (Some s) ≡ Some r → (i : ℕ) × (slice_get (x ∷ xs) i ≡ Some r)
longer_there x xs s r found e = by_test (nat_lt x.length s.length) e
  where
    by_test : (t : Bool) → (if t then Some s else Some x) ≡ Some r → (i : ℕ) × (slice_get (x ∷ xs) i ≡ Some r)
    by_test true e = (suc found.0, found.1 ∙ e)
    by_test false e = (zero, e)

pub longest_there : (rs : List Run) (r : Run) → longest rs ≡ Some r → (i : ℕ) × (slice_get rs i ≡ Some r)
longest_there [] r e = cc
longest_there (x ∷ xs) r e = of_rest (longest xs) refl e (λ s is. longest_there xs s is)
  where
    of_rest : (o : Option Run) → longest xs ≡ o → longer x o ≡ Some r → ((s : Run) → longest xs ≡ Some s → (i : ℕ) × (slice_get xs i ≡ Some s)) → (i : ℕ) × (slice_get (x ∷ xs) i ≡ Some r)
    of_rest None is e rest = (zero, e)
    of_rest (Some s) is e rest = longer_there x xs s r (rest s is) e

some_longer : (x : Run) (o : Option Run) → (r : Run) × (longer x o ≡ Some r)
some_longer x None = (x, refl)
some_longer x (Some s) = by_test (nat_lt x.length s.length)
  where
    by_test : (t : Bool) → (r : Run) × ((if t then Some s else Some x) ≡ Some r)
    by_test true = (s, refl)
    by_test false = (x, refl)

some_piece : (runs : List Run) (n : ℕ) → AreApart 1 runs → 1 ≤ n → 1 ≤ length runs → (p : Piece) × IsPiece runs n p
some_piece [] n are some there = absurd (omega arith)
some_piece (x ∷ xs) n are some there = of_fit (first_fit n (x ∷ xs)) refl
  where
    of_fit : (o : Option Run) → first_fit n (x ∷ xs) ≡ o → (p : Piece) × IsPiece (x ∷ xs) n p
    of_fit (Some r) is =
        let found = fit_there n (x ∷ xs) r is in
        let at = apart_at 1 (x ∷ xs) found.0 r are found.1 in (
          record { index = found.0; run = r; length = n },
          record {
            part = record { there = found.1; index = at.2; positive = some; within = found.2; end = at.1 };
            at_most = omega arith;
            rule = ap (λ (o : Option Run). step_or n o (longest (x ∷ xs))) is;
          },
        )
    of_fit None is =
        let best = some_longer x (longest xs) in
        let found = longest_there (x ∷ xs) best.0 best.1 in
        let at = apart_at 1 (x ∷ xs) found.0 best.0 are found.1 in (
          record { index = found.0; run = best.0; length = best.0.length },
          record {
            part = record { there = found.1; index = at.2; positive = at.0; within = omega arith; end = at.1 };
            at_most = none_fits n (x ∷ xs) found.0 best.0 is found.1;
            rule = ap (λ (o : Option Run). step_or n o (longest (x ∷ xs))) is ∙ best.1;
          },
        )

-- ---- the steps that are computed

some_runs : (runs : List Run) → 1 ≤ length (numbers_of runs) → 1 ≤ length runs
some_runs [] le = le
some_runs (x ∷ xs) le = omega arith

-- the piece is taken of the runs
step_of : (runs : List Run) (n : ℕ) (p : Piece) → AreApart 1 runs → IsPiece runs n p → IsStep runs n (front p.run p.length) (take_at runs p.index p.length)
step_of runs n p are piece = cut_is_step runs n p (front p.run p.length) (take_at runs p.index p.length) are piece refl refl

some_step : (runs : List Run) (n : ℕ) → AreApart 1 runs → 1 ≤ n → 1 ≤ length runs → (r : Run) × (left : List Run) × IsStep runs n r left
some_step runs n are some there = of_piece (some_piece runs n are some there)
  where
    of_piece : (p : Piece) × IsPiece runs n p → (r : Run) × (left : List Run) × IsStep runs n r left
    of_piece (p, piece) = (front p.run p.length, take_at runs p.index p.length, step_of runs n p are piece)

-- a step, and then the steps from what is left
step_then : (steps free : List ℕ) (n : ℕ) (r : Run) → 0 < n → step_taken n free ≡ Some r → AreTaken (outside free r) (n - r.length) (taken_in steps (outside free r) (n - r.length))
    → AreTaken free n (taken_or (step_taken n free) (λ q. taken_in steps (outside free q) (n - q.length)))
step_then steps free n r some is rest =
    subst (λ (o : Option Run). AreTaken free n (taken_or o (λ q. taken_in steps (outside free q) (n - q.length)))) (sym is)
    (more free n r (taken_in steps (outside free r) (n - r.length)) some is rest)

none_wanted : (free : List ℕ) (n : ℕ) → 0 ≡ n → AreTaken free n []
none_wanted free n none = subst (λ (k : ℕ). AreTaken free k []) none (done free)

computed_of_runs : (steps : List ℕ) (runs : List Run) (n : ℕ) → AreApart 1 runs → n ≤ length steps → n ≤ length (numbers_of runs) → AreTaken (numbers_of runs) n (taken_in steps (numbers_of runs) n)
computed_of_runs [] runs n are few enough = none_wanted (numbers_of runs) n (omega (arith, few))
computed_of_runs (x ∷ steps) runs n are few enough = by_test (n == 0) refl (λ left k apart short there. computed_of_runs steps left k apart short there)
  where
    by_test : (t : Bool) → (n == 0) ≡ t
        → ((left : List Run) (k : ℕ) → AreApart 1 left → k ≤ length steps → k ≤ length (numbers_of left) → AreTaken (numbers_of left) k (taken_in steps (numbers_of left) k))
        → AreTaken (numbers_of runs) n (if t then [] else taken_or (step_taken n (numbers_of runs)) (λ q. taken_in steps (outside (numbers_of runs) q) (n - q.length)))
    by_test true is later = none_wanted (numbers_of runs) n (let none : 0 ≡ n = grind (arith, nat_tests, is) in none)
    by_test false is later =
        let some : 0 < n = grind (arith, nat_tests, is) in
        of_step some (some_step runs n are some (some_runs runs (omega (arith, some, enough))))
      where
        of_step : 0 < n → (r : Run) × (left : List Run) × IsStep runs n r left
            → AreTaken (numbers_of runs) n (taken_or (step_taken n (numbers_of runs)) (λ q. taken_in steps (outside (numbers_of runs) q) (n - q.length)))
        of_step some (r, left, step) =
            let rest = later left (n - r.length) step.apart (omega (arith, few, some, step.positive)) (omega (arith, enough, step.fewer, step.at_most)) in
            step_then steps (numbers_of runs) n r some step.taken
            (subst (λ (bs : List ℕ). AreTaken bs (n - r.length) (taken_in steps bs (n - r.length))) step.rest rest)

-- ---- the runs of an ascending list

runs_apart : (least : ℕ) (free : List ℕ) → Ascends least free → AreApart least (runs_of free)
runs_apart least [] up = tt
runs_apart least (b ∷ bs) up = apart_lower least b (with_number b (runs_of bs)) up.0 (with_apart b (runs_of bs) up.1 (runs_apart (b + 1) bs up.2))

numbers_of-runs : (free : List ℕ) → numbers_of (runs_of free) ≡ free
numbers_of-runs [] = refl
numbers_of-runs (b ∷ bs) = with_numbers b (runs_of bs) ∙ ap (λ (xs : List ℕ). b ∷ xs) (numbers_of-runs bs)

computed_is_taken : (free : List ℕ) (n : ℕ) → Ascends 1 free → n ≤ length free → AreTaken free n (taken_runs free n)
computed_is_taken free n up enough =
    let same = numbers_of-runs free in
    subst (λ (bs : List ℕ). AreTaken bs n (taken_in free bs n)) same
    (computed_of_runs free (runs_of free) n (runs_apart 1 free up) enough (subst (λ (bs : List ℕ). n ≤ length bs) (sym same) enough))

pub taken_both : (free : List ℕ) (n : ℕ) (runs : List Run) → Ascends 1 free → n ≤ length free → AreTaken free n runs ↔ (runs ≡ taken_runs free n)
taken_both free n runs up enough =
    (taken_is free n runs enough, λ same. subst (λ (rs : List Run). AreTaken free n rs) (sym same) (computed_is_taken free n up enough))
