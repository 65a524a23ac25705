-- Runs that are apart, and the numbers that they cover.
use Rattle.std.proofs.Common.{◌≡◌, ◌<◌, ◌≤◌, ℕ, zero, suc, ◌+◌, ◌-◌, ◌==◌, Bool, true, false, List, [], ◌∷◌, ◌++◌, length, set, refl, ap, sym, ◌∙◌, subst, arith}
use Rattle.std.specs.Prelude.{slice_get, Some, None, nat_le, not, if◌then◌else◌}
use Rattle.std.specs.List.{remove}
use Rattle.std.proofs.lemmas.Bool.Decides.{nat_tests}
use Rattle.std.proofs.lemmas.List.{length-append}
use Rattle.std.proofs.lemmas.List.Elements.{filter-append}
use Rattle.vol_numbers.specs.declared.runs.Run.{Run}
use Rattle.run_allocator.specs.Runs.{numbers_from, numbers_of, AreApart, covers, outside}
use Rattle.run_allocator.specs.Taken.{with_number, runs_of, first_fit, longest, front, step_or}
use Rattle.run_allocator.specs.Taken.{AreTaken, done, more}
use Rattle.run_allocator.specs.Steps.{take_at, IsPiece, IsStep, AreSteps}
use Rattle.run_allocator.specs.declared.pieces.Piece.{Piece}
use Rattle.run_allocator.proofs.RunLaws.{apart_lower, at_least, length-numbers_from}

-- the runs of the numbers of runs are these
with_apart : (b : ℕ) (rs : List Run) → AreApart (b + 2) rs → with_number b rs ≡ record { first = b; length = 1 } ∷ rs
with_apart b [] are = refl
with_apart b (r ∷ rs) are = by_test (b + 1 == r.first) refl
  where
    by_test : (t : Bool) → (b + 1 == r.first) ≡ t → (if t then record { first = b; length = r.length + 1 } ∷ rs else record { first = b; length = 1 } ∷ r ∷ rs) ≡ record { first = b; length = 1 } ∷ r ∷ rs
    by_test true e = absurd (let same : b + 1 ≡ r.first = grind (arith, nat_tests, e) in omega (arith, same, are.0))
    by_test false e = refl

with_next : (b n : ℕ) (rs : List Run) → with_number b (record { first = b + 1; length = n } ∷ rs) ≡ record { first = b; length = n + 1 } ∷ rs
with_next b n rs = ap (λ (t : Bool). if t then record { first = b; length = n + 1 } ∷ rs else record { first = b; length = 1 } ∷ record { first = b + 1; length = n } ∷ rs)
    (let same : (b + 1 == b + 1) ≡ true = grind (arith, nat_tests) in same)

runs_of_run : (first n : ℕ) (rest : List ℕ) (rs : List Run) → runs_of rest ≡ rs → AreApart (first + n + 2) rs → runs_of (numbers_from first (suc n) ++ rest) ≡ record { first = first; length = suc n } ∷ rs
runs_of_run first zero rest rs e are = ap (with_number first) e ∙ with_apart first rs (apart_lower (first + 2) (first + 0 + 2) rs (omega arith) are)
runs_of_run first (suc n) rest rs e are =
    let inner = runs_of_run (first + 1) n rest rs e (apart_lower (first + 1 + n + 2) (first + suc n + 2) rs (omega arith) are) in
    ap (with_number first) inner ∙ (with_next first (suc n) rs ∙ ap (λ (k : ℕ). let r : Run = record { first = first; length = k } in r ∷ rs) (omega arith))

pub runs_of-numbers : (least : ℕ) (runs : List Run) → AreApart least runs → runs_of (numbers_of runs) ≡ runs
runs_of-numbers least [] are = refl
runs_of-numbers least (r ∷ rs) are = of_length r.length refl are.1 (runs_of-numbers (r.first + r.length + 1) rs are.3)
  where
    of_length : (n : ℕ) → r.length ≡ n → 1 ≤ n → runs_of (numbers_of rs) ≡ rs → runs_of (numbers_of (r ∷ rs)) ≡ r ∷ rs
    of_length zero e some rest = absurd (omega arith)
    of_length (suc n) e some rest =
        ap (λ (k : ℕ). runs_of (numbers_from r.first k ++ numbers_of rs)) e
        ∙ (runs_of_run r.first n (numbers_of rs) rs rest (apart_lower (r.first + n + 2) (r.first + r.length + 1) rs (omega (arith, e)) are.3)
        ∙ ap (λ (k : ℕ). let q : Run = record { first = r.first; length = k } in q ∷ rs) (sym e))

-- a run of runs that are apart
pub apart_at : (least : ℕ) (runs : List Run) (i : ℕ) (r : Run) → AreApart least runs → slice_get runs i ≡ Some r → (1 ≤ r.length) × (r.first + r.length ≤ 65536) × (i < length runs)
apart_at least [] i r are e = cc
apart_at least (x ∷ xs) zero r are e = let same : x ≡ r = cc in (subst (λ (y : Run). 1 ≤ y.length) same are.1, subst (λ (y : Run). y.first + y.length ≤ 65536) same are.2, omega arith)
apart_at least (x ∷ xs) (suc i) r are e = let rest = apart_at (x.first + x.length + 1) xs i r are.3 e in (rest.0, rest.1, omega (arith, rest.2))

pub all_shorter : (n : ℕ) (runs : List Run) (i : ℕ) (r : Run) → first_fit n runs ≡ None → slice_get runs i ≡ Some r → r.length < n
all_shorter n [] i r none e = cc
all_shorter n (x ∷ xs) i r none e = by_test (nat_le n x.length) refl none i e (λ j less. all_shorter n xs j r less)
  where
    by_test : (t : Bool) → nat_le n x.length ≡ t → (if t then Some x else first_fit n xs) ≡ None → (j : ℕ) → slice_get (x ∷ xs) j ≡ Some r
        → ((k : ℕ) → first_fit n xs ≡ None → slice_get xs k ≡ Some r → r.length < n) → r.length < n
    by_test true is none j e rest = cc
    by_test false is none zero e rest = let same : x ≡ r = cc in subst (λ (y : Run). y.length < n) same (let le : x.length < n = grind (arith, nat_tests, is) in le)
    by_test false is none (suc j) e rest = rest j none e

pub none_fits : (n : ℕ) (runs : List Run) (i : ℕ) (r : Run) → first_fit n runs ≡ None → slice_get runs i ≡ Some r → r.length ≤ n
none_fits n runs i r none e = omega (arith, all_shorter n runs i r none e)

pub take_at_whole : (runs : List Run) (i : ℕ) (r : Run) (n : ℕ) → slice_get runs i ≡ Some r → n ≡ r.length → take_at runs i n ≡ remove runs i
take_at_whole [] i r n e same = cc
take_at_whole (x ∷ xs) zero r n e same =
    let is : x ≡ r = cc in
    ap (λ (t : Bool). if t then xs else record { first = x.first + n; length = x.length - n } ∷ xs) (let t : (n == x.length) ≡ true = let l : n ≡ x.length = same ∙ ap (λ (y : Run). y.length) (sym is) in grind (arith, nat_tests, l) in t)
take_at_whole (x ∷ xs) (suc i) r n e same = ap (λ (ys : List Run). x ∷ ys) (take_at_whole xs i r n e same)

pub take_at_part : (runs : List Run) (i : ℕ) (r : Run) (n : ℕ) → slice_get runs i ≡ Some r → (n ≡ r.length → ⊥) → take_at runs i n ≡ set runs i (record { first = r.first + n; length = r.length - n })
take_at_part [] i r n e other = cc
take_at_part (x ∷ xs) zero r n e other =
    let is : x ≡ r = cc in
    let ne : n ≡ x.length → ⊥ = λ l. other (l ∙ ap (λ (y : Run). y.length) is) in
    ap (λ (t : Bool). if t then xs else record { first = x.first + n; length = x.length - n } ∷ xs) (let t : (n == x.length) ≡ false = grind (arith, nat_tests, ne) in t)
    ∙ ap (λ (y : Run). let z : Run = record { first = y.first + n; length = y.length - n } in z ∷ xs) is
take_at_part (x ∷ xs) (suc i) r n e other = ap (λ (ys : List Run). x ∷ ys) (take_at_part xs i r n e other)

-- ---- the numbers that a run doesn't cover

keep_above : (first n : ℕ) (q : Run) → q.first + q.length ≤ first → outside (numbers_from first n) q ≡ numbers_from first n
keep_above first zero q le = refl
keep_above first (suc n) q le =
    let rest = keep_above (first + 1) n q (omega arith) in
    ap (λ (t : Bool). if not t then first ∷ outside (numbers_from (first + 1) n) q else outside (numbers_from (first + 1) n) q)
    (let t : covers q first ≡ false = grind (arith, nat_tests) in t)
    ∙ ap (λ (xs : List ℕ). first ∷ xs) rest

keep_below : (first n : ℕ) (q : Run) → first + n ≤ q.first → outside (numbers_from first n) q ≡ numbers_from first n
keep_below first zero q le = refl
keep_below first (suc n) q le =
    let rest = keep_below (first + 1) n q (omega arith) in
    ap (λ (t : Bool). if not t then first ∷ outside (numbers_from (first + 1) n) q else outside (numbers_from (first + 1) n) q)
    (let t : covers q first ≡ false = grind (arith, nat_tests) in t)
    ∙ ap (λ (xs : List ℕ). first ∷ xs) rest

-- the first k of k and m numbers are covered, up to the run's end
cut_covered : (b k m : ℕ) (q : Run) → q.first ≤ b → b + k ≡ q.first + q.length → outside (numbers_from b (k + m)) q ≡ numbers_from (b + k) m
cut_covered b zero m q le e = let zero_plus : 0 + m ≡ m = omega arith in let end : b + 0 ≡ b = omega arith in rw (zero_plus, end) (keep_above b m q (omega (arith, e)))
cut_covered b (suc k) m q le e =
    let plus : suc k + m ≡ suc (k + m) = omega arith in
    let end : b + suc k ≡ b + 1 + k = omega arith in
    rw (plus, end)
    (ap (λ (t : Bool). if not t then b ∷ outside (numbers_from (b + 1) (k + m)) q else outside (numbers_from (b + 1) (k + m)) q)
    (let t : covers q b ≡ true = grind (arith, nat_tests, e, le) in t)
    ∙ cut_covered (b + 1) k m q (omega (arith, le)) (omega (arith, e)))

keep_runs : (least : ℕ) (runs : List Run) (q : Run) → AreApart least runs → q.first + q.length ≤ least → outside (numbers_of runs) q ≡ numbers_of runs
keep_runs least [] q are le = refl
keep_runs least (r ∷ rs) q are le =
    let head = keep_above r.first r.length q (omega (arith, le, are.0)) in
    let tail = keep_runs (r.first + r.length + 1) rs q are.3 (omega (arith, le, are.0)) in
    filter-append (λ b. not (covers q b)) (numbers_from r.first r.length) (numbers_of rs) ∙ (λ z. head z ++ tail z)

-- without the first numbers of one run
pub front_taken : (least : ℕ) (runs : List Run) (i : ℕ) (r : Run) (n : ℕ) → AreApart least runs → slice_get runs i ≡ Some r → 1 ≤ n → n ≤ r.length
    → (numbers_of (take_at runs i n) ≡ outside (numbers_of runs) (front r n)) × AreApart least (take_at runs i n)
front_taken least [] i r n are e some le = cc
front_taken least (x ∷ xs) zero r n are e some le =
    let same : x ≡ r = cc in
    let q : Run = front r n in
    let first : q.first ≡ x.first = ap (λ (y : Run). y.first) (sym same) in
    let within : n ≤ x.length = subst (λ (y : Run). n ≤ y.length) (sym same) le in
    let total : x.length ≡ n + (x.length - n) = omega (arith, within) in
    let head : outside (numbers_from x.first x.length) q ≡ numbers_from (x.first + n) (x.length - n) =
    ap (λ (k : ℕ). outside (numbers_from x.first k) q) total ∙ cut_covered x.first n (x.length - n) q (omega (arith, first)) (omega (arith, first)) in
    let tail = keep_runs (x.first + x.length + 1) xs q are.3 (omega (arith, first, within)) in
    let both : outside (numbers_of (x ∷ xs)) q ≡ numbers_from (x.first + n) (x.length - n) ++ numbers_of xs =
    filter-append (λ b. not (covers q b)) (numbers_from x.first x.length) (numbers_of xs) ∙ (λ z. head z ++ tail z) in
    by_test (n == x.length) refl within both
  where
    by_test : (t : Bool) → (n == x.length) ≡ t → n ≤ x.length → outside (numbers_of (x ∷ xs)) (front r n) ≡ numbers_from (x.first + n) (x.length - n) ++ numbers_of xs
        → (numbers_of (if t then xs else record { first = x.first + n; length = x.length - n } ∷ xs) ≡ outside (numbers_of (x ∷ xs)) (front r n))
        × AreApart least (if t then xs else record { first = x.first + n; length = x.length - n } ∷ xs)
    by_test true is within both =
        let whole : n ≡ x.length = grind (arith, nat_tests, is) in
        let none : x.length - n ≡ 0 = omega (arith, whole) in
        (sym (both ∙ ap (λ (k : ℕ). numbers_from (x.first + n) k ++ numbers_of xs) none), apart_lower least (x.first + x.length + 1) xs (omega (arith, are.0)) are.3)
    by_test false is within both =
        let part : n ≡ x.length → ⊥ = λ w. let t : (n == x.length) ≡ true = grind (arith, nat_tests, w) in cc in
        let end : x.first + n + (x.length - n) ≡ x.first + x.length = omega (arith, within) in
        (sym both, (omega (arith, are.0), omega (arith, within, part), omega (arith, end, are.2), rw end are.3))
front_taken least (x ∷ xs) (suc i) r n are e some le =
    let rest = front_taken (x.first + x.length + 1) xs i r n are.3 e some le in
    let later : x.first + x.length + 1 ≤ r.first = at_least (x.first + x.length + 1) xs i r are.3 e in
    let head = keep_below x.first x.length (front r n) (omega (arith, later)) in
    (sym (filter-append (λ b. not (covers (front r n) b)) (numbers_from x.first x.length) (numbers_of xs) ∙ (λ z. head z ++ sym rest.0 z)), (are.0, are.1, are.2, rest.1))

pub length-take_at : (runs : List Run) (i : ℕ) (r : Run) (n : ℕ) → slice_get runs i ≡ Some r → n ≤ r.length → length (numbers_of (take_at runs i n)) + n ≡ length (numbers_of runs)
length-take_at [] i r n e le = cc
length-take_at (x ∷ xs) zero r n e le =
    let same : x ≡ r = cc in
    let within : n ≤ x.length = subst (λ (y : Run). n ≤ y.length) (sym same) le in
    by_test (n == x.length) refl within (length-append (numbers_from x.first x.length) (numbers_of xs)) (length-numbers_from x.first x.length)
  where
    by_test : (t : Bool) → (n == x.length) ≡ t → n ≤ x.length → length (numbers_of (x ∷ xs)) ≡ length (numbers_from x.first x.length) + length (numbers_of xs) → length (numbers_from x.first x.length) ≡ x.length
        → length (numbers_of (if t then xs else record { first = x.first + n; length = x.length - n } ∷ xs)) + n ≡ length (numbers_of (x ∷ xs))
    by_test true is within both here = let whole : n ≡ x.length = grind (arith, nat_tests, is) in omega (arith, whole, both, here)
    by_test false is within both here = omega (arith, within, both, here, length-append (numbers_from (x.first + n) (x.length - n)) (numbers_of xs), length-numbers_from (x.first + n) (x.length - n))
length-take_at (x ∷ xs) (suc i) r n e le =
    let rest = length-take_at xs i r n e le in
    omega (arith, rest, length-append (numbers_from x.first x.length) (numbers_of xs), length-append (numbers_from x.first x.length) (numbers_of (take_at xs i n)))

-- the lowest number of all
pub lowest_taken : (runs : List Run) (r : Run) → AreApart 1 runs → slice_get runs 0 ≡ Some r → numbers_of runs ≡ r.first ∷ numbers_of (take_at runs 0 1)
lowest_taken [] r are e = cc
lowest_taken (x ∷ xs) r are e =
    let same : x ≡ r = cc in
    by_test (1 == x.length) refl ∙ ap (λ (y : Run). y.first ∷ numbers_of (take_at (x ∷ xs) 0 1)) same
  where
    by_test : (t : Bool) → (1 == x.length) ≡ t → numbers_of (x ∷ xs) ≡ x.first ∷ numbers_of (if t then xs else record { first = x.first + 1; length = x.length - 1 } ∷ xs)
    by_test true is = let one : x.length ≡ 1 = grind (arith, nat_tests, is) in ap (λ (n : ℕ). numbers_from x.first n ++ numbers_of xs) one
    by_test false is = let more : x.length ≡ suc (x.length - 1) = omega (arith, are.1) in ap (λ (n : ℕ). numbers_from x.first n ++ numbers_of xs) more

pub lowest_positive : (runs : List Run) (r : Run) → AreApart 1 runs → slice_get runs 0 ≡ Some r → 0 < r.first
lowest_positive [] r are e = cc
lowest_positive (x ∷ xs) r are e = let same : x ≡ r = cc in subst (λ (y : Run). 0 < y.first) same (omega (arith, are.0))

pub some_runs : (runs : List Run) → 1 ≤ length (numbers_of runs) → 0 < length runs
some_runs [] some = some
some_runs (r ∷ rs) some = omega arith

-- ---- the steps

-- what is left without a piece
pub cut_is_step : (runs : List Run) (n : ℕ) (p : Piece) (result : Run) (left : List Run) → AreApart 1 runs → IsPiece runs n p → result ≡ front p.run p.length → left ≡ take_at runs p.index p.length
    → IsStep runs n result left
cut_is_step runs n p result left are piece is rest =
    let f = piece.part in
    let taken = front_taken 1 runs p.index p.run p.length are f.there f.positive f.within in
    rw (is, rest) (record {
      taken = ap (λ (rs : List Run). step_or n (first_fit n rs) (longest rs)) (runs_of-numbers 1 runs are) ∙ piece.rule;
      rest = taken.0;
      apart = taken.1;
      positive = f.positive;
      at_most = piece.at_most;
      fewer = length-take_at runs p.index p.run p.length f.there f.within;
    })

-- one step that takes all that is asked for
pub step_alone : (runs : List Run) (n : ℕ) (r : Run) (left : List Run) → r.length ≡ n → IsStep runs n r left → AreSteps runs n (r ∷ []) left
step_alone runs n r left all s =
    let none : 0 ≡ n - r.length = omega (arith, all) in
    record {
      taken = more (numbers_of runs) n r [] (omega (arith, all, s.positive)) s.taken (subst (λ (k : ℕ). AreTaken (outside (numbers_of runs) r) k []) none (done (outside (numbers_of runs) r)));
      rest = s.rest;
      apart = s.apart;
      fewer = omega (arith, s.fewer, all);
    }
