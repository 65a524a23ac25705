-- Runs, and then numbers, that get their blocks one after the other.
use Rattle.std.proofs.Common.{◌≡◌, ◌≤◌, ◌<◌, ℕ, zero, suc, ◌+◌, List, [], ◌∷◌, ◌++◌, length, map, take, get_or, refl, sym, ap, subst, ◌∙◌, arith}
use Rattle.std.specs.Prelude.{sum_by}
use Rattle.std.proofs.lemmas.List.{append-nil, map-append, length-append, length-map, take_more}
use Rattle.std.proofs.lemmas.List.Concat.{flat_map-cons}
use Rattle.std.proofs.lemmas.List.Sums.{sum_by-cons}
use Rattle.std.proofs.lemmas.Grind.{flat_map-append}
use Rattle.vol_numbers.specs.declared.runs.Change.{Change}
use Rattle.vol_numbers.specs.declared.runs.Run.{Run}
use Rattle.run_allocator.specs.Runs.{Ascends, numbers_of}
use Rattle.run_allocator.specs.Taken.{left_without, taken_runs}
use Rattle.tree_model.specs.declared.report.Line.{Line}
use Rattle.volume_model.specs.Places.{Spot, Places}
use Rattle.fresh_runs.specs.Fresh.{left_after, taken_for}
use Rattle.fresh_runs.specs.Inside.{Adds, AreRuns, spots_from, spots_in}
use Rattle.fresh_runs.proofs.Adding.{adds_none, adds_more, length-spots_from}
use Rattle.fresh_runs.proofs.Parting.{ArePartedFor, all_append, in_all, left_append, parted_for, taken_append}

abbrev pub run_length : Run → ℕ
run_length r = r.length

-- ---- runs of one number

-- These runs have got their blocks of those that were free.
pub record AreRunsPlaced (number : ℕ) (free : List ℕ) (runs : List Run) (rest : List ℕ) (was is : List Line) (changes : List Change) : Type 0 where
  pub left : rest ≡ left_after free (map (λ (r : Run). r.length) runs)
  pub adds : Adds (spots_in number runs) (taken_for free (map (λ (r : Run). r.length) runs)) was is [] changes

pub no_runs : (number : ℕ) (free : List ℕ) (lines : List Line) → AreRunsPlaced number free [] free lines lines []
no_runs number free lines = record { left = refl; adds = adds_none lines [] }

lengths_more : (rs : List Run) (r : Run) → map (λ (q : Run). q.length) (rs ++ r ∷ []) ≡ map (λ (q : Run). q.length) rs ++ r.length ∷ []
lengths_more rs r = map-append (λ (q : Run). q.length) rs (r ∷ [])

spots_one : (number : ℕ) (r : Run) → spots_in number (r ∷ []) ≡ spots_from number r.first r.length
spots_one number r = flat_map-cons (λ (q : Run). spots_from number q.first q.length) r [] ∙ append-nil (spots_from number r.first r.length)

spots_more : (number : ℕ) (rs : List Run) (r : Run) → spots_in number (rs ++ r ∷ []) ≡ spots_in number rs ++ spots_from number r.first r.length
spots_more number rs r = flat_map-append (λ (q : Run). spots_from number q.first q.length) rs (r ∷ []) ∙ ap (λ (ss : List Spot). spots_in number rs ++ ss) (spots_one number r)

taken_more : (free ms : List ℕ) (n : ℕ) → taken_for free (ms ++ n ∷ []) ≡ taken_for free ms ++ numbers_of (taken_runs (left_after free ms) n)
taken_more free ms n = taken_append free ms (n ∷ []) ∙ ap (λ (xs : List ℕ). taken_for free ms ++ xs) (append-nil (numbers_of (taken_runs (left_after free ms) n)))

pub length-spots_in : (number : ℕ) (rs : List Run) → length (spots_in number rs) ≡ in_all (map (λ (q : Run). q.length) rs)
length-spots_in number [] = refl
length-spots_in number (r ∷ rs) =
    ap (λ (ss : List Spot). length ss) (flat_map-cons (λ (q : Run). spots_from number q.first q.length) r rs) ∙ length-append (spots_from number r.first r.length) (spots_in number rs)
    ∙ omega (arith, length-spots_from number r.first r.length, length-spots_in number rs)

pub one_run : (number : ℕ) (free : List ℕ) (rs : List Run) (r : Run) (rest after : List ℕ) (one two three : List Line) (changes more : List Change)
    → Ascends 1 free → in_all (map (λ (q : Run). q.length) rs) ≤ length free
    → AreRunsPlaced number free rs rest one two changes → after ≡ left_without rest (taken_runs rest r.length)
    → Adds (spots_from number r.first r.length) (numbers_of (taken_runs rest r.length)) two three changes more → AreRunsPlaced number free (rs ++ r ∷ []) after one three more
one_run number free rs r rest after one two three changes more up enough placed is step =
    let ms = map (λ (q : Run). q.length) rs in
    let many = (parted_for free ms up enough).many in
    let moved = subst (λ (xs : List ℕ). Adds (spots_from number r.first r.length) (numbers_of (taken_runs xs r.length)) two three changes more) placed.left step in
    let both = adds_more (spots_in number rs) (spots_from number r.first r.length) (taken_for free ms) (numbers_of (taken_runs (left_after free ms) r.length)) one two three [] changes more
    (many ∙ sym (length-spots_in number rs)) placed.adds moved in
    record {
      left = is ∙ ap (λ (xs : List ℕ). left_without xs (taken_runs xs r.length)) placed.left ∙ sym (ap (left_after free) (lengths_more rs r) ∙ left_append free ms (r.length ∷ []));
      adds = subst (λ (ss : List Spot). Adds ss (taken_for free (map (λ (q : Run). q.length) (rs ++ r ∷ []))) one three [] more) (sym (spots_more number rs r))
          (subst (λ (bs : List ℕ). Adds (spots_in number rs ++ spots_from number r.first r.length) bs one three [] more) (sym (ap (taken_for free) (lengths_more rs r) ∙ taken_more free ms r.length)) both);
    }

pub sum_all : (rs : List Run) → sum_by (λ (r : Run). r.length) rs ≡ in_all (map (λ (r : Run). r.length) rs)
sum_all [] = refl
sum_all (r ∷ rs) = sum_by-cons (λ (q : Run). q.length) r rs ∙ ap (λ (k : ℕ). r.length + k) (sum_all rs)

pub all_within : (rs : List Run) (i : ℕ) (d : Run) → i < length rs → in_all (map (λ (r : Run). r.length) (take i rs)) + (get_or rs i d).length ≤ in_all (map (λ (r : Run). r.length) rs)
all_within [] i d lt = absurd (omega (arith, lt))
all_within (r ∷ rs) zero d lt = omega arith
all_within (r ∷ rs) (suc i) d lt = omega (arith, all_within rs i d (omega (arith, lt)))

pub run_at : (rs : List Run) (i : ℕ) (d : Run) → i < length rs → AreRuns rs → (1 ≤ (get_or rs i d).length) × ((get_or rs i d).first + (get_or rs i d).length ≤ 1048576)
run_at [] i d lt are = absurd (omega (arith, lt))
run_at (r ∷ rs) zero d lt are = (are.0, are.1)
run_at (r ∷ rs) (suc i) d lt are = run_at rs i d (omega (arith, lt)) are.2
