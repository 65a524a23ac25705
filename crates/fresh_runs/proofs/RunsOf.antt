-- The runs of a list of places.
use Rattle.std.proofs.Common.{◌≡◌, ◌≢◌, ◌≤◌, ◌<◌, ℕ, zero, suc, ◌+◌, ◌==◌, Bool, true, false, cond, List, [], ◌∷◌, ◌++◌, length, map, refl, sym, ap, subst, ◌∙◌, arith}
use Rattle.std.specs.Prelude.{nat_eq}
use Rattle.std.proofs.lemmas.Bool.Decides.{nat_tests}
use Rattle.std.proofs.lemmas.List.{length-append}
use Rattle.std.proofs.lemmas.List.Concat.{flat_map-cons}
use Rattle.vol_numbers.specs.declared.runs.Run.{Run}
use Rattle.place_words.specs.Different.{span}
use Rattle.place_words.specs.Rising.{AllUnder}
use Rattle.run_allocator.specs.Taken.{with_number, runs_of}
use Rattle.dirty_store.specs.Runs.{places_in, AreLongest, AreRunsOf}
use Rattle.dirty_store.proofs.OneRuns.{one_list}
use Rattle.fresh_runs.specs.Inside.{AreRuns}
use Rattle.fresh_runs.proofs.Parting.{in_all}

places_cons : (r : Run) (rs : List Run) → places_in (r ∷ rs) ≡ span r.first r.length ++ places_in rs
places_cons r rs = flat_map-cons (λ (q : Run). span q.first q.length) r rs

one_more : (n : ℕ) → n + 1 ≡ suc n
one_more n = omega arith

with_places : (b : ℕ) (rs : List Run) → places_in (with_number b rs) ≡ b ∷ places_in rs
with_places b [] = places_cons (record { first = b; length = 1 }) []
with_places b (r ∷ rs) = by (b + 1 == r.first) refl
  where
    by : (t : Bool) → (b + 1 == r.first) ≡ t → places_in (cond t (record { first = b; length = r.length + 1 } ∷ rs) (record { first = b; length = 1 } ∷ r ∷ rs)) ≡ b ∷ places_in (r ∷ rs)
    by true is =
        let next : b + 1 ≡ r.first = grind (arith, nat_tests) in
        places_cons (record { first = b; length = r.length + 1 }) rs ∙ ap (λ (n : ℕ). span b n ++ places_in rs) (one_more r.length) ∙ ap (λ (x : ℕ). b ∷ (span x r.length ++ places_in rs)) next
        ∙ ap (λ (xs : List ℕ). b ∷ xs) (sym (places_cons r rs))
    by false is = places_cons (record { first = b; length = 1 }) (r ∷ rs)

places_of_runs : (places : List ℕ) → places_in (runs_of places) ≡ places
places_of_runs [] = refl
places_of_runs (b ∷ bs) = with_places b (runs_of bs) ∙ ap (λ (xs : List ℕ). b ∷ xs) (places_of_runs bs)

first_longer : (b : ℕ) (r : Run) (rs : List Run) → b + 1 ≡ r.first → AreLongest (r ∷ rs) → AreLongest (record { first = b; length = r.length + 1 } ∷ rs)
first_longer b r [] next are = omega arith
first_longer b r (s ∷ rs) next are = (omega arith, λ e. are.1 (omega (arith, next, e)), are.2)

with_longest : (b : ℕ) (rs : List Run) → AreLongest rs → AreLongest (with_number b rs)
with_longest b [] are = omega arith
with_longest b (r ∷ rs) are = by (b + 1 == r.first) refl
  where
    by : (t : Bool) → (b + 1 == r.first) ≡ t → AreLongest (cond t (record { first = b; length = r.length + 1 } ∷ rs) (record { first = b; length = 1 } ∷ r ∷ rs))
    by true is = first_longer b r rs (grind (arith, nat_tests)) are
    by false is = (omega arith, (let apart : b + 1 ≢ r.first = grind (arith, nat_tests) in apart), are)

runs_longest : (places : List ℕ) → AreLongest (runs_of places)
runs_longest [] = tt
runs_longest (b ∷ bs) = with_longest b (runs_of bs) (runs_longest bs)

-- the runs of some places are those that are computed
pub runs_are : (places : List ℕ) (runs : List Run) → AreRunsOf places runs → runs ≡ runs_of places
runs_are places runs are = one_list runs (runs_of places) are.longest (runs_longest places) (are.places_are ∙ sym (places_of_runs places))

-- ---- how many places runs have

length-span : (from n : ℕ) → length (span from n) ≡ n
length-span from zero = refl
length-span from (suc n) = ap suc (length-span (from + 1) n)

pub lengths_all : (runs : List Run) → in_all (map (λ (r : Run). r.length) runs) ≡ length (places_in runs)
lengths_all [] = refl
lengths_all (r ∷ rs) =
    omega (arith, lengths_all rs, ap (λ (xs : List ℕ). length xs) (places_cons r rs), length-append (span r.first r.length) (places_in rs), length-span r.first r.length)

pub lengths_many : (places : List ℕ) → in_all (map (λ (r : Run). r.length) (runs_of places)) ≡ length places
lengths_many places = lengths_all (runs_of places) ∙ ap (λ (xs : List ℕ). length xs) (places_of_runs places)

-- ---- where runs end

under_rest : (limit first n : ℕ) (rest : List ℕ) → AllUnder limit (span first n ++ rest) → AllUnder limit rest
under_rest limit first zero rest under = under
under_rest limit first (suc n) rest under = under_rest limit (first + 1) n rest under.1

under_end : (limit first n : ℕ) (rest : List ℕ) → AllUnder limit (span first (suc n) ++ rest) → first + suc n ≤ limit
under_end limit first zero rest under = omega (arith, under.0)
under_end limit first (suc n) rest under = omega (arith, under_end limit (first + 1) n rest under.1)

ends_under : (limit first n : ℕ) (rest : List ℕ) → 1 ≤ n → AllUnder limit (span first n ++ rest) → first + n ≤ limit
ends_under limit first zero rest some under = absurd (omega (arith, some))
ends_under limit first (suc n) rest some under = under_end limit first n rest under

some_places : (r : Run) (rs : List Run) → AreLongest (r ∷ rs) → (1 ≤ r.length) × AreLongest rs
some_places r [] are = (are, tt)
some_places r (s ∷ rs) are = (are.0, are.2)

pub runs_within : (runs : List Run) → AreLongest runs → AllUnder 1048576 (places_in runs) → AreRuns runs
runs_within [] longest under = tt
runs_within (r ∷ rs) longest under =
    let some = some_places r rs longest in
    let all = subst (AllUnder 1048576) (places_cons r rs) under in
    (some.0, ends_under 1048576 r.first r.length (places_in rs) some.0 all, runs_within rs some.1 (under_rest 1048576 r.first r.length (places_in rs) all))
