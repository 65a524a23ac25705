-- Runs that grow place by place.
use Rattle.std.proofs.Common.{◌≡◌, ◌≢◌, ◌<◌, ◌≤◌, ℕ, zero, suc, ◌+◌, true, false, List, [], ◌∷◌, ◌++◌, refl, sym, ap, subst, ◌∙◌, append_assoc, arith}
use Rattle.std.specs.Prelude.{Some, None, nat_eq}
use Rattle.std.proofs.lemmas.List.{append-nil}
use Rattle.std.proofs.lemmas.Bool.{eqb-true}
use Rattle.std.proofs.lemmas.Bool.Decides.{nat_tests}
use Rattle.vol_numbers.specs.declared.runs.Run.{Run}
use Rattle.place_words.specs.Different.{span}
use Rattle.dirty_store.specs.Runs.{places_in, AreLongest}
use Rattle.dirty_store.specs.Inside.{AreRunsSoFar, AreRunsWithin, ends_at, lengthened}
use Rattle.dirty_store.proofs.LastLaws.{last, with_last}

-- ---- the last run

pub last_none : (rs : List Run) (place : ℕ) → last rs ≡ None → ends_at rs place ≡ false
last_none [] place none = refl
last_none (r ∷ []) place none = cc
last_none (r ∷ s ∷ rs) place none = last_none (s ∷ rs) place none

pub last_some : (rs : List Run) (r : Run) (place : ℕ) → last rs ≡ Some r → ends_at rs place ≡ nat_eq (r.first + r.length) place
last_some [] r place is = cc
last_some (q ∷ []) r place is = let same : q ≡ r = cc in ap (λ (x : Run). nat_eq (x.first + x.length) place) same
last_some (q ∷ s ∷ rs) r place is = last_some (s ∷ rs) r place is

pub last_within : (rs : List Run) (r : Run) → AreRunsWithin rs → last rs ≡ Some r → r.first + r.length ≤ 1048576
last_within [] r within is = cc
last_within (q ∷ []) r within is = let same : q ≡ r = cc in subst (λ (x : Run). x.first + x.length ≤ 1048576) same within.0
last_within (q ∷ s ∷ rs) r within is = last_within (s ∷ rs) r within.1 is

pub lengthened_last : (rs : List Run) (r : Run) → last rs ≡ Some r → with_last (record { first = r.first; length = r.length + 1 }) rs ≡ lengthened rs
lengthened_last [] r is = refl
lengthened_last (q ∷ []) r is =
    let same : r ≡ q = cc in
    ap (λ (x : Run). let longer : Run = record { first = x.first; length = x.length + 1 } in longer ∷ []) same
lengthened_last (q ∷ s ∷ rs) r is = ap (λ (l : List Run). q ∷ l) (lengthened_last (s ∷ rs) r is)

-- ---- a place more

span_next : (from n : ℕ) → span from (suc n) ≡ span from n ++ (from + n) ∷ []
span_next from zero = ap (λ (x : ℕ). x ∷ []) (plus_none from)
  where
    plus_none : (x : ℕ) → x ≡ x + 0
    plus_none x = omega arith
span_next from (suc n) = ap (λ (l : List ℕ). from ∷ l) (span_next (from + 1) n) ∙ ap (λ (x : ℕ). from ∷ (span (from + 1) n ++ x ∷ [])) (shifted from n)
  where
    shifted : (x k : ℕ) → x + 1 + k ≡ x + suc k
    shifted x k = omega arith

span_longer : (from n place : ℕ) → from + n ≡ place → span from (n + 1) ≡ span from n ++ place ∷ []
span_longer from n place is = ap (span from) (one_more n) ∙ span_next from n ∙ ap (λ (x : ℕ). span from n ++ x ∷ []) is
  where
    one_more : (k : ℕ) → k + 1 ≡ suc k
    one_more k = omega arith

places_longer : (rs : List Run) (place : ℕ) → ends_at rs place ≡ true → places_in (lengthened rs) ≡ places_in rs ++ place ∷ []
places_longer [] place ends = cc
places_longer (r ∷ []) place ends =
    append-nil (span r.first (r.length + 1)) ∙ span_longer r.first r.length place (eqb-true _ _ ends) ∙ ap (λ (l : List ℕ). l ++ place ∷ []) (sym (append-nil (span r.first r.length)))
places_longer (r ∷ s ∷ rs) place ends =
    ap (λ (l : List ℕ). span r.first r.length ++ l) (places_longer (s ∷ rs) place ends) ∙ sym (append_assoc (span r.first r.length) (places_in (s ∷ rs)) (place ∷ []))

more_than : (n : ℕ) → 1 ≤ n → 1 ≤ n + 1
more_than n le = omega arith

longest_longer : (rs : List Run) → AreLongest rs → AreLongest (lengthened rs)
longest_longer [] h = tt
longest_longer (r ∷ []) h = more_than r.length h
longest_longer (r ∷ s ∷ []) h = (h.0, h.1, more_than s.length h.2)
longest_longer (r ∷ s ∷ t ∷ ts) h = (h.0, h.1, longest_longer (s ∷ t ∷ ts) h.2)

within_longer : (rs : List Run) (place : ℕ) → ends_at rs place ≡ true → place < 1048576 → AreRunsWithin rs → AreRunsWithin (lengthened rs)
within_longer [] place ends lt h = tt
within_longer (r ∷ []) place ends lt h = let is : r.first + r.length ≡ place = eqb-true _ _ ends in (omega arith, tt)
within_longer (r ∷ s ∷ rs) place ends lt h = (h.0, within_longer (s ∷ rs) place ends lt h.1)

pub longer_are : (rs : List Run) (places : List ℕ) (place : ℕ) → ends_at rs place ≡ true → place < 1048576 → AreRunsSoFar places rs → AreRunsSoFar (places ++ place ∷ []) (lengthened rs)
longer_are rs places place ends lt so_far = record {
  are = record {
    places_are = places_longer rs place ends ∙ ap (λ (l : List ℕ). l ++ place ∷ []) so_far.are.places_are;
    longest = longest_longer rs so_far.are.longest;
  };
  within = within_longer rs place ends lt so_far.within;
}

-- ---- a run more

abbrev new_run : ℕ → Run
new_run place = record { first = place; length = 1 }

places_more : (rs : List Run) (place : ℕ) → places_in (rs ++ new_run place ∷ []) ≡ places_in rs ++ place ∷ []
places_more [] place = refl
places_more (r ∷ rs) place =
    ap (λ (l : List ℕ). span r.first r.length ++ l) (places_more rs place) ∙ sym (append_assoc (span r.first r.length) (places_in rs) (place ∷ []))

apart : (n place : ℕ) → nat_eq n place ≡ false → n ≢ place
apart n place no_end is = grind (arith, nat_tests)

longest_more : (rs : List Run) (place : ℕ) → ends_at rs place ≡ false → AreLongest rs → AreLongest (rs ++ new_run place ∷ [])
longest_more [] place ends h = omega arith
longest_more (r ∷ []) place ends h = (h, apart (r.first + r.length) place ends, omega arith)
longest_more (r ∷ s ∷ rs) place ends h = (h.0, h.1, longest_more (s ∷ rs) place ends h.2)

within_more : (rs : List Run) (place : ℕ) → place < 1048576 → AreRunsWithin rs → AreRunsWithin (rs ++ new_run place ∷ [])
within_more [] place lt h = (omega arith, tt)
within_more (r ∷ rs) place lt h = (h.0, within_more rs place lt h.1)

pub more_are : (rs : List Run) (places : List ℕ) (place : ℕ) → ends_at rs place ≡ false → place < 1048576 → AreRunsSoFar places rs → AreRunsSoFar (places ++ place ∷ []) (rs ++ new_run place ∷ [])
more_are rs places place ends lt so_far = record {
  are = record {
    places_are = places_more rs place ∙ ap (λ (l : List ℕ). l ++ place ∷ []) so_far.are.places_are;
    longest = longest_more rs place ends so_far.are.longest;
  };
  within = within_more rs place lt so_far.within;
}
