-- Numbers in ascending order, each once.
use Rattle.std.proofs.Common.{◌≡◌, ℕ, zero, suc, ◌+◌, ◌<◌, ◌≤◌, Bool, true, false, List, [], ◌∷◌, length, map, refl, sym, ap, subst, arith}
use Rattle.std.specs.Prelude.{◌||◌, nat_eq, slice_index, slice_index_or, Contains}
use Rattle.std.specs.List.Sorted.{IsStrictlyIncreasing}
use Rattle.std.proofs.lemmas.Bool.Decides.{nat_tests}
use Rattle.place_words.specs.Different.{is_among}
use Rattle.place_words.specs.Rising.{Rising}
use Rattle.dirty_store.specs.Entries.{Entries}
use Rattle.dirty_store.specs.Numbers.{AreOnce, numbers_in}

or_right : (a b : Bool) → b ≡ true → (a || b) ≡ true
or_right true b e = refl
or_right false b e = e

same_eq : (x n : ℕ) → x ≡ n → nat_eq x n ≡ true
same_eq x n e = grind (arith, nat_tests)

eq_same : (x n : ℕ) → nat_eq x n ≡ true → x ≡ n
eq_same x n e = grind (arith, nat_tests)

among_at : (xs : List ℕ) (n k : ℕ) → k < length xs → slice_index_or xs k n ≡ n → is_among xs n ≡ true
among_at [] n k lt is = absurd (omega (arith, lt))
among_at (x ∷ xs) n zero lt is = ap (λ (t : Bool). t || is_among xs n) (same_eq x n is)
among_at (x ∷ xs) n (suc k) lt is = or_right (nat_eq x n) (is_among xs n) (among_at xs n k (omega (arith, lt)) is)

contains_at : (xs : List ℕ) (n : ℕ) → is_among xs n ≡ true → Contains xs n
contains_at [] n among = cc
contains_at (x ∷ xs) n among = by (nat_eq x n) refl among (contains_at xs n)
  where
    next : Contains xs n → Contains (x ∷ xs) n
    next at = (suc at.0, omega (arith, at.1), at.2)

    by : (t : Bool) → nat_eq x n ≡ t → (t || is_among xs n) ≡ true → (is_among xs n ≡ true → Contains xs n) → Contains (x ∷ xs) n
    by true is also more = (zero, omega arith, eq_same x n is)
    by false is also more = next (more also)

both : (a b : Bool) → (a ≡ true → b ≡ true) → (b ≡ true → a ≡ true) → a ≡ b
both true b f g = sym (f refl)
both false true f g = g refl
both false false f g = refl

rises : (m : ℕ) (xs : List ℕ) → (0 < length xs → m ≤ slice_index xs 0) → IsStrictlyIncreasing xs → Rising m xs
rises m [] first more = tt
rises m (x ∷ xs) first more = (first (omega arith), rises (x + 1) xs second later)
  where
    second : 0 < length xs → x + 1 ≤ slice_index xs 0
    second some = omega (arith, more 0 (omega (arith, some)))

    later : IsStrictlyIncreasing xs
    later k lt =
        let e : (k + 1) + 1 ≡ suc (k + 1) = omega arith in
        let f : k + 1 ≡ suc k = omega arith in
        let here : slice_index (x ∷ xs) (k + 1) < slice_index (x ∷ xs) ((k + 1) + 1) = more (k + 1) (omega (arith, lt)) in
        subst (λ (i : ℕ). slice_index (x ∷ xs) i < slice_index xs (k + 1)) f (subst (λ (i : ℕ). slice_index (x ∷ xs) (k + 1) < slice_index (x ∷ xs) i) e here)

pub are_once : (all once : List ℕ) → IsStrictlyIncreasing once → ((n : ℕ) → Contains all n → Contains once n) → ((n : ℕ) → Contains once n → Contains all n) → AreOnce all once
are_once all once rise keeps none_else = record {
  rises = rises 0 once (λ some. omega arith) rise;
  each = λ n. both (is_among once n) (is_among all n)
      (λ among. of all n (none_else n (contains_at once n among)))
      (λ among. of once n (keeps n (contains_at all n among)));
}
  where
    of : (xs : List ℕ) (n : ℕ) → Contains xs n → is_among xs n ≡ true
    of xs n at = among_at xs n at.0 at.1 at.2

module _ {A B : Type 0} (g : A → B) where
  pub numbers-each : (es : Entries A) → numbers_in (map (λ e. (e.0, g e.1)) es) ≡ numbers_in es
  numbers-each [] = refl
  numbers-each (e ∷ es) = ap (λ (l : List ℕ). e.0.0 ∷ l) (numbers-each es)
