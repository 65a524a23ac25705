-- The first byte that passes a test.
use Rattle.std.proofs.Common.{◌≡◌, ◌∙◌, ◌<◌, ◌≤◌, ◌+◌, ◌++◌, ℕ, Bool, true, false, Some, None, List, [], ◌∷◌, length, get_or, take, drop, sym, ap, arith, length-append}
use Rattle.std.specs.Prelude.{position}
use Rattle.std.specs.List.{position_or_len, slice_split}
use Rattle.std.proofs.Common.{⊎_elim}
use Rattle.std.proofs.Math.ListN.{get_or-append}
use Rattle.std.proofs.lemmas.Bool.{cases_lt, false≢true}
use Rattle.std.proofs.lemmas.Bool.Decides.{nat_tests}
use Rattle.std.proofs.lemmas.List.Elements.{All-from_get_or}
use Rattle.std.proofs.lemmas.List.Splits.{slice_split_first, slice_split_none}
use Rattle.std.proofs.lemmas.List.Sums.{position_or_len_is, fails_before_first, passes_at_first}

module _ (p : ℕ → Bool) (xs : List ℕ) where
  pub place_of_found : (i : ℕ) → position p xs ≡ Some i → (i ≡ position_or_len p xs) × (i < length xs)
  place_of_found i found = grind (arith, nat_tests)

  pub none_found : position p xs ≡ None → length xs ≤ position_or_len p xs
  none_found none = grind (arith, nat_tests)

  pub found_at : (i : ℕ) → position_or_len p xs ≡ i → i < length xs → position p xs ≡ Some i
  found_at i is within = grind (arith, nat_tests)

  pub fails_before : (i : ℕ) → position p xs ≡ Some i → (k : ℕ) → k < i → p (get_or xs k 0) ≡ false
  fails_before i found k before = let place = place_of_found i found in fails_before_first p xs k 0 (omega arith)

  pub passes_at : (i : ℕ) → position p xs ≡ Some i → p (get_or xs i 0) ≡ true
  passes_at i found = let place = place_of_found i found in rw place.0 (passes_at_first p xs 0 (omega arith))

  pub fails_everywhere : position p xs ≡ None → (k : ℕ) → k < length xs → p (get_or xs k 0) ≡ false
  fails_everywhere none k within = let past = none_found none in fails_before_first p xs k 0 (omega arith)

  -- the part before the first separator, and the parts behind it
  pub split_found : (i : ℕ) → position p xs ≡ Some i → slice_split p xs ≡ take i xs ∷ slice_split p (drop (i + 1) xs)
  split_found i found = let place = place_of_found i found in rw place.0 (slice_split_first p xs 0 (omega arith))

  -- where there is no separator, there is one part
  pub split_none : position p xs ≡ None → slice_split p xs ≡ xs ∷ []
  split_none none = slice_split_none p xs (All-from_get_or (λ x. p x ≡ false) xs 0 (fails_everywhere none))

-- behind the first, nothing matters
pub found_before_more : (p : ℕ → Bool) (xs ys : List ℕ) (i : ℕ) → position p xs ≡ Some i → position p (xs ++ ys) ≡ Some i
found_before_more p xs ys i found =
    let place = place_of_found p xs i found in
    let longer : i < length (xs ++ ys) = omega (arith, length-append xs ys) in
    let here : get_or (xs ++ ys) i 0 ≡ get_or xs i 0 = get_or-append xs ys 0 i place.1 in
    let before : (k : ℕ) → k < i → p (get_or (xs ++ ys) k 0) ≡ false = λ k lt. let inside : k < length xs = omega arith in ap p (get_or-append xs ys 0 k inside) ∙ fails_before p xs i found k lt in
    found_at p (xs ++ ys) i (position_or_len_is p (xs ++ ys) i 0 (omega arith) before (λ _. ap p here ∙ passes_at p xs i found)) longer

-- where none passes, the first may come behind
pub found_behind : (p : ℕ → Bool) (xs ys : List ℕ) (i : ℕ) → position p xs ≡ None → position p (xs ++ ys) ≡ Some i → length xs ≤ i
found_behind p xs ys i none found =
    ⊎_elim
    (λ (lt : i < length xs).
    let passes : p (get_or xs i 0) ≡ true = ap p (sym (get_or-append xs ys 0 i lt)) ∙ passes_at p (xs ++ ys) i found in
    let fails = fails_everywhere p xs none i lt in
    absurd (false≢true (sym fails ∙ passes)))
    (λ le. le)
    (cases_lt i (length xs))

-- the first that passes lies in a front that is long enough
pub found_in_front : (p : ℕ → Bool) (xs ys : List ℕ) (i : ℕ) → position p (xs ++ ys) ≡ Some i → i < length xs → position p xs ≡ Some i
found_in_front p xs ys i found within =
    let before : (k : ℕ) → k < i → p (get_or xs k 0) ≡ false = λ k lt. let inside : k < length xs = omega arith in ap p (sym (get_or-append xs ys 0 k inside)) ∙ fails_before p (xs ++ ys) i found k lt in
    found_at p xs i (position_or_len_is p xs i 0 (omega arith) before (λ _. ap p (sym (get_or-append xs ys 0 i within)) ∙ passes_at p (xs ++ ys) i found)) within
