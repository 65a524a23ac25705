-- Numbers of several lists in one.
use Rattle.std.proofs.Common.{◌≡◌, ◌<◌, ℕ, zero, suc, Bool, true, false, List, [], ◌∷◌, ◌++◌, length, get_or, refl, sym, ap, subst, ◌∙◌, arith}
use Rattle.std.specs.Prelude.{◌||◌, nat_eq, All}
use Rattle.std.specs.List.{flat_map}
use Rattle.std.proofs.lemmas.Bool.Decides.{nat_tests}
use Rattle.place_words.specs.Different.{Distinct, is_among}

or_assoc : (a b c : Bool) → (a || (b || c)) ≡ ((a || b) || c)
or_assoc true b c = refl
or_assoc false b c = refl

or_left : (a b : Bool) → a ≡ true → (a || b) ≡ true
or_left true b is = refl
or_left false b is = cc

pub or_right : (a b : Bool) → b ≡ true → (a || b) ≡ true
or_right true b is = refl
or_right false b is = is

or_false : (a b : Bool) → (a || b) ≡ false → (a ≡ false) × (b ≡ false)
or_false true b is = cc
or_false false b is = (refl, is)

-- a number of two lists is one of the first or of the second
pub among_append : (xs ys : List ℕ) (b : ℕ) → is_among (xs ++ ys) b ≡ (is_among xs b || is_among ys b)
among_append [] ys b = refl
among_append (x ∷ xs) ys b = ap (λ (t : Bool). nat_eq x b || t) (among_append xs ys b) ∙ or_assoc (nat_eq x b) (is_among xs b) (is_among ys b)

pub among_left : (xs ys : List ℕ) (b : ℕ) → is_among xs b ≡ true → is_among (xs ++ ys) b ≡ true
among_left xs ys b is = among_append xs ys b ∙ or_left (is_among xs b) (is_among ys b) is

pub among_right : (xs ys : List ℕ) (b : ℕ) → is_among ys b ≡ true → is_among (xs ++ ys) b ≡ true
among_right xs ys b is = among_append xs ys b ∙ or_right (is_among xs b) (is_among ys b) is

pub distinct_left : (xs ys : List ℕ) → Distinct (xs ++ ys) → Distinct xs
distinct_left [] ys d = tt
distinct_left (x ∷ xs) ys d = ((or_false (is_among xs x) (is_among ys x) (sym (among_append xs ys x) ∙ d.0)).0, distinct_left xs ys d.1)

pub distinct_right : (xs ys : List ℕ) → Distinct (xs ++ ys) → Distinct ys
distinct_right [] ys d = d
distinct_right (x ∷ xs) ys d = distinct_right xs ys d.1

-- no number of the first list is one of the second
pub apart : (xs ys : List ℕ) (b : ℕ) → Distinct (xs ++ ys) → is_among xs b ≡ true → is_among ys b ≡ true → ⊥
apart [] ys b d first second = cc
apart (x ∷ xs) ys b d first second = by (nat_eq x b) refl first (apart xs ys b d.1)
  where
    by : (t : Bool) → nat_eq x b ≡ t → (t || is_among xs b) ≡ true → (is_among xs b ≡ true → is_among ys b ≡ true → ⊥) → ⊥
    by true is e more =
        let same : x ≡ b = grind (arith, nat_tests) in
        let none : is_among ys x ≡ false = (or_false (is_among xs x) (is_among ys x) (sym (among_append xs ys x) ∙ d.0)).1 in
        let there : is_among ys x ≡ true = ap (is_among ys) same ∙ second in
        let never : true ≡ false = sym there ∙ none in
        cc
    by false is e more = more e second

-- what holds of each holds of one of them
pub all_among : (P : ℕ → Type 0) (xs : List ℕ) (b : ℕ) → All P xs → is_among xs b ≡ true → P b
all_among P [] b all is = cc
all_among P (x ∷ xs) b all is = by (nat_eq x b) refl is (all_among P xs b (λ k d lt. all (suc k) d (omega (arith, lt))))
  where
    by : (t : Bool) → nat_eq x b ≡ t → (t || is_among xs b) ≡ true → (is_among xs b ≡ true → P b) → P b
    by true e there more =
        let same : x ≡ b = grind (arith, nat_tests) in
        subst P same (all zero b (omega arith))
    by false e there more = more there

-- a number that stands in a list is one of it
number_at : (xs : List ℕ) (k d : ℕ) → k < length xs → is_among xs (get_or xs k d) ≡ true
number_at [] k d lt = absurd (omega (arith, lt))
number_at (x ∷ xs) zero d lt = let same : nat_eq x x ≡ true = grind (arith, nat_tests) in or_left (nat_eq x x) (is_among xs x) same
number_at (x ∷ xs) (suc k) d lt = or_right (nat_eq x (get_or xs k d)) (is_among xs (get_or xs k d)) (number_at xs k d (omega (arith, lt)))

-- what holds of each of a list holds of each of a part of it
pub all_of : (P : ℕ → Type 0) (xs ys : List ℕ) → ((b : ℕ) → is_among xs b ≡ true → is_among ys b ≡ true) → All P ys → All P xs
all_of P xs ys part all k d lt = all_among P ys (get_or xs k d) all (part (get_or xs k d) (number_at xs k d lt))

-- whatever stands in for what isn't there
pub same_item : {A : Type 0} (xs : List A) (k : ℕ) (d e : A) → k < length xs → get_or xs k d ≡ get_or xs k e
same_item [] k d e lt = absurd (omega (arith, lt))
same_item (x ∷ xs) zero d e lt = refl
same_item (x ∷ xs) (suc k) d e lt = same_item xs k d e (omega (arith, lt))

module _ {A : Type 0} (f : A → List ℕ) where
  -- a number of one part is one of all
  pub among_part : (xs : List A) (i : ℕ) (d : A) (b : ℕ) → i < length xs → is_among (f (get_or xs i d)) b ≡ true → is_among (flat_map f xs) b ≡ true
  among_part [] i d b lt is = absurd (omega (arith, lt))
  among_part (x ∷ xs) zero d b lt is = among_left (f x) (flat_map f xs) b is
  among_part (x ∷ xs) (suc i) d b lt is = among_right (f x) (flat_map f xs) b (among_part xs i d b (omega (arith, lt)) is)

  pub distinct_part : (xs : List A) (i : ℕ) (d : A) → Distinct (flat_map f xs) → i < length xs → Distinct (f (get_or xs i d))
  distinct_part [] i d distinct lt = absurd (omega (arith, lt))
  distinct_part (x ∷ xs) zero d distinct lt = distinct_left (f x) (flat_map f xs) distinct
  distinct_part (x ∷ xs) (suc i) d distinct lt = distinct_part xs i d (distinct_right (f x) (flat_map f xs) distinct) (omega (arith, lt))

  -- no two parts share a number
  pub parts_apart : (xs : List A) (k i : ℕ) (d e : A) (b : ℕ) → Distinct (flat_map f xs) → k < i → i < length xs → is_among (f (get_or xs k d)) b ≡ true → is_among (f (get_or xs i e)) b ≡ true → ⊥
  parts_apart [] k i d e b distinct lt long first second = absurd (omega (arith, long))
  parts_apart (x ∷ xs) k zero d e b distinct lt long first second = absurd (omega (arith, lt))
  parts_apart (x ∷ xs) zero (suc i) d e b distinct lt long first second = apart (f x) (flat_map f xs) b distinct first (among_part xs i e b (omega (arith, long)) second)
  parts_apart (x ∷ xs) (suc k) (suc i) d e b distinct lt long first second =
      parts_apart xs k i d e b (distinct_right (f x) (flat_map f xs) distinct) (omega (arith, lt)) (omega (arith, long)) first second
