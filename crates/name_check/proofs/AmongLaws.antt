-- Numbers among numbers.
use Rattle.std.proofs.Common.{◌≡◌, ℕ, zero, suc, ◌<◌, Bool, true, false, List, [], ◌∷◌, ◌++◌, length, get_or, refl, sym, ap, ◌∙◌, inl, inr, arith}
use Rattle.std.specs.Prelude.{nat_eq, ◌||◌, ◌⊎◌, flat_map}
use Rattle.std.proofs.lemmas.Bool.{true≢false, or_left, or_right, or_cases, eqb-true, eq-eqb}
use Rattle.name_check.specs.Reaching.{is_among}

-- two tests that hold in the same cases are one
pub same_tests : (a b : Bool) → (a ≡ true → b ≡ true) → (b ≡ true → a ≡ true) → a ≡ b
same_tests true b to from = sym (to refl)
same_tests false true to from = from refl
same_tests false false to from = refl

pub never : {P : Type 0} → false ≡ true → P
never e = absurd (true≢false (sym e))

pub or_assoc : (a b c : Bool) → ((a || b) || c) ≡ (a || (b || c))
or_assoc true b c = refl
or_assoc false b c = refl

pub or_none : (a : Bool) → a ≡ (a || false)
or_none true = refl
or_none false = refl

pub or_swap : (a b : Bool) → (a || b) ≡ (b || (a || false))
or_swap true true = refl
or_swap true false = refl
or_swap false true = refl
or_swap false false = refl

pub among_append : (xs ys : List ℕ) (n : ℕ) → is_among (xs ++ ys) n ≡ (is_among xs n || is_among ys n)
among_append [] ys n = refl
among_append (x ∷ xs) ys n = ap (λ (b : Bool). nat_eq x n || b) (among_append xs ys n) ∙ sym (or_assoc (nat_eq x n) (is_among xs n) (is_among ys n))

pub among_one : (x n : ℕ) → is_among (x ∷ []) n ≡ true → x ≡ n
among_one x n is = eqb-true x n (or_none (nat_eq x n) ∙ is)

pub among_itself : (x : ℕ) → is_among (x ∷ []) x ≡ true
among_itself x = or_left (nat_eq x x) false (eq-eqb x x refl)

pub among_place : (xs : List ℕ) (k : ℕ) (d : ℕ) → k < length xs → is_among xs (get_or xs k d) ≡ true
among_place [] k d lt = absurd (omega (arith, lt))
among_place (x ∷ xs) zero d lt = or_left (nat_eq x x) _ (eq-eqb x x refl)
among_place (x ∷ xs) (suc k) d lt = or_right (nat_eq x (get_or xs k d)) _ (among_place xs k d (omega (arith, lt)))

-- what is in one of the lists that are joined
module _ (f : ℕ → List ℕ) (m : ℕ) where
  pub among_joined : (xs : List ℕ) (n : ℕ) → is_among xs n ≡ true → is_among (f n) m ≡ true → is_among (flat_map f xs) m ≡ true
  among_joined [] n has is = never has
  among_joined (x ∷ xs) n has is = among_append (f x) (flat_map f xs) m ∙ by (or_cases (nat_eq x n) (is_among xs n) has) (λ there. among_joined xs n there is)
    where
      by : ((nat_eq x n ≡ true) ⊎ (is_among xs n ≡ true)) → (is_among xs n ≡ true → is_among (flat_map f xs) m ≡ true) → (is_among (f x) m || is_among (flat_map f xs) m) ≡ true
      by (inl here) more = or_left (is_among (f x) m) (is_among (flat_map f xs) m) (ap (λ (y : ℕ). is_among (f y) m) (eqb-true x n here) ∙ is)
      by (inr there) more = or_right (is_among (f x) m) (is_among (flat_map f xs) m) (more there)

  pub joined_from : (xs : List ℕ) → is_among (flat_map f xs) m ≡ true → (n : ℕ) × (is_among xs n ≡ true) × (is_among (f n) m ≡ true)
  joined_from [] is = never is
  joined_from (x ∷ xs) is = by (or_cases (is_among (f x) m) (is_among (flat_map f xs) m) (sym (among_append (f x) (flat_map f xs) m) ∙ is)) (joined_from xs)
    where
      by : ((is_among (f x) m ≡ true) ⊎ (is_among (flat_map f xs) m ≡ true)) → (is_among (flat_map f xs) m ≡ true → (n : ℕ) × (is_among xs n ≡ true) × (is_among (f n) m ≡ true)) → (n : ℕ) × (is_among (x ∷ xs) n ≡ true) × (is_among (f n) m ≡ true)
      by (inl here) rest = (x, or_left (nat_eq x x) _ (eq-eqb x x refl), here)
      by (inr there) rest = let more = rest there in (more.0, or_right (nat_eq x more.0) _ more.1, more.2)
