-- A search by halves among directories in order.
use Rattle.std.proofs.Common.{◌≡◌, ◌<◌, ◌≤◌, ℕ, zero, suc, true, false, Bool, List, [], ◌∷◌, ◌∙◌, length, refl, sym, ap, subst, get_or, arith}
use Rattle.std.specs.Prelude.{Result, Ok, Err, IfOk, IfErr, nat_lt}
use Rattle.std.specs.Cmp.{nat_cmp_is}
use Rattle.std.specs.Ordering.{nat_cmp, ordering_index}
use Rattle.std.specs.declared.cmp.Ordering.{Ordering}
use Rattle.std.specs.declared.cmp.Ordering.TheVariants.{Less, Equal, Greater}
use Rattle.std.specs.List.Sorted.{IsNonDecreasingBy, IsBinarySearchResult, IsSearchInRange}
use Rattle.std.proofs.lemmas.Bool.Decides.{nat_tests}
use Rattle.held_list.specs.declared.held.Held.{Held}
use Rattle.held_list.specs.Held.{IsInOrder}
use Rattle.held_list.specs.Places.{held_at, number_at, IsGap}
use Rattle.held_list.proofs.OrderLaws.{number_rises}

-- how two numbers stand to each other, as a case
data Stands (m n : ℕ) : Type 0 where
  less : m < n → nat_cmp m n ≡ Less → Stands m n
  same : m ≡ n → nat_cmp m n ≡ Equal → Stands m n
  more : n < m → nat_cmp m n ≡ Greater → Stands m n

stands : (m n : ℕ) → Stands m n
stands m n = by (nat_lt m n) (nat_lt n m) refl refl
  where
    by : (a b : Bool) → nat_lt m n ≡ a → nat_lt n m ≡ b → Stands m n
    by true b is other = let lt : m < n = grind (arith, nat_tests) in less lt (sym (nat_cmp_is m n Less lt))
    by false true is other = let lt : n < m = grind (arith, nat_tests) in more lt (sym (nat_cmp_is m n Greater lt))
    by false false is other = let e : m ≡ n = grind (arith, nat_tests) in same e (sym (nat_cmp_is m n Equal e))

pub is_less : (m n : ℕ) → nat_cmp m n ≡ Less → m < n
is_less m n is = by (stands m n)
  where
    by : Stands m n → m < n
    by (less lt e) = lt
    by (same s e) = let f : Equal ≡ Less = sym e ∙ is in cc
    by (more lt e) = let f : Greater ≡ Less = sym e ∙ is in cc

pub is_same : (m n : ℕ) → nat_cmp m n ≡ Equal → m ≡ n
is_same m n is = by (stands m n)
  where
    by : Stands m n → m ≡ n
    by (less lt e) = let f : Less ≡ Equal = sym e ∙ is in cc
    by (same s e) = s
    by (more lt e) = let f : Greater ≡ Equal = sym e ∙ is in cc

pub is_more : (m n : ℕ) → nat_cmp m n ≡ Greater → n < m
is_more m n is = by (stands m n)
  where
    by : Stands m n → n < m
    by (less lt e) = let f : Less ≡ Greater = sym e ∙ is in cc
    by (same s e) = let f : Equal ≡ Greater = sym e ∙ is in cc
    by (more lt e) = lt

at_most : (o : Ordering) → ordering_index o ≤ 2
at_most Less = omega arith
at_most Equal = omega arith
at_most Greater = omega arith

-- what is below another stands no higher to a number
rise : (n a b : ℕ) → a < b → ordering_index (nat_cmp a n) ≤ ordering_index (nat_cmp b n)
rise n a b lt = by (stands b n)
  where
    low : a < n → ordering_index (nat_cmp a n) ≤ 0
    low l = subst (λ (o : Ordering). ordering_index o ≤ 0) (nat_cmp_is a n Less l) (omega arith)

    by : Stands b n → ordering_index (nat_cmp a n) ≤ ordering_index (nat_cmp b n)
    by (less l e) = let z = low (omega (arith, l, lt)) in omega (arith, z)
    by (same s e) = let z = low (omega (arith, s, lt)) in omega (arith, z)
    by (more m e) = subst (λ (o : Ordering). ordering_index (nat_cmp a n) ≤ ordering_index o) (sym e) (at_most (nat_cmp a n))

no_rise : (n a b : ℕ) → a ≤ b → ordering_index (nat_cmp a n) ≤ ordering_index (nat_cmp b n)
no_rise n a b le = by (nat_lt a b) refl
  where
    by : (t : Bool) → nat_lt a b ≡ t → ordering_index (nat_cmp a n) ≤ ordering_index (nat_cmp b n)
    by true is = rise n a b (grind (arith, nat_tests))
    by false is = let e : a ≡ b = grind (arith, nat_tests) in subst (λ (x : ℕ). ordering_index (nat_cmp a n) ≤ ordering_index (nat_cmp x n)) e (omega arith)

above_at : (h : Held) (hs : List Held) (j : ℕ) (d : Held) → IsInOrder (h ∷ hs) → j < length hs → h.number ≤ (get_or hs j d).number
above_at h (x ∷ xs) zero d order lt = omega (arith, order.0.0)
above_at h (x ∷ xs) (suc j) d order lt = above_at h xs j d (order.0.1, order.1.1) (omega (arith, lt))
above_at h [] j d order lt = absurd (omega (arith, lt))

rising : (n : ℕ) (hs : List Held) → IsInOrder hs → IsNonDecreasingBy (λ (h : Held). ordering_index (nat_cmp h.number n)) hs
rising n [] order i j d le lt = absurd (omega arith)
rising n (h ∷ hs) order zero zero d le lt = omega arith
rising n (h ∷ hs) order zero (suc j) d le lt = no_rise n h.number (get_or hs j d).number (above_at h hs j d order (omega arith))
rising n (h ∷ hs) order (suc i) zero d le lt = absurd (omega arith)
rising n (h ∷ hs) order (suc i) (suc j) d le lt = rising n hs order.1 i j d (omega arith) (omega arith)

pub place_within : (hs : List Held) (r : Result ℕ ℕ) → IsSearchInRange r (length hs) → IfOk r (λ place. place < length hs)
place_within hs (Ok i) range = range
place_within hs (Err i) range = tt

pub place_found : (n : ℕ) (hs : List Held) (r : Result ℕ ℕ) → IsBinarySearchResult (λ (h : Held). nat_cmp h.number n) hs r → IfOk r (λ place. number_at hs place ≡ n)
place_found n hs (Ok i) is = is_same _ _ (is _)
place_found n hs (Err i) is = tt

pub gap_found : (n : ℕ) (hs : List Held) (r : Result ℕ ℕ) → IsInOrder hs → IsSearchInRange r (length hs) → IsBinarySearchResult (λ (h : Held). nat_cmp h.number n) hs r → IfErr r (λ place. IsGap hs n place)
gap_found n hs (Ok i) order range is = tt
gap_found n hs (Err i) order range is =
    let point = is (rising n hs order) in
    record {
      within = range;
      before = λ k lt. is_less _ _ (point.0 k _ (omega (arith, lt, range)) lt);
      behind = λ k le lt. is_more _ _ (point.1 k _ le lt);
    }
