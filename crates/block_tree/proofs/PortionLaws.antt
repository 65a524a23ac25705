-- The changes of one leaf, and changes in the order of their leaves.
use Rattle.std.proofs.Common.{◌≡◌, ◌<◌, ◌≤◌, ℕ, zero, suc, ◌*◌, ◌/◌, ◌==◌, Bool, true, false, cond, List, [], ◌∷◌, length, take, drop, refl, ap, sym, ◌∙◌, arith}
use Rattle.std.specs.Prelude.{not, ◌&&◌, ◌||◌, nat_eq, nat_le, nat_lt, filter}
use Rattle.std.specs.List.{sum_by}
use Rattle.std.specs.Ordering.{is_lt, nat_cmp}
use Rattle.std.specs.declared.cmp.Ordering.TheVariants.{Less, Equal, Greater}
use Rattle.std.specs.List.Sorted.{IsPartitionPoint, IsPermutation, IsStableByKey, ties}
use Rattle.std.proofs.lemmas.List.Elements.{filter_agree}
use Rattle.std.proofs.lemmas.List.Sorted.{sum_by-IsPermutation}
use Rattle.std.proofs.lemmas.List.Sums.{sum_by-cons}
use Rattle.std.proofs.lemmas.Bool.Decides.{nat_tests}
use Rattle.vol_numbers.specs.declared.runs.Change.{Change}
use Rattle.place_words.specs.Different.{is_among, different, times}
use Rattle.place_words.proofs.Totals.{different_same}
use Rattle.block_tree.specs.Edit.{portion, leaves_of}
use Rattle.block_tree.specs.Notes.{change_blocks}

-- ---- a leaf has a change where one is in it

abbrev some : List Change → Bool
some [] = false
some (c ∷ cs) = true

among_portion : (k : ℕ) (cs : List Change) → is_among (leaves_of cs) k ≡ some (portion k cs)
among_portion k [] = refl
among_portion k (c ∷ cs) = by_test (nat_eq (c.place / 1024) k) (c.place / 1024 == k) refl refl (among_portion k cs)
  where
    by_test : (s t : Bool) → nat_eq (c.place / 1024) k ≡ s → (c.place / 1024 == k) ≡ t → is_among (leaves_of cs) k ≡ some (portion k cs)
        → (s || is_among (leaves_of cs) k) ≡ some (cond t (c ∷ portion k cs) (portion k cs))
    by_test true true a b rest = refl
    by_test false false a b rest = rest
    by_test true false a b rest = absurd (let same : c.place / 1024 ≡ k = grind (arith, nat_tests, a) in grind (arith, nat_tests, b, same))
    by_test false true a b rest = absurd (let same : c.place / 1024 ≡ k = grind (arith, nat_tests, b) in grind (arith, nat_tests, a, same))

pub portion_none : (k : ℕ) (cs : List Change) → is_among (leaves_of cs) k ≡ false → portion k cs ≡ []
portion_none k cs none = empty (portion k cs) (sym (among_portion k cs) ∙ none)
  where
    empty : (xs : List Change) → some xs ≡ false → xs ≡ []
    empty [] e = refl
    empty (x ∷ xs) e = cc

pub same_leaves : (xs ys : List Change) → ((k : ℕ) → portion k xs ≡ portion k ys) → different (leaves_of xs) ≡ different (leaves_of ys)
same_leaves xs ys same = different_same (leaves_of xs) (leaves_of ys) (λ k. among_portion k xs ∙ (ap some (same k) ∙ sym (among_portion k ys)))

-- ---- the same changes in another order

blocks_each : (b : ℕ) (cs : List Change) → times b (change_blocks cs) ≡ sum_by (λ (c : Change). times b (c.block ∷ [])) cs
blocks_each b [] = refl
blocks_each b (c ∷ cs) = omega (arith, blocks_each b cs, sum_by-cons (λ (x : Change). times b (x.block ∷ [])) c cs)

pub same_blocks : (b : ℕ) (xs ys : List Change) → IsPermutation xs ys → times b (change_blocks ys) ≡ times b (change_blocks xs)
same_blocks b xs ys moved =
    let moves : sum_by (λ (c : Change). times b (c.block ∷ [])) ys ≡ sum_by (λ (c : Change). times b (c.block ∷ [])) xs = sum_by-IsPermutation (λ (c : Change). times b (c.block ∷ [])) xs ys moved in
    blocks_each b ys ∙ (moves ∙ sym (blocks_each b xs))

-- ---- a stable sort by leaves leaves the changes of each leaf in their order

is_less : (a b : ℕ) → is_lt (nat_cmp a b) ≡ nat_lt a b
is_less a b = by_test (nat_lt a b) (a == b)
  where
    by_test : (s t : Bool) → is_lt (cond s Less (cond t Equal Greater)) ≡ s
    by_test true t = refl
    by_test false true = refl
    by_test false false = refl

tie_is : (a b : ℕ) → (not (is_lt (nat_cmp a b)) && not (is_lt (nat_cmp b a))) ≡ (b == a)
tie_is a b = ap (λ (t : Bool). not t && not (is_lt (nat_cmp b a))) (is_less a b) ∙ (ap (λ (t : Bool). not (nat_lt a b) && not t) (is_less b a) ∙ by_test (nat_lt a b) (nat_lt b a) (b == a) refl refl refl)
  where
    by_test : (s t u : Bool) → nat_lt a b ≡ s → nat_lt b a ≡ t → (b == a) ≡ u → (not s && not t) ≡ u
    by_test true t true p q r = absurd (let lt : a < b = grind (arith, nat_tests, p) in let e : b ≡ a = grind (arith, nat_tests, r) in omega (arith, lt, e))
    by_test true t false p q r = refl
    by_test false true true p q r = absurd (let lt : b < a = grind (arith, nat_tests, q) in let e : b ≡ a = grind (arith, nat_tests, r) in omega (arith, lt, e))
    by_test false true false p q r = refl
    by_test false false true p q r = refl
    by_test false false false p q r = absurd (let le : b ≤ a = grind (arith, nat_tests, p) in let ge : a ≤ b = grind (arith, nat_tests, q) in let e : b ≡ a = omega (arith, le, ge) in grind (arith, nat_tests, r, e))

pub portion_sorted : (k : ℕ) (xs ys : List Change) → IsStableByKey (λ (c : Change). c.place / 1024) nat_cmp xs ys → portion k ys ≡ portion k xs
portion_sorted k xs ys stable =
    let one : Change = record { place = 1024 * k; block = 0 } in
    let leaf : 1024 * k / 1024 ≡ k = omega arith in
    let test : (c : Change) → ties (λ (x y : Change). is_lt (nat_cmp (x.place / 1024) (y.place / 1024))) one c ≡ (c.place / 1024 == k) = λ c. tie_is (1024 * k / 1024) (c.place / 1024) ∙ ap (λ (l : ℕ). c.place / 1024 == l) leaf in
    sym (filter_agree (ties (λ (x y : Change). is_lt (nat_cmp (x.place / 1024) (y.place / 1024))) one) (λ (c : Change). c.place / 1024 == k) test ys)
    ∙ (stable one ∙ filter_agree (ties (λ (x y : Change). is_lt (nat_cmp (x.place / 1024) (y.place / 1024))) one) (λ (c : Change). c.place / 1024 == k) test xs)

-- ---- a part of sorted changes

-- up to the place where a test begins to fail, and from there on
pub parted : {X : Type 0} (p q : X → Bool) → ((x : X) → q x ≡ not (p x)) → (xs : List X) (i : ℕ) → i ≤ length xs → IsPartitionPoint (λ y. p y ≡ true) (λ y. p y ≡ false) xs i
    → (take i xs ≡ filter p xs) × (drop i xs ≡ filter q xs)
parted p q other [] zero le point = (refl, refl)
parted p q other [] (suc i) le point = (refl, refl)
parted p q other (x ∷ xs) zero le point =
    let rest = parted p q other xs zero (omega arith) (λ k d a b. absurd (omega (arith, a, b)), λ k d a b. point.1 (suc k) d (omega arith) (omega (arith, b))) in
    let fails : p x ≡ false = point.1 0 x (omega arith) (omega arith) in (
      rest.0 ∙ sym (ap (λ (t : Bool). cond t (x ∷ filter p xs) (filter p xs)) fails),
      ap {B = List _} (λ r. x ∷ r) rest.1 ∙ sym (ap (λ (t : Bool). cond t (x ∷ filter q xs) (filter q xs)) (other x ∙ ap not fails)),
    )
parted p q other (x ∷ xs) (suc i) le point =
    let rest = parted p q other xs i (omega (arith, le)) (λ k d a b. point.0 (suc k) d (omega arith) (omega (arith, b)), λ k d a b. point.1 (suc k) d (omega (arith, a)) (omega (arith, b))) in
    let passes : p x ≡ true = point.0 0 x (omega arith) (omega arith) in (
      ap {B = List _} (λ r. x ∷ r) rest.0 ∙ sym (ap (λ (t : Bool). cond t (x ∷ filter p xs) (filter p xs)) passes),
      rest.1 ∙ sym (ap (λ (t : Bool). cond t (x ∷ filter q xs) (filter q xs)) (other x ∙ ap not passes)),
    )

pub from_test : (l k : ℕ) → nat_le k l ≡ not (nat_lt l k)
from_test l k = by_test (nat_lt l k) (nat_le k l) refl refl
  where
    by_test : (s t : Bool) → nat_lt l k ≡ s → nat_le k l ≡ t → t ≡ not s
    by_test true true a b = absurd (let lt : l < k = grind (arith, nat_tests, a) in let le : k ≤ l = grind (arith, nat_tests, b) in omega (arith, lt, le))
    by_test true false a b = refl
    by_test false true a b = refl
    by_test false false a b = absurd (let ge : k ≤ l = grind (arith, nat_tests, a) in let gt : l < k = grind (arith, nat_tests, b) in omega (arith, ge, gt))

-- the leaves from one on and up to the same
module _ (k : ℕ) where
  abbrev after : List Change → List Change
  after xs = filter (λ (c : Change). nat_le k (c.place / 1024)) xs

  abbrev upto : List Change → List Change
  upto xs = filter (λ (c : Change). nat_le (c.place / 1024) k) xs

  kept : (c : Change) (xs ys : List Change) → nat_le (c.place / 1024) k ≡ true → upto xs ≡ ys → upto (c ∷ xs) ≡ c ∷ ys
  kept c xs ys e rest = ap (λ (t : Bool). cond t (c ∷ upto xs) (upto xs)) e ∙ ap {B = List Change} (λ r. c ∷ r) rest

  left : (c : Change) (xs ys : List Change) → nat_le (c.place / 1024) k ≡ false → upto xs ≡ ys → upto (c ∷ xs) ≡ ys
  left c xs ys e rest = ap (λ (t : Bool). cond t (c ∷ upto xs) (upto xs)) e ∙ rest

  pub both_ends : (cs : List Change) → upto (after cs) ≡ portion k cs
  both_ends [] = refl
  both_ends (c ∷ cs) = by_test (nat_le k (c.place / 1024)) (nat_le (c.place / 1024) k) (c.place / 1024 == k) refl refl refl (both_ends cs)
    where
      by_test : (s t u : Bool) → nat_le k (c.place / 1024) ≡ s → nat_le (c.place / 1024) k ≡ t → (c.place / 1024 == k) ≡ u → upto (after cs) ≡ portion k cs
          → upto (cond s (c ∷ after cs) (after cs)) ≡ cond u (c ∷ portion k cs) (portion k cs)
      by_test true true true p q r rest = kept c (after cs) (portion k cs) q rest
      by_test true true false p q r rest = absurd (let a : k ≤ c.place / 1024 = grind (arith, nat_tests, p) in let b : c.place / 1024 ≤ k = grind (arith, nat_tests, q) in let e : c.place / 1024 ≡ k = omega (arith, a, b) in grind (arith, nat_tests, r, e))
      by_test true false true p q r rest = absurd (let e : c.place / 1024 ≡ k = grind (arith, nat_tests, r) in let b : k < c.place / 1024 = grind (arith, nat_tests, q) in omega (arith, e, b))
      by_test true false false p q r rest = left c (after cs) (portion k cs) q rest
      by_test false t true p q r rest = absurd (let e : c.place / 1024 ≡ k = grind (arith, nat_tests, r) in let b : c.place / 1024 < k = grind (arith, nat_tests, p) in omega (arith, e, b))
      by_test false t false p q r rest = rest
