-- Counting the leaves of changes.
use Rattle.std.proofs.Common.{◌≡◌, ◌≢◌, ℕ, zero, suc, ◌+◌, ◌/◌, ◌<◌, Bool, true, false, cond, List, [], ◌∷◌, ◌++◌, length, set, take, get_or, sym, ap, ◌∙◌, arith, length-set, replicate, get_or-set_same, get_or-set_other}
use Rattle.std.specs.Prelude.{◌||◌, nat_eq}
use Rattle.std.proofs.lemmas.Bool.{eqb-true}
use Rattle.std.proofs.lemmas.Bool.Decides.{nat_tests}
use Rattle.std.proofs.lemmas.List.{length-replicate, map-append, take_more}
use Rattle.vol_numbers.specs.declared.runs.Change.{Change}
use Rattle.block_tree.specs.Edit.{leaves_of}
use Rattle.place_words.specs.Different.{different, is_among}
use Rattle.place_words.proofs.Totals.{different_same}
use Rattle.tree_plan.proofs.RisingLaws.{append_among}

-- The marked numbers below 1,024 are those of a list, which has so many different ones.
pub record IsCounted (seen : List Bool) (xs : List ℕ) (n : ℕ) : Type 0 where
  pub long : length seen ≡ 1024
  pub each : (k : ℕ) → k < 1024 → get_or seen k false ≡ is_among xs k
  pub count : n ≡ different xs

swap_or : (a b : Bool) → (a || (b || false)) ≡ (b || a)
swap_or true true = λ i. true
swap_or true false = λ i. true
swap_or false true = λ i. true
swap_or false false = λ i. false

among_one : (xs : List ℕ) (x k : ℕ) → is_among (xs ++ x ∷ []) k ≡ (nat_eq x k || is_among xs k)
among_one xs x k = append_among xs (x ∷ []) k ∙ swap_or (is_among xs k) (nat_eq x k)

different_one : (xs : List ℕ) (x : ℕ) → different (xs ++ x ∷ []) ≡ cond (is_among xs x) (different xs) (different xs + 1)
different_one xs x = different_same (xs ++ x ∷ []) (x ∷ xs) (among_one xs x)

module _ (seen : List Bool) (xs : List ℕ) (count x : ℕ) (counted : IsCounted seen xs count) (small : x < 1024) where
  pub counted_again : get_or seen x false ≡ true → IsCounted seen (xs ++ x ∷ []) count
  counted_again is = record {
    long = counted.long;
    each = λ k lt. counted.each k lt ∙ sym (among_one xs x k ∙ by k (nat_eq x k) (λ i. nat_eq x k));
    count = counted.count ∙ sym (different_one xs x ∙ ap (λ (t : Bool). cond t (different xs) (different xs + 1)) there);
  }
    where
      there : is_among xs x ≡ true
      there = sym (counted.each x small) ∙ is

      by : (k : ℕ) (t : Bool) → nat_eq x k ≡ t → (t || is_among xs k) ≡ is_among xs k
      by k false test = λ i. is_among xs k
      by k true test = sym there ∙ ap (is_among xs) (eqb-true x k test)

  pub counted_more : get_or seen x false ≡ false → IsCounted (set seen x true) (xs ++ x ∷ []) (count + 1)
  counted_more is = record {
    long = omega (arith, counted.long, length-set {A = Bool} seen x true);
    each = λ k lt. by k lt (nat_eq x k) (λ i. nat_eq x k) ∙ sym (among_one xs x k);
    count = ap (λ (n : ℕ). n + 1) counted.count ∙ sym (different_one xs x ∙ ap (λ (t : Bool). cond t (different xs) (different xs + 1)) (sym (counted.each x small) ∙ is));
  }
    where
      within : x < length seen
      within = omega (arith, small, counted.long)

      by : (k : ℕ) → k < 1024 → (t : Bool) → nat_eq x k ≡ t → get_or (set seen x true) k false ≡ (nat_eq x k || is_among xs k)
      by k lt true test =
          ap (λ (j : ℕ). get_or (set seen x true) j false) (sym (eqb-true x k test)) ∙ get_or-set_same seen x true false within ∙ sym (ap (λ (t : Bool). t || is_among xs k) test)
      by k lt false test =
          let apart : k ≢ x = λ e. absurd (differ k x e test) in
          get_or-set_other seen x k true false apart ∙ counted.each k lt ∙ sym (ap (λ (t : Bool). t || is_among xs k) test)
        where
          differ : (a b : ℕ) → a ≡ b → nat_eq b a ≡ false → ⊥
          differ a b e is = grind (arith, nat_tests)

none_marked : (n k : ℕ) → get_or (replicate n false) k false ≡ false
none_marked zero k = λ i. false
none_marked (suc n) zero = λ i. false
none_marked (suc n) (suc k) = none_marked n k

pub counted_none : IsCounted (replicate 1024 false) [] 0
counted_none = record { long = length-replicate {A = Bool} 1024 false; each = λ k lt. none_marked 1024 k; count = λ i. 0 }

-- the leaves of one more change
pub leaves_more : (cs : List Change) (i : ℕ) (d : Change) → i < length cs → leaves_of (take (i + 1) cs) ≡ leaves_of (take i cs) ++ (get_or cs i d).place / 1024 ∷ []
leaves_more cs i d lt = ap leaves_of (take_more cs i d lt) ∙ map-append (λ (c : Change). c.place / 1024) (take i cs) (get_or cs i d ∷ [])

-- the same, by other names
pub counted_as : (seen marks : List Bool) (xs ys : List ℕ) (n m : ℕ) → marks ≡ seen → ys ≡ xs → m ≡ n → IsCounted seen xs n → IsCounted marks ys m
counted_as seen marks xs ys n m e f h counted = record {
  long = ap (λ (s : List Bool). length s) e ∙ counted.long;
  each = λ k lt. ap (λ (s : List Bool). get_or s k false) e ∙ counted.each k lt ∙ sym (ap (λ (l : List ℕ). is_among l k) f);
  count = h ∙ counted.count ∙ sym (ap different f);
}
