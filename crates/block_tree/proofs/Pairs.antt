-- The pairs of a tree are what it has at each place.
use Rattle.std.proofs.Common.{◌≡◌, ℕ, zero, suc, ◌+◌, ◌-◌, ◌/◌, ◌%◌, ◌<◌, ◌≤◌, Bool, true, false, cond, List, [], ◌∷◌, ◌++◌, length, get_or, refl, sym, ap, ◌∙◌, arith}
use Rattle.std.specs.Prelude.{◌==◌, nat_lt}
use Rattle.std.proofs.lemmas.Bool.{eqb-true}
use Rattle.std.proofs.lemmas.Bool.Decides.{nat_tests}
use Rattle.place_words.specs.Rising.{Rising, AllUnder}
use Rattle.block_tree.specs.Tree.{Blocks, index_at, block_in, pairs_from, leaves_pairs}
use Rattle.block_tree.specs.Laws.{PairsAre}
use Rattle.block_tree.proofs.Rise.{places_in, leaf_rises, leaf_under, leaves_rise, index_short}

-- below what rises there is nothing
none_below : (n q : ℕ) → q < n → (pairs : List (ℕ × ℕ)) → Rising n (places_in pairs) → block_in pairs q ≡ 0
none_below n q lt [] rising = refl
none_below n q lt (e ∷ es) rising =
    let le = rising.0 in
    let apart : (e.0 == q) ≡ false = grind (arith, nat_tests) in
    ap (λ (t : Bool). cond t e.1 (block_in es q)) apart ∙ none_below (e.0 + 1) q (omega (arith, lt, le)) es rising.1

-- what is under a place is passed over
passed : (limit q : ℕ) → limit ≤ q → (xs ys : List (ℕ × ℕ)) → AllUnder limit (places_in xs) → block_in (xs ++ ys) q ≡ block_in ys q
passed limit q le [] ys under = refl
passed limit q le (e ∷ es) ys under =
    let lt = under.0 in
    let apart : (e.0 == q) ≡ false = grind (arith, nat_tests) in
    ap (λ (t : Bool). cond t e.1 (block_in (es ++ ys) q)) apart ∙ passed limit q le es ys under.1

-- where nothing is behind, the front alone counts
in_front : (q : ℕ) (xs ys : List (ℕ × ℕ)) → block_in ys q ≡ 0 → block_in (xs ++ ys) q ≡ block_in xs q
in_front q [] ys none = none
in_front q (e ∷ es) ys none = ap (λ (b : ℕ). cond (e.0 == q) e.1 b) (in_front q es ys none)

first_at : (t : Bool) (place p q : ℕ) (rest : List (ℕ × ℕ)) → (place == q) ≡ false → block_in (cond t [] ((place, p) ∷ []) ++ rest) q ≡ block_in rest q
first_at true place p q rest apart = refl
first_at false place p q rest apart = ap (λ (t : Bool). cond t p (block_in rest q)) apart

here_at : (t : Bool) (place p : ℕ) (rest : List (ℕ × ℕ)) → (p == 0) ≡ t → block_in rest place ≡ 0 → block_in (cond t [] ((place, p) ∷ []) ++ rest) place ≡ p
here_at true place p rest is none = none ∙ sym (eqb-true p 0 is)
here_at false place p rest is none = let same : (place == place) ≡ true = grind (arith, nat_tests) in ap (λ (t : Bool). cond t p (block_in rest place)) same

leaf_pairs : (place : ℕ) (ps : List ℕ) (k : ℕ) → block_in (pairs_from place ps) (place + k) ≡ get_or ps k 0
leaf_pairs place [] k = refl
leaf_pairs place (p ∷ ps) zero =
    let e : place + zero ≡ place = omega arith in
    ap (block_in (pairs_from place (p ∷ ps))) e ∙ here_at (p == 0) place p (pairs_from (place + 1) ps) refl (none_below (place + 1) place (omega arith) (pairs_from (place + 1) ps) (leaf_rises (place + 1) ps))
leaf_pairs place (p ∷ ps) (suc k) =
    let apart : (place == place + suc k) ≡ false = grind (arith, nat_tests) in
    let e : place + suc k ≡ (place + 1) + k = omega arith in
    first_at (p == 0) place p (place + suc k) (pairs_from (place + 1) ps) apart ∙ ap (block_in (pairs_from (place + 1) ps)) e ∙ leaf_pairs (place + 1) ps k

short_get : (xs : List ℕ) (k : ℕ) → length xs ≤ k → get_or xs k 0 ≡ 0
short_get [] k le = refl
short_get (x ∷ xs) zero le = absurd (omega (arith, le))
short_get (x ∷ xs) (suc k) le = short_get xs k (omega (arith, le))

module _ (read : Blocks) where
  leaves_at : (place : ℕ) (ps : List ℕ) (k : ℕ) → block_in (leaves_pairs read place ps) (place + k) ≡ get_or (index_at read (get_or ps (k / 1024) 0)) (k % 1024) 0
  leaves_at place [] k = refl
  leaves_at place (p ∷ ps) k = by (nat_lt k 1024) refl (leaves_at (place + 1024) ps (k - 1024))
    where
      here : List (ℕ × ℕ)
      here = pairs_from place (index_at read p)

      by : (t : Bool) → nat_lt k 1024 ≡ t → block_in (leaves_pairs read (place + 1024) ps) ((place + 1024) + (k - 1024)) ≡ get_or (index_at read (get_or ps ((k - 1024) / 1024) 0)) ((k - 1024) % 1024) 0
          → block_in (pairs_from place (index_at read p) ++ leaves_pairs read (place + 1024) ps) (place + k) ≡ get_or (index_at read (get_or (p ∷ ps) (k / 1024) 0)) (k % 1024) 0
      by true is more =
          let lt : k < 1024 = grind (arith, nat_tests) in
          let group : k / 1024 ≡ 0 = omega (arith, lt) in
          let rest : k % 1024 ≡ k = omega (arith, lt) in
          in_front (place + k) (pairs_from place (index_at read p)) (leaves_pairs read (place + 1024) ps) (none_below (place + 1024) (place + k) (omega (arith, lt)) (leaves_pairs read (place + 1024) ps) (leaves_rise read (place + 1024) ps))
          ∙ leaf_pairs place (index_at read p) k ∙ (λ i. get_or (index_at read (get_or (p ∷ ps) (sym group i) 0)) (sym rest i) 0)
      by false is more =
          let le : 1024 ≤ k = grind (arith, nat_tests) in
          let e : place + k ≡ (place + 1024) + (k - 1024) = omega (arith, le) in
          let group : k / 1024 ≡ suc ((k - 1024) / 1024) = omega (arith, le) in
          let rest : k % 1024 ≡ (k - 1024) % 1024 = omega (arith, le) in
          passed (place + 1024) (place + k) (omega (arith, le)) (pairs_from place (index_at read p)) (leaves_pairs read (place + 1024) ps) (leaf_under (place + 1024) place (index_at read p) (omega (arith, index_short read p)))
          ∙ ap (block_in (leaves_pairs read (place + 1024) ps)) e ∙ more ∙ (λ i. get_or (index_at read (get_or (p ∷ ps) (sym group i) 0)) (sym rest i) 0)

one_at : (ptr place : ℕ) → get_or (ptr ∷ []) place 0 ≡ cond (place == 0) ptr 0
one_at ptr zero = let same : (zero == 0) ≡ true = grind (arith, nat_tests) in sym (ap (λ (t : Bool). cond t ptr 0) same)
one_at ptr (suc place) = let apart : (suc place == 0) ≡ false = grind (arith, nat_tests) in sym (ap (λ (t : Bool). cond t ptr 0) apart)

pub pairs_are : PairsAre
pairs_are read zero ptr place = let e : place ≡ 0 + place = omega arith in ap (block_in (pairs_from 0 (ptr ∷ []))) e ∙ leaf_pairs 0 (ptr ∷ []) place ∙ one_at ptr place
pairs_are read (suc zero) ptr place = let e : place ≡ 0 + place = omega arith in ap (block_in (pairs_from 0 (index_at read ptr))) e ∙ leaf_pairs 0 (index_at read ptr) place
pairs_are read (suc (suc height)) ptr place = let e : place ≡ 0 + place = omega arith in ap (block_in (leaves_pairs read 0 (index_at read ptr))) e ∙ leaves_at read 0 (index_at read ptr) place
