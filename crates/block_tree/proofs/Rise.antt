-- The places of a tree strictly rise.
use Rattle.std.proofs.Common.{◌≡◌, ℕ, zero, suc, ◌+◌, ◌<◌, ◌≤◌, Bool, true, false, cond, List, [], ◌∷◌, ◌++◌, length, take, map, sym, subst, arith}
use Rattle.std.specs.Prelude.{◌==◌}
use Rattle.std.proofs.lemmas.List.{map-append, length-take}
use Rattle.block_format.specs.Words.{words}
use Rattle.place_words.proofs.Rising.{rising_less}
use Rattle.place_words.specs.Rising.{Rising, AllUnder}
use Rattle.block_tree.specs.Tree.{Blocks, index_at, pairs_from, leaves_pairs, pairs_below}

abbrev pub places_in : List (ℕ × ℕ) → List ℕ
places_in pairs = map (λ (e : ℕ × ℕ). e.0) pairs

split : (xs ys : List (ℕ × ℕ)) → places_in (xs ++ ys) ≡ places_in xs ++ places_in ys
split xs ys = map-append (λ (e : ℕ × ℕ). e.0) xs ys

pub rising_append : (n m : ℕ) (xs ys : List ℕ) → n ≤ m → Rising n xs → AllUnder m xs → Rising m ys → Rising n (xs ++ ys)
rising_append n m [] ys le rising under more = rising_less n m le ys more
rising_append n m (x ∷ xs) ys le rising under more = (rising.0, rising_append (x + 1) m xs ys (omega (arith, under.0)) rising.1 under.1 more)

one_rises : (t : Bool) (place p : ℕ) (ys : List ℕ) → Rising (place + 1) ys → Rising place (places_in (cond t [] ((place, p) ∷ [])) ++ ys)
one_rises true place p ys more = rising_less place (place + 1) (omega arith) ys more
one_rises false place p ys more = (omega arith, more)

one_under : (t : Bool) (limit place p : ℕ) (ys : List ℕ) → place < limit → AllUnder limit ys → AllUnder limit (places_in (cond t [] ((place, p) ∷ [])) ++ ys)
one_under true limit place p ys lt more = more
one_under false limit place p ys lt more = (lt, more)

pub leaf_rises : (place : ℕ) (ps : List ℕ) → Rising place (places_in (pairs_from place ps))
leaf_rises place [] = tt
leaf_rises place (p ∷ ps) = subst (Rising place) (sym (split (cond (p == 0) [] ((place, p) ∷ [])) (pairs_from (place + 1) ps))) (one_rises (p == 0) place p _ (leaf_rises (place + 1) ps))

pub leaf_under : (limit place : ℕ) (ps : List ℕ) → place + length ps ≤ limit → AllUnder limit (places_in (pairs_from place ps))
leaf_under limit place [] le = tt
leaf_under limit place (p ∷ ps) le =
    subst (AllUnder limit) (sym (split (cond (p == 0) [] ((place, p) ∷ [])) (pairs_from (place + 1) ps))) (one_under (p == 0) limit place p _ (omega (arith, le)) (leaf_under limit (place + 1) ps (omega (arith, le))))

pub index_short : (read : Blocks) (b : ℕ) → length (index_at read b) ≤ 1024
index_short read b = by (b == 0)
  where
    by : (t : Bool) → length (cond t [] (take 1024 (words (read b)))) ≤ 1024
    by true = omega arith
    by false = omega (arith, length-take 1024 (words (read b)))

pub leaves_rise : (read : Blocks) (place : ℕ) (ps : List ℕ) → Rising place (places_in (leaves_pairs read place ps))
leaves_rise read place [] = tt
leaves_rise read place (p ∷ ps) =
    subst (Rising place) (sym (split (pairs_from place (index_at read p)) (leaves_pairs read (place + 1024) ps)))
    (rising_append place (place + 1024) _ _ (omega arith) (leaf_rises place (index_at read p)) (leaf_under (place + 1024) place (index_at read p) (omega (arith, index_short read p))) (leaves_rise read (place + 1024) ps))

pub pairs_rise : (read : Blocks) (height ptr : ℕ) → Rising 0 (places_in (pairs_below read height ptr))
pairs_rise read zero ptr = leaf_rises 0 (ptr ∷ [])
pairs_rise read (suc zero) ptr = leaf_rises 0 (index_at read ptr)
pairs_rise read (suc (suc height)) ptr = leaves_rise read 0 (index_at read ptr)
