-- The order of spots, and what keeps it.
use Rattle.std.proofs.Common.{◌≡◌, ℕ, ◌+◌, ◌<◌, Bool, true, false, cond, List, [], ◌∷◌, map, filter, refl, sym, ap, subst, arith}
use Rattle.std.proofs.Math.Dec.{T}
use Rattle.std.specs.Prelude.{◌==◌, ◌&&◌, ◌||◌, nat_eq, nat_lt}
use Rattle.std.specs.Ordering.{nat_cmp, ordering_then, is_lt}
use Rattle.std.specs.declared.cmp.Ordering.{Ordering}
use Rattle.std.specs.declared.cmp.Ordering.TheVariants.{Less, Equal, Greater}
use Rattle.std.specs.Cmp.{IsTotalOrder, nat_cmp_total, then_total, on_total}
use Rattle.std.specs.FinMap.{put}
use Rattle.std.specs.FinMap.Entries.{below_all, is_sorted-put, is_sorted-where_key}
use Rattle.std.specs.FinMap.Entries as entries
use Rattle.std.proofs.lemmas.Bool.{eqb-true}
use Rattle.std.proofs.lemmas.Bool.Decides.{nat_tests}
use Rattle.place_words.specs.Rising.{Rising}
use Rattle.volume_model.specs.Places.{Spot, Places, spot_cmp, InOrder, unplaced, by_order, with_spot, with_spots, all_put}

pub true_T : (b : Bool) → b ≡ true → T b
true_T b e = subst T (sym e) tt

pub T_true : (b : Bool) → T b → b ≡ true
T_true true h = refl
T_true false h = absurd h

pub first_of : (a b : Bool) → (a && b) ≡ true → a ≡ true
first_of true b e = refl
first_of false b e = cc

pub second_of : (a b : Bool) → (a && b) ≡ true → b ≡ true
second_of true b e = e
second_of false b e = cc

-- ---- spots

pub spot_total : IsTotalOrder spot_cmp
spot_total = then_total (on_total (λ (s : Spot). s.0) nat_cmp_total) (on_total (λ (s : Spot). s.1) nat_cmp_total)

nat_tie : (n m : ℕ) → nat_cmp n m ≡ Equal → n ≡ m
nat_tie n m e = by (nat_lt n m) (n == m) refl e
  where
    by : (t u : Bool) → (n == m) ≡ u → cond t Less (cond u Equal Greater) ≡ Equal → n ≡ m
    by true u is e = cc
    by false true is e = eqb-true n m is
    by false false is e = cc

both_tie : (a b : Ordering) → ordering_then a b ≡ Equal → (a ≡ Equal) × (b ≡ Equal)
both_tie Less b e = cc
both_tie Equal b e = (refl, e)
both_tie Greater b e = cc

pub spot_tie : (a b : Spot) → spot_cmp a b ≡ Equal → a ≡ b
spot_tie a b e =
    let two = both_tie (nat_cmp a.0 b.0) (nat_cmp a.1 b.1) e in
    λ i. (nat_tie a.0 b.0 two.0 i, nat_tie a.1 b.1 two.1 i)

nat_less : (n m : ℕ) → is_lt (nat_cmp n m) ≡ true → n < m
nat_less n m e = by (nat_lt n m) (n == m) refl e
  where
    by : (t u : Bool) → nat_lt n m ≡ t → is_lt (cond t Less (cond u Equal Greater)) ≡ true → n < m
    by true u is e = grind (arith, nat_tests)
    by false true is e = cc
    by false false is e = cc

-- of a lower number, or of the same one and at an earlier place
pub spot_less : (a b : Spot) → is_lt (spot_cmp a b) ≡ true → (nat_lt a.0 b.0 || (nat_eq a.0 b.0 && nat_lt a.1 b.1)) ≡ true
spot_less a b e = by (nat_lt a.0 b.0) (a.0 == b.0) refl refl e
  where
    by : (t u : Bool) → nat_lt a.0 b.0 ≡ t → (a.0 == b.0) ≡ u → is_lt (ordering_then (cond t Less (cond u Equal Greater)) (nat_cmp a.1 b.1)) ≡ true → (t || (u && nat_lt a.1 b.1)) ≡ true
    by true u lower same e = refl
    by false true lower same e = let less : a.1 < b.1 = nat_less a.1 b.1 e in grind (arith, nat_tests)
    by false false lower same e = cc

pub place_behind : (a b : Spot) → a.0 ≡ b.0 → is_lt (spot_cmp a b) ≡ true → a.1 < b.1
place_behind a b same e = let less = spot_less a b e in grind (arith, nat_tests)

-- ---- places in order

pub put_in_order : (spot : Spot) (block : ℕ) (placed : Places) → InOrder placed → InOrder (put spot_cmp spot block placed)
put_in_order spot block placed h = T_true _ (is_sorted-put spot_cmp spot_total spot block placed (true_T _ h))

pub filter_in_order : (test : Spot → Bool) (placed : Places) → InOrder placed → InOrder (filter (λ (e : Spot × ℕ). test e.0) placed)
filter_in_order test placed h = T_true _ (is_sorted-where_key spot_cmp test placed (true_T _ h))

pub all_put_in_order : (es placed : Places) → InOrder placed → InOrder (all_put es placed)
all_put_in_order [] placed h = h
all_put_in_order (e ∷ es) placed h = all_put_in_order es (put spot_cmp e.0 e.1 placed) (put_in_order e.0 e.1 placed h)

-- ---- spots in order

with_put : (spot : Spot) (spots : List Spot) → unplaced (with_spot spot spots) ≡ put spot_cmp spot 0 (unplaced spots)
with_put spot [] = refl
with_put spot (s ∷ ss) = by (spot_cmp spot s) (with_put spot ss)
  where
    by : (o : Ordering) → unplaced (with_spot spot ss) ≡ put spot_cmp spot 0 (unplaced ss)
        → unplaced (by_order o spot s ss (with_spot spot ss)) ≡ entries.by_order o ((spot, 0) ∷ (s, 0) ∷ unplaced ss) ((s, 0) ∷ unplaced ss) ((s, 0) ∷ put spot_cmp spot 0 (unplaced ss))
    by Less more = refl
    by Equal more = refl
    by Greater more = ap (λ (es : Places). (s, 0) ∷ es) more

pub with_spots_in_order : (new spots : List Spot) → InOrder (unplaced spots) → InOrder (unplaced (with_spots new spots))
with_spots_in_order [] spots h = h
with_spots_in_order (s ∷ ss) spots h =
    with_spots_in_order ss (with_spot s spots) (subst (λ (es : Places). InOrder es) (sym (with_put s spots)) (put_in_order s 0 (unplaced spots) h))

filter_unplaced : (test : Spot → Bool) (spots : List Spot) → unplaced (filter test spots) ≡ filter (λ (e : Spot × ℕ). test e.0) (unplaced spots)
filter_unplaced test [] = refl
filter_unplaced test (s ∷ ss) = by (test s) (filter_unplaced test ss)
  where
    by : (t : Bool) → unplaced (filter test ss) ≡ filter (λ (e : Spot × ℕ). test e.0) (unplaced ss)
        → unplaced (cond t (s ∷ filter test ss) (filter test ss)) ≡ cond t ((s, 0) ∷ filter (λ (e : Spot × ℕ). test e.0) (unplaced ss)) (filter (λ (e : Spot × ℕ). test e.0) (unplaced ss))
    by true more = ap (λ (es : Places). (s, 0) ∷ es) more
    by false more = more

pub filter_spots_in_order : (test : Spot → Bool) (spots : List Spot) → InOrder (unplaced spots) → InOrder (unplaced (filter test spots))
filter_spots_in_order test spots h = subst (λ (es : Places). InOrder es) (sym (filter_unplaced test spots)) (filter_in_order test (unplaced spots) h)

-- ---- the places of one number rise

abbrev pub places_numbered : ℕ → List Spot → List ℕ
places_numbered number spots = map (λ (s : Spot). s.1) (filter (λ (s : Spot). nat_eq s.0 number) spots)

behind : (s : Spot) (spots : List Spot) → below_all spot_cmp s (unplaced spots) ≡ true → InOrder (unplaced spots) → Rising (s.1 + 1) (places_numbered s.0 spots)
behind s [] below h = tt
behind s (t ∷ ts) below h = by (nat_eq t.0 s.0) refl (behind t ts (first_of _ _ h) (second_of _ _ h)) (behind s ts (second_of _ _ below) (second_of _ _ h))
  where
    by : (u : Bool) → nat_eq t.0 s.0 ≡ u → Rising (t.1 + 1) (places_numbered t.0 ts) → Rising (s.1 + 1) (places_numbered s.0 ts) → Rising (s.1 + 1) (map (λ (s : Spot). s.1) (cond u (t ∷ filter (λ (t : Spot). nat_eq t.0 s.0) ts) (filter (λ (t : Spot). nat_eq t.0 s.0) ts)))
    by true is rest skip =
        let same : t.0 ≡ s.0 = grind (arith, nat_tests) in
        let less : s.1 < t.1 = place_behind s t (sym same) (first_of _ _ below) in
        (omega (arith, less), subst (λ (n : ℕ). Rising (t.1 + 1) (places_numbered n ts)) same rest)
    by false is rest skip = skip

pub places_rise : (number : ℕ) (spots : List Spot) → InOrder (unplaced spots) → Rising 0 (places_numbered number spots)
places_rise number [] h = tt
places_rise number (s ∷ ss) h = by (nat_eq s.0 number) refl (places_rise number ss (second_of _ _ h))
  where
    by : (u : Bool) → nat_eq s.0 number ≡ u → Rising 0 (places_numbered number ss) → Rising 0 (map (λ (s : Spot). s.1) (cond u (s ∷ filter (λ (s : Spot). nat_eq s.0 number) ss) (filter (λ (s : Spot). nat_eq s.0 number) ss)))
    by true is skip =
        let same : s.0 ≡ number = grind (arith, nat_tests) in
        (omega arith, subst (λ (n : ℕ). Rising (s.1 + 1) (places_numbered n ss)) same (behind s ss (first_of _ _ h) (second_of _ _ h)))
    by false is skip = skip
