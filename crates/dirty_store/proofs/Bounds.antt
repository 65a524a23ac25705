-- Where the entries of one node, from a place on, stand among all.
use Rattle.std.proofs.Common.{◌≡◌, ◌<◌, ◌≤◌, ℕ, suc, ◌-◌, Bool, true, false, cond, [], ◌∷◌, ◌++◌, length, take, drop, filter, refl, sym, ap, ◌∙◌, arith}
use Rattle.std.specs.Prelude.{◌&&◌, ◌||◌, ◌==◌, not, nat_eq, nat_lt, nat_le, Some}
use Rattle.std.specs.List.{slice_range, remove_range}
use Rattle.std.specs.Ordering.{is_gt, nat_cmp, ordering_then}
use Rattle.std.specs.declared.cmp.Ordering.TheVariants.{Less, Equal, Greater}
use Rattle.std.specs.FinMap.{is_sorted}
use Rattle.std.specs.FinMap.Entries.{below_all}
use Rattle.std.proofs.lemmas.Bool.Decides.{nat_tests}
use Rattle.volume_model.specs.Places.{Spot, spot_cmp}
use Rattle.volume_model.specs.Done.{is_cut}
use Rattle.volume_model.proofs.Order.{first_of, second_of}
use Rattle.dirty_store.specs.Entries.{Entries, AreWithin, AreKept}
use Rattle.dirty_store.specs.Inside.{AreBoundsOf, count_before}
use Rattle.dirty_store.proofs.Search.{behind}

-- ---- the tests

nat_gt_is : (n m : ℕ) → is_gt (nat_cmp n m) ≡ nat_lt m n
nat_gt_is n m = by (nat_lt n m) (n == m) refl refl
  where
    by : (t u : Bool) → nat_lt n m ≡ t → (n == m) ≡ u → is_gt (cond t Less (cond u Equal Greater)) ≡ nat_lt m n
    by true u less same = grind (arith, nat_tests)
    by false true less same = grind (arith, nat_tests)
    by false false less same = grind (arith, nat_tests)

gt_is : (s x : Spot) → is_gt (spot_cmp s x) ≡ (nat_lt x.0 s.0 || (nat_eq x.0 s.0 && nat_lt x.1 s.1))
gt_is s x = by (nat_lt s.0 x.0) (s.0 == x.0) refl refl
  where
    by : (t u : Bool) → nat_lt s.0 x.0 ≡ t → (s.0 == x.0) ≡ u
        → is_gt (ordering_then (cond t Less (cond u Equal Greater)) (nat_cmp s.1 x.1)) ≡ (nat_lt x.0 s.0 || (nat_eq x.0 s.0 && nat_lt x.1 s.1))
    by true u less same = grind (arith, nat_tests)
    by false true less same =
        let here : (nat_lt x.0 s.0 || (nat_eq x.0 s.0 && nat_lt x.1 s.1)) ≡ nat_lt x.1 s.1 = grind (arith, nat_tests) in
        nat_gt_is s.1 x.1 ∙ sym here
    by false false less same = grind (arith, nat_tests)

numbers : (n f p a b : ℕ) → f ≤ p → b < p
    → (nat_eq a n && nat_le f b) ≡ (not (nat_lt a n || (nat_eq a n && nat_lt b f)) && (nat_lt a n || (nat_eq a n && nat_lt b p)))
numbers n f p a b limit within = grind (arith, nat_tests)

-- A place within the limit is cut exactly where it is before the node's end and not before the cut.
cut_is : (number from limit : ℕ) (x : Spot) → from ≤ limit → x.1 < limit
    → is_cut (Some (record { number = number; blocks = from })) x ≡ (not (is_gt (spot_cmp (number, from) x)) && is_gt (spot_cmp (number, limit) x))
cut_is number from limit x le within =
    numbers number from limit x.0 x.1 le within
    ∙ (λ i. not (sym (gt_is (number, from) x) i) && sym (gt_is (number, limit) x) i)

more : (n f p a b : ℕ) → f ≤ p → (nat_lt a n || (nat_eq a n && nat_lt b f)) ≡ true → (nat_lt a n || (nat_eq a n && nat_lt b p)) ≡ true
more n f p a b le is = grind (arith, nat_tests)

-- what is before the cut is before the node's end
ends_later : (number from limit : ℕ) (x : Spot) → from ≤ limit → is_gt (spot_cmp (number, from) x) ≡ true → is_gt (spot_cmp (number, limit) x) ≡ true
ends_later number from limit x le is = gt_is (number, limit) x ∙ more number from limit x.0 x.1 le (sym (gt_is (number, from) x) ∙ is)

shifted : (i j : ℕ) → suc j - suc i ≡ j - i
shifted i j = omega arith

less_none : (n : ℕ) → n - 0 ≡ n
less_none n = omega arith

-- ---- entries on one side

module _ {T : Type 0} where
  -- no entry passes a test
  abbrev pub NonePass : (Spot × T → Bool) → Entries T → Type 0
  NonePass test [] = Unit {0}
  NonePass test (e ∷ es) = (test e ≡ false) × NonePass test es

  filter_none : (test : Spot × T → Bool) (es : Entries T) → NonePass test es → filter test es ≡ []
  filter_none test [] none = refl
  filter_none test (e ∷ es) none = ap (λ b. cond b (e ∷ filter test es) (filter test es)) none.0 ∙ filter_none test es none.1

  filter_all : (test : Spot × T → Bool) (es : Entries T) → NonePass test es → filter (λ e. not (test e)) es ≡ es
  filter_all test [] none = refl
  filter_all test (e ∷ es) none =
      ap (λ b. cond (not b) (e ∷ filter (λ e. not (test e)) es) (filter (λ e. not (test e)) es)) none.0 ∙ ap (λ (r : Entries T). e ∷ r) (filter_all test es none.1)

  later_none : (spot : Spot) (e : Spot × T) (es : Entries T) → below_all spot_cmp e.0 es ≡ true → is_gt (spot_cmp spot e.0) ≡ false → NonePass (λ x. is_gt (spot_cmp spot x.0)) es
  later_none spot e [] below not_before = tt
  later_none spot e (x ∷ es) below not_before = (by (is_gt (spot_cmp spot x.0)) refl, later_none spot e es (second_of _ _ below) not_before)
    where
      by : (b : Bool) → is_gt (spot_cmp spot x.0) ≡ b → b ≡ false
      by true is = let before : is_gt (spot_cmp spot e.0) ≡ true = behind spot e.0 x.0 (first_of _ _ below) is in cc
      by false is = refl

  -- ---- the entries before a spot, and the others

  pub take_before : (spot : Spot) (es : Entries T) → is_sorted spot_cmp es ≡ true → take (count_before spot es) es ≡ filter (λ e. is_gt (spot_cmp spot e.0)) es
  take_before spot [] sorted = refl
  take_before spot (e ∷ es) sorted = by (is_gt (spot_cmp spot e.0)) refl (take_before spot es (second_of _ _ sorted))
    where
      by : (b : Bool) → is_gt (spot_cmp spot e.0) ≡ b → take (count_before spot es) es ≡ filter (λ e. is_gt (spot_cmp spot e.0)) es
          → take (cond b (suc (count_before spot es)) 0) (e ∷ es) ≡ cond b (e ∷ filter (λ e. is_gt (spot_cmp spot e.0)) es) (filter (λ e. is_gt (spot_cmp spot e.0)) es)
      by true is rest = ap (λ (r : Entries T). e ∷ r) rest
      by false is rest = sym (filter_none (λ x. is_gt (spot_cmp spot x.0)) es (later_none spot e es (first_of _ _ sorted) is))

  pub drop_before : (spot : Spot) (es : Entries T) → is_sorted spot_cmp es ≡ true → drop (count_before spot es) es ≡ filter (λ e. not (is_gt (spot_cmp spot e.0))) es
  drop_before spot [] sorted = refl
  drop_before spot (e ∷ es) sorted = by (is_gt (spot_cmp spot e.0)) refl (drop_before spot es (second_of _ _ sorted))
    where
      by : (b : Bool) → is_gt (spot_cmp spot e.0) ≡ b → drop (count_before spot es) es ≡ filter (λ e. not (is_gt (spot_cmp spot e.0))) es
          → drop (cond b (suc (count_before spot es)) 0) (e ∷ es) ≡ cond (not b) (e ∷ filter (λ e. not (is_gt (spot_cmp spot e.0))) es) (filter (λ e. not (is_gt (spot_cmp spot e.0))) es)
      by true is rest = rest
      by false is rest = ap (λ (r : Entries T). e ∷ r) (sym (filter_all (λ x. is_gt (spot_cmp spot x.0)) es (later_none spot e es (first_of _ _ sorted) is)))

  count_within : (spot : Spot) (es : Entries T) → count_before spot es ≤ length es
  count_within spot [] = omega arith
  count_within spot (e ∷ es) = by (is_gt (spot_cmp spot e.0)) (count_within spot es)
    where
      by : (b : Bool) → count_before spot es ≤ length es → cond b (suc (count_before spot es)) 0 ≤ suc (length es)
      by true le = omega arith
      by false le = omega arith

  filter_same : (p q : Spot × T → Bool) (es : Entries T) → ((e : Spot × T) → e.0.1 < 1048576 → p e ≡ q e) → AreWithin es → filter p es ≡ filter q es
  filter_same p q [] same within = refl
  filter_same p q (e ∷ es) same within = λ i. cond (same e within.0 i) (e ∷ filter_same p q es same within.1 i) (filter_same p q es same within.1 i)

  filter_others : (p q : Spot × T → Bool) (es : Entries T) → NonePass p es → filter (λ e. not (p e) && q e) es ≡ filter q es
  filter_others p q [] none = refl
  filter_others p q (e ∷ es) none = λ i. cond (not (none.0 i) && q e) (e ∷ filter_others p q es none.1 i) (filter_others p q es none.1 i)

  filter_rest : (p q : Spot × T → Bool) (es : Entries T) → NonePass p es → filter (λ e. not (not (p e) && q e)) es ≡ filter (λ e. not (q e)) es
  filter_rest p q [] none = refl
  filter_rest p q (e ∷ es) none = λ i. cond (not (not (none.0 i) && q e)) (e ∷ filter_rest p q es none.1 i) (filter_rest p q es none.1 i)

  -- ---- the entries between two spots

  module _ (a b : Spot) (above : (x : Spot) → is_gt (spot_cmp a x) ≡ true → is_gt (spot_cmp b x) ≡ true) where
    abbrev between : Spot × T → Bool
    between e = not (is_gt (spot_cmp a e.0)) && is_gt (spot_cmp b e.0)

    counts_rise : (es : Entries T) → count_before a es ≤ count_before b es
    counts_rise [] = omega arith
    counts_rise (e ∷ es) = by (is_gt (spot_cmp a e.0)) (is_gt (spot_cmp b e.0)) refl refl (counts_rise es)
      where
        by : (s t : Bool) → is_gt (spot_cmp a e.0) ≡ s → is_gt (spot_cmp b e.0) ≡ t → count_before a es ≤ count_before b es
            → cond s (suc (count_before a es)) 0 ≤ cond t (suc (count_before b es)) 0
        by true true is end le = omega arith
        by true false is end le = let passes : is_gt (spot_cmp b e.0) ≡ true = above e.0 is in cc
        by false t is end le = omega arith

    inside_is : (es : Entries T) → is_sorted spot_cmp es ≡ true → slice_range es (count_before a es) (count_before b es) ≡ filter between es
    inside_is [] sorted = refl
    inside_is (e ∷ es) sorted = by (is_gt (spot_cmp a e.0)) refl (inside_is es (second_of _ _ sorted))
      where
        by : (s : Bool) → is_gt (spot_cmp a e.0) ≡ s → slice_range es (count_before a es) (count_before b es) ≡ filter between es
            → slice_range (e ∷ es) (cond s (suc (count_before a es)) 0) (count_before b (e ∷ es)) ≡ cond (not s && is_gt (spot_cmp b e.0)) (e ∷ filter between es) (filter between es)
        by true is more = ap (λ t. slice_range (e ∷ es) (suc (count_before a es)) (cond t (suc (count_before b es)) 0)) (above e.0 is)
            ∙ ap (λ n. take n (drop (count_before a es) es)) (shifted (count_before a es) (count_before b es)) ∙ more
        by false is more = ap (λ n. take n (e ∷ es)) (less_none (count_before b (e ∷ es))) ∙ take_before b (e ∷ es) sorted
            ∙ ap (λ (r : Entries T). cond (is_gt (spot_cmp b e.0)) (e ∷ r) r) (sym (filter_others (λ x. is_gt (spot_cmp a x.0)) (λ x. is_gt (spot_cmp b x.0)) es (later_none a e es (first_of _ _ sorted) is)))

    outside_is : (es : Entries T) → is_sorted spot_cmp es ≡ true → remove_range es (count_before a es) (count_before b es) ≡ filter (λ e. not (between e)) es
    outside_is [] sorted = refl
    outside_is (e ∷ es) sorted = by (is_gt (spot_cmp a e.0)) refl (outside_is es (second_of _ _ sorted))
      where
        by : (s : Bool) → is_gt (spot_cmp a e.0) ≡ s → remove_range es (count_before a es) (count_before b es) ≡ filter (λ e. not (between e)) es
            → remove_range (e ∷ es) (cond s (suc (count_before a es)) 0) (count_before b (e ∷ es))
            ≡ cond (not (not s && is_gt (spot_cmp b e.0))) (e ∷ filter (λ e. not (between e)) es) (filter (λ e. not (between e)) es)
        by true is more = ap (λ t. e ∷ (take (count_before a es) es ++ drop (cond t (suc (count_before b es)) 0) (e ∷ es))) (above e.0 is) ∙ ap (λ (r : Entries T). e ∷ r) more
        by false is more = drop_before b (e ∷ es) sorted
            ∙ ap (λ (r : Entries T). cond (not (is_gt (spot_cmp b e.0))) (e ∷ r) r) (sym (filter_rest (λ x. is_gt (spot_cmp a x.0)) (λ x. is_gt (spot_cmp b x.0)) es (later_none a e es (first_of _ _ sorted) is)))

  pub bounds_are : (number from : ℕ) (es : Entries T) → from ≤ 1048576 → AreKept es → AreBoundsOf number from es (count_before (number, from) es) (count_before (number, 1048576) es)
  bounds_are number from es le kept =
      let above = λ (x : Spot). ends_later number from 1048576 x le in
      let same = λ (e : Spot × T) (within : e.0.1 < 1048576). cut_is number from 1048576 e.0 le within in
      record {
        ordered = counts_rise (number, from) (number, 1048576) above es;
        within = count_within (number, 1048576) es;
        inside = inside_is (number, from) (number, 1048576) above es kept.in_order ∙ sym (filter_same _ _ es same kept.within);
        outside = outside_is (number, from) (number, 1048576) above es kept.in_order ∙ sym (filter_same _ _ es (λ e within. ap not (same e within)) kept.within);
      }
