-- The width of a directory, by its last staged slot.
use Rattle.std.proofs.Common.{◌≡◌, ◌<◌, ◌≤◌, ℕ, ◌+◌, Bool, true, false, cond, List, [], ◌∷◌, map, filter, max, refl, sym, ap, subst, ◌∙◌, arith}
use Rattle.std.specs.Prelude.{nat_eq, Option, Some, None}
use Rattle.std.specs.FinMap.{is_sorted}
use Rattle.std.specs.FinMap.Entries.{is_sorted-where_key}
use Rattle.std.proofs.lemmas.Bool.{eqb-true}
use Rattle.std.proofs.lemmas.Bool.Decides.{nat_tests}
use Rattle.volume_model.specs.Places.{Spot, spot_cmp}
use Rattle.volume_model.specs.Done.{is_cut}
use Rattle.volume_model.proofs.Order.{T_true, true_T, first_of, second_of, place_behind}
use Rattle.dirty_store.specs.Entries.{Entries, AreWithin, cut_at, cut_away}
use Rattle.dirty_store.specs.Overlay.{width_of, dirty_places}
use Rattle.dirty_store.proofs.LastLaws.{last}

whole_cut : (number : ℕ) (s : Spot) → is_cut (cut_at number (Some 0)) s ≡ nat_eq s.0 number
whole_cut number s = grind (arith, nat_tests)

top : (a b w : ℕ) → a < b → b + 1 ≤ w → max (a + 1) w ≡ w
top a b w lt le = omega arith

same_eq : (n m : ℕ) → n ≡ m → nat_eq n m ≡ true
same_eq n m is = grind (arith, nat_tests)

module _ {T : Type 0} where
  -- all are of one node
  abbrev pub AllOf : ℕ → Entries T → Type 0
  AllOf number [] = Unit {0}
  AllOf number (e ∷ es) = (e.0.0 ≡ number) × AllOf number es

  pub own_are : (number : ℕ) (es : Entries T) → AllOf number (cut_away (cut_at number (Some 0)) es)
  own_are number [] = tt
  own_are number (e ∷ es) = by (is_cut (cut_at number (Some 0)) e.0) refl (own_are number es)
    where
      by : (b : Bool) → is_cut (cut_at number (Some 0)) e.0 ≡ b → AllOf number (cut_away (cut_at number (Some 0)) es)
          → AllOf number (cond b (e ∷ cut_away (cut_at number (Some 0)) es) (cut_away (cut_at number (Some 0)) es))
      by true is more = (eqb-true _ _ (sym (whole_cut number e.0) ∙ is), more)
      by false is more = more

  pub own_sorted : (number : ℕ) (es : Entries T) → is_sorted spot_cmp es ≡ true → is_sorted spot_cmp (cut_away (cut_at number (Some 0)) es) ≡ true
  own_sorted number es sorted = T_true _ (is_sorted-where_key spot_cmp (is_cut (cut_at number (Some 0))) es (true_T _ sorted))

  pub own_width : (number : ℕ) (es : Entries T) → width_of (cut_away (cut_at number (Some 0)) es) number ≡ width_of es number
  own_width number [] = refl
  own_width number (e ∷ es) = by (nat_eq e.0.0 number) refl (own_width number es)
    where
      by : (b : Bool) → nat_eq e.0.0 number ≡ b → width_of (cut_away (cut_at number (Some 0)) es) number ≡ width_of es number
          → width_of (cond (is_cut (cut_at number (Some 0)) e.0) (e ∷ cut_away (cut_at number (Some 0)) es) (cut_away (cut_at number (Some 0)) es)) number
          ≡ cond b (max (e.0.1 + 1) (width_of es number)) (width_of es number)
      by true is more = ap (λ b. width_of (cond b (e ∷ cut_away (cut_at number (Some 0)) es) (cut_away (cut_at number (Some 0)) es)) number) (whole_cut number e.0 ∙ is)
          ∙ ap (λ b. cond b (max (e.0.1 + 1) (width_of (cut_away (cut_at number (Some 0)) es) number)) (width_of (cut_away (cut_at number (Some 0)) es) number)) is
          ∙ ap (max (e.0.1 + 1)) more
      by false is more = ap (λ b. width_of (cond b (e ∷ cut_away (cut_at number (Some 0)) es) (cut_away (cut_at number (Some 0)) es)) number) (whole_cut number e.0 ∙ is) ∙ more

  -- one more than the last place
  abbrev pub end_of : Option (Spot × T) → ℕ
  end_of None = 0
  end_of (Some e) = e.0.1 + 1

  -- of a directory's own entries in order, the last is the greatest
  pub width_last : (number : ℕ) (es : Entries T) → AllOf number es → is_sorted spot_cmp es ≡ true → width_of es number ≡ end_of (last es)
  width_last number [] own sorted = refl
  width_last number (e ∷ []) own sorted = ap (λ b. cond b (max (e.0.1 + 1) 0) 0) (same_eq e.0.0 number own.0) ∙ none_above (e.0.1 + 1)
    where
      none_above : (n : ℕ) → max n 0 ≡ n
      none_above n = omega arith
  width_last number (e ∷ f ∷ es) own sorted =
      let rest = width_last number (f ∷ es) own.1 (second_of _ _ sorted) in
      let less = place_behind e.0 f.0 (own.0 ∙ sym own.1.0) (first_of _ _ (first_of _ _ sorted)) in
      ap (λ b. cond b (max (e.0.1 + 1) (width_of (f ∷ es) number)) (width_of (f ∷ es) number)) (same_eq e.0.0 number own.0)
      ∙ top e.0.1 f.0.1 (width_of (f ∷ es) number) less (at_least number f es own.1.0)
      ∙ rest
    where
      at_least : (number : ℕ) (f : Spot × T) (es : Entries T) → f.0.0 ≡ number → f.0.1 + 1 ≤ width_of (f ∷ es) number
      at_least number f es is = subst (λ b. f.0.1 + 1 ≤ cond b (max (f.0.1 + 1) (width_of es number)) (width_of es number)) (sym (same_eq f.0.0 number is)) (above (f.0.1 + 1) (width_of es number))
        where
          above : (n m : ℕ) → n ≤ max n m
          above n m = omega arith

  pub last_within : (es : Entries T) (e : Spot × T) → AreWithin es → last es ≡ Some e → e.0.1 < 1048576
  last_within [] e within is = cc
  last_within (x ∷ []) e within is = let same : x ≡ e = cc in subst (λ (y : Spot × T). y.0.1 < 1048576) same within.0
  last_within (x ∷ y ∷ es) e within is = last_within (y ∷ es) e within.1 is

  -- ---- places

  pub own_places : (number : ℕ) (es : Entries T) → map (λ e. e.0.1) (cut_away (cut_at number (Some 0)) es) ≡ dirty_places es number
  own_places number [] = refl
  own_places number (e ∷ es) = by (nat_eq e.0.0 number) refl (own_places number es)
    where
      by : (b : Bool) → nat_eq e.0.0 number ≡ b → map (λ e. e.0.1) (cut_away (cut_at number (Some 0)) es) ≡ dirty_places es number
          → map (λ e. e.0.1) (cond (is_cut (cut_at number (Some 0)) e.0) (e ∷ cut_away (cut_at number (Some 0)) es) (cut_away (cut_at number (Some 0)) es))
          ≡ map (λ e. e.0.1) (cond b (e ∷ filter (λ e. nat_eq e.0.0 number) es) (filter (λ e. nat_eq e.0.0 number) es))
      by true is more = ap (λ b. map (λ e. e.0.1) (cond b (e ∷ cut_away (cut_at number (Some 0)) es) (cut_away (cut_at number (Some 0)) es))) (whole_cut number e.0 ∙ is)
          ∙ ap (λ (l : List ℕ). e.0.1 ∷ l) more
      by false is more = ap (λ b. map (λ e. e.0.1) (cond b (e ∷ cut_away (cut_at number (Some 0)) es) (cut_away (cut_at number (Some 0)) es))) (whole_cut number e.0 ∙ is) ∙ more
