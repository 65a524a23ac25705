-- Entries and what is in their boxes: each step commutes with looking into the boxes.
use Rattle.std.proofs.Common.{◌≡◌, ℕ, ◌+◌, Bool, true, false, cond, List, [], ◌∷◌, length, map, filter, max, refl, sym, ap, ◌∙◌, arith}
use Rattle.std.specs.Prelude.{◌&&◌, not, nat_eq, Option, Some, None, is_some}
use Rattle.std.specs.Option.{option_map}
use Rattle.std.specs.Ordering.{eq_by_cmp, is_lt}
use Rattle.std.specs.declared.cmp.Ordering.{Ordering}
use Rattle.std.specs.declared.cmp.Ordering.TheVariants.{Less, Equal, Greater}
use Rattle.std.specs.FinMap.{find, put, is_sorted}
use Rattle.std.specs.FinMap.Entries.{by_order, below_all}
use Rattle.volume_model.specs.Places.{Spot, spot_cmp, spot_eq}
use Rattle.volume_model.specs.Done.{Cut, is_cut}
use Rattle.dirty_store.specs.Overlay.{width_of, dirty_places}
use Rattle.dirty_store.specs.Entries.{Entries, AreWithin, AreKept, uncut, all_put, set_back, put_back, there}

module _ {A B : Type 0} (g : A → B) where
  -- each entry by what g gives
  abbrev pub each : Entries A → Entries B
  each es = map (λ e. (e.0, g e.1)) es

  abbrev pub each_was : Entries (Option A) → Entries (Option B)
  each_was was = map (λ e. (e.0, option_map g e.1)) was

  pub find-each : (q : Spot) (es : Entries A) → find spot_cmp q (each es) ≡ option_map g (find spot_cmp q es)
  find-each q [] = refl
  find-each q (e ∷ es) = by (eq_by_cmp spot_cmp q e.0) (find-each q es)
    where
      by : (b : Bool) → find spot_cmp q (each es) ≡ option_map g (find spot_cmp q es)
          → cond b (Some (g e.1)) (find spot_cmp q (each es)) ≡ option_map g (cond b (Some e.1) (find spot_cmp q es))
      by true more = refl
      by false more = more

  pub each-put : (s : Spot) (item : A) (es : Entries A) → each (put spot_cmp s item es) ≡ put spot_cmp s (g item) (each es)
  each-put s item [] = refl
  each-put s item (e ∷ es) = by (spot_cmp s e.0) (each-put s item es)
    where
      by : (o : Ordering) → each (put spot_cmp s item es) ≡ put spot_cmp s (g item) (each es)
          → each (by_order o ((s, item) ∷ e ∷ es) ((e.0, item) ∷ es) (e ∷ put spot_cmp s item es))
          ≡ by_order o ((s, g item) ∷ (e.0, g e.1) ∷ each es) ((e.0, g item) ∷ each es) ((e.0, g e.1) ∷ put spot_cmp s (g item) (each es))
      by Less more = refl
      by Equal more = refl
      by Greater more = ap (λ (r : Entries B). (e.0, g e.1) ∷ r) more

  pub each-filter : (test : Spot → Bool) (es : Entries A) → each (filter (λ e. test e.0) es) ≡ filter (λ e. test e.0) (each es)
  each-filter test [] = refl
  each-filter test (e ∷ es) = by (test e.0) (each-filter test es)
    where
      by : (b : Bool) → each (filter (λ e. test e.0) es) ≡ filter (λ e. test e.0) (each es)
          → each (cond b (e ∷ filter (λ e. test e.0) es) (filter (λ e. test e.0) es)) ≡ cond b ((e.0, g e.1) ∷ filter (λ e. test e.0) (each es)) (filter (λ e. test e.0) (each es))
      by true more = ap (λ (r : Entries B). (e.0, g e.1) ∷ r) more
      by false more = more

  pub each-uncut : (cut : Option Cut) (es : Entries A) → each (uncut cut es) ≡ uncut cut (each es)
  each-uncut cut es = each-filter (λ s. not (is_cut cut s)) es

  pub each-all_put : (xs es : Entries A) → each (all_put xs es) ≡ all_put (each xs) (each es)
  each-all_put [] es = refl
  each-all_put (x ∷ xs) es = each-all_put xs (put spot_cmp x.0 x.1 es) ∙ ap (all_put (each xs)) (each-put x.0 x.1 es)

  pub each-set_back : (s : Spot) (o : Option A) (es : Entries A) → each (set_back s o es) ≡ set_back s (option_map g o) (each es)
  each-set_back s None es = each-filter (λ x. not (spot_eq x s)) es
  each-set_back s (Some item) es = each-put s item es

  pub each-put_back : (was : Entries (Option A)) (es : Entries A) → each (put_back was es) ≡ put_back (each_was was) (each es)
  each-put_back [] es = refl
  each-put_back (w ∷ was) es = each-set_back w.0 w.1 (put_back was es) ∙ ap (set_back w.0 (option_map g w.1)) (each-put_back was es)

  pub length-each : (es : Entries A) → length (each es) ≡ length es
  length-each [] = refl
  length-each (e ∷ es) = omega (arith, length-each es)

  pub there-each : (was : Entries (Option A)) → there (each_was was) ≡ there was
  there-each [] = refl
  there-each (w ∷ was) = by w.1 (there-each was)
    where
      by : (o : Option A) → there (each_was was) ≡ there was → cond (is_some (option_map g o)) 1 0 + there (each_was was) ≡ cond (is_some o) 1 0 + there was
      by None more = ap (λ n. 0 + n) more
      by (Some x) more = ap (λ n. 1 + n) more

  -- a look-up among entries, as one among what is in their boxes
  pub looked_up : (q : Spot) (es fs : Entries A) (all : Entries B) (o : Option A) → o ≡ find spot_cmp q es → es ≡ fs → each fs ≡ all → option_map g o ≡ find spot_cmp q all
  looked_up q es fs all o is same view = ap (option_map g) (is ∙ ap (find spot_cmp q) same) ∙ sym (find-each q fs) ∙ ap (find spot_cmp q) view

  pub width-each : (es : Entries A) (number : ℕ) → width_of (each es) number ≡ width_of es number
  width-each [] number = refl
  width-each (e ∷ es) number = ap (λ w. cond (nat_eq e.0.0 number) (max (e.0.1 + 1) w) w) (width-each es number)

  pub places-each : (es : Entries A) (number : ℕ) → dirty_places (each es) number ≡ dirty_places es number
  places-each [] number = refl
  places-each (e ∷ es) number = by (nat_eq e.0.0 number) (places-each es number)
    where
      by : (b : Bool) → dirty_places (each es) number ≡ dirty_places es number
          → map (λ e. e.0.1) (cond b ((e.0, g e.1) ∷ filter (λ e. nat_eq e.0.0 number) (each es)) (filter (λ e. nat_eq e.0.0 number) (each es)))
          ≡ map (λ e. e.0.1) (cond b (e ∷ filter (λ e. nat_eq e.0.0 number) es) (filter (λ e. nat_eq e.0.0 number) es))
      by true more = ap (λ (l : List ℕ). e.0.1 ∷ l) more
      by false more = more

  below-each : (s : Spot) (es : Entries A) → below_all spot_cmp s (each es) ≡ below_all spot_cmp s es
  below-each s [] = refl
  below-each s (e ∷ es) = ap (λ b. is_lt (spot_cmp s e.0) && b) (below-each s es)

  sorted-each : (es : Entries A) → is_sorted spot_cmp (each es) ≡ is_sorted spot_cmp es
  sorted-each [] = refl
  sorted-each (e ∷ es) = λ i. below-each e.0 es i && sorted-each es i

  within-each : (es : Entries A) → AreWithin es → AreWithin (each es)
  within-each [] within = tt
  within-each (e ∷ es) within = (within.0, within-each es within.1)

  pub each_kept : (es : Entries A) → AreKept es → AreKept (each es)
  each_kept es kept = record { in_order = sorted-each es ∙ kept.in_order; within = within-each es kept.within }
