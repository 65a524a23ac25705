-- What keeps entries in order and within the greatest size.
use Rattle.std.proofs.Common.{◌≡◌, ◌<◌, ◌≤◌, ℕ, zero, suc, ◌+◌, Bool, true, false, cond, [], ◌∷◌, ◌++◌, length, get_or, filter, refl, ap, arith}
use Rattle.std.specs.Prelude.{not, Option, Some, None}
use Rattle.std.specs.declared.cmp.Ordering.{Ordering}
use Rattle.std.specs.declared.cmp.Ordering.TheVariants.{Less, Equal, Greater}
use Rattle.std.specs.FinMap.{put, is_sorted}
use Rattle.std.specs.FinMap.Entries.{by_order}
use Rattle.volume_model.specs.Places.{Spot, spot_cmp, spot_eq}
use Rattle.volume_model.specs.Done.{Cut}
use Rattle.dirty_store.specs.Entries.{Entries, AreWithin, AreKept, uncut, cut_away, all_put, set_back, there}
use Rattle.dirty_store.specs.Inside.{all_there}
use Rattle.dirty_store.proofs.BackLaws.{set_back_sorted, uncut_sorted, length-put_found}

module _ {T : Type 0} where
  -- ---- where there is no cut

  pub uncut-none : (es : Entries T) → uncut None es ≡ es
  uncut-none [] = refl
  uncut-none (e ∷ es) = ap (λ (r : Entries T). e ∷ r) (uncut-none es)

  pub cut_away-none : (es : Entries T) → cut_away None es ≡ []
  cut_away-none [] = refl
  cut_away-none (e ∷ es) = cut_away-none es

  -- ---- within

  pub put_within : (s : Spot) (item : T) (es : Entries T) → s.1 < 1048576 → AreWithin es → AreWithin (put spot_cmp s item es)
  put_within s item [] here within = (here, tt)
  put_within s item (e ∷ es) here within = by (spot_cmp s e.0) (put_within s item es here within.1)
    where
      by : (o : Ordering) → AreWithin (put spot_cmp s item es) → AreWithin (by_order o ((s, item) ∷ e ∷ es) ((e.0, item) ∷ es) (e ∷ put spot_cmp s item es))
      by Less more = (here, within)
      by Equal more = (within.0, within.1)
      by Greater more = (within.0, more)

  pub filter_within : (test : Spot × T → Bool) (es : Entries T) → AreWithin es → AreWithin (filter test es)
  filter_within test [] within = tt
  filter_within test (e ∷ es) within = by (test e) (filter_within test es within.1)
    where
      by : (b : Bool) → AreWithin (filter test es) → AreWithin (cond b (e ∷ filter test es) (filter test es))
      by true more = (within.0, more)
      by false more = more

  pub append_within : (xs ys : Entries T) → AreWithin xs → AreWithin ys → AreWithin (xs ++ ys)
  append_within [] ys first second = second
  append_within (x ∷ xs) ys first second = (first.0, append_within xs ys first.1 second)

  pub within_last : (xs : Entries T) (x : Spot × T) → AreWithin (xs ++ x ∷ []) → AreWithin xs × (x.0.1 < 1048576)
  within_last [] x within = (tt, within.0)
  within_last (y ∷ ys) x within = let rest = within_last ys x within.1 in ((within.0, rest.0), rest.1)

  pub within_next : (xs : Entries T) (x : Spot × T) (ys : Entries T) → AreWithin (xs ++ x ∷ ys) → x.0.1 < 1048576
  within_next [] x ys within = within.0
  within_next (y ∷ xs) x ys within = within_next xs x ys within.1

  pub there_within : (es : Entries T) → AreWithin es → AreWithin (all_there es)
  there_within [] within = tt
  there_within (e ∷ es) within = (within.0, there_within es within.1)

  -- ---- both

  pub set_back_kept : (s : Spot) (o : Option T) (es : Entries T) → s.1 < 1048576 → AreKept es → AreKept (set_back s o es)
  set_back_kept s None es here kept = record { in_order = set_back_sorted s None es kept.in_order; within = filter_within _ es kept.within }
  set_back_kept s (Some item) es here kept = record { in_order = set_back_sorted s (Some item) es kept.in_order; within = put_within s item es here kept.within }

  pub put_kept : (s : Spot) (item : T) (es : Entries T) → s.1 < 1048576 → AreKept es → AreKept (put spot_cmp s item es)
  put_kept s item es here kept = set_back_kept s (Some item) es here kept

  pub uncut_kept : (cut : Option Cut) (es : Entries T) → AreKept es → AreKept (uncut cut es)
  uncut_kept cut es kept = record { in_order = uncut_sorted cut es kept.in_order; within = filter_within _ es kept.within }

  pub all_put-append : (xs ys es : Entries T) → all_put (xs ++ ys) es ≡ all_put ys (all_put xs es)
  all_put-append [] ys es = refl
  all_put-append (x ∷ xs) ys es = all_put-append xs ys (put spot_cmp x.0 x.1 es)

  pub all_put_kept : (xs es : Entries T) → AreWithin xs → AreKept es → AreKept (all_put xs es)
  all_put_kept [] es within kept = kept
  all_put_kept (x ∷ xs) es within kept = all_put_kept xs (put spot_cmp x.0 x.1 es) within.1 (put_kept x.0 x.1 es within.0 kept)

  -- ---- how many

  length-filter : (test : Spot × T → Bool) (es : Entries T) → length (filter test es) ≤ length es
  length-filter test [] = omega arith
  length-filter test (e ∷ es) = by (test e) (length-filter test es)
    where
      by : (b : Bool) → length (filter test es) ≤ length es → length (cond b (e ∷ filter test es) (filter test es)) ≤ suc (length es)
      by true le = omega arith
      by false le = omega arith

  pub length-set_back : (s : Spot) (o : Option T) (es : Entries T) → is_sorted spot_cmp es ≡ true → length (set_back s o es) ≤ length es + there ((s, o) ∷ [])
  length-set_back s None es sorted = omega (arith, length-filter (λ x. not (spot_eq x.0 s)) es)
  length-set_back s (Some item) es sorted = omega (arith, length-put_found s item es sorted)

  -- ---- by index

  pub within_at : (es : Entries T) (k : ℕ) (d : Spot × T) → AreWithin es → k < length es → (get_or es k d).0.1 < 1048576
  within_at [] k d within lt = absurd (omega arith)
  within_at (e ∷ es) zero d within lt = within.0
  within_at (e ∷ es) (suc k) d within lt = within_at es k d within.1 (omega arith)
