-- What is put back is what was there.
use Rattle.std.proofs.Common.{◌≡◌, ◌+◌, Bool, true, false, cond, [], ◌∷◌, ◌++◌, length, refl, sym, ap, ◌∙◌, arith}
use Rattle.std.specs.Prelude.{not, Option, Some, None, is_some}
use Rattle.std.specs.Ordering.{eq_by_cmp}
use Rattle.std.specs.Cmp.{eq_by_cmp_equiv}
use Rattle.std.specs.FinMap.{find, put, is_sorted}
use Rattle.std.specs.FinMap.Entries.{is_sorted-put, is_sorted-where_key, find-put, find-where_key, length-put, same_entries}
use Rattle.std.proofs.lemmas.List.Filters.{length-filter_both}
use Rattle.volume_model.specs.Places.{Spot, spot_cmp, spot_eq}
use Rattle.volume_model.specs.Done.{Cut, is_cut}
use Rattle.volume_model.proofs.Order.{T_true, true_T, spot_total, spot_tie}
use Rattle.dirty_store.specs.Entries.{Entries, without, uncut, cut_away, set_back, put_back, there}
use Rattle.dirty_store.specs.Inside.{all_there}
use Rattle.dirty_store.proofs.Places.{equal_of, spot_eq_is}

abbrev pub same : Spot → Spot → Bool
same q s = eq_by_cmp spot_cmp q s

pub same_true : (q s : Spot) → same q s ≡ true → q ≡ s
same_true q s e = spot_tie q s (equal_of _ e)

module _ {T : Type 0} where
  -- ---- look-ups

  pub find_without : (q s : Spot) (es : Entries T) → find spot_cmp q (without s es) ≡ cond (same q s) None (find spot_cmp q es)
  find_without q s es =
      find-where_key spot_cmp (λ x. not (spot_eq x s)) q (λ x tie. ap (λ (y : Spot). not (spot_eq y s)) (sym (spot_tie q x tie))) es
      ∙ ap (λ b. cond (not b) (find spot_cmp q es) None) (spot_eq_is q s ∙ (eq_by_cmp_equiv spot_total).symm s q)
      ∙ turned (same q s)
    where
      turned : (b : Bool) → cond (not b) (find spot_cmp q es) None ≡ cond b None (find spot_cmp q es)
      turned true = refl
      turned false = refl

  pub find_set_back : (q s : Spot) (o : Option T) (es : Entries T) → find spot_cmp q (set_back s o es) ≡ cond (same q s) o (find spot_cmp q es)
  find_set_back q s None es = find_without q s es
  find_set_back q s (Some item) es = find-put spot_cmp spot_total q s item es

  pub find_uncut : (q : Spot) (cut : Option Cut) (es : Entries T) → find spot_cmp q (uncut cut es) ≡ cond (not (is_cut cut q)) (find spot_cmp q es) None
  find_uncut q cut es = find-where_key spot_cmp (λ x. not (is_cut cut x)) q (λ x tie. ap (λ (y : Spot). not (is_cut cut y)) (sym (spot_tie q x tie))) es

  find_cut_away : (q : Spot) (cut : Option Cut) (es : Entries T) → find spot_cmp q (cut_away cut es) ≡ cond (is_cut cut q) (find spot_cmp q es) None
  find_cut_away q cut es = find-where_key spot_cmp (is_cut cut) q (λ x tie. ap (is_cut cut) (sym (spot_tie q x tie))) es

  find_all_there : (q : Spot) (xs m : Entries T) → find spot_cmp q (put_back (all_there xs) m) ≡ cond (is_some (find spot_cmp q xs)) (find spot_cmp q xs) (find spot_cmp q m)
  find_all_there q [] m = refl
  find_all_there q (x ∷ xs) m = find-put spot_cmp spot_total q x.0 x.1 (put_back (all_there xs) m) ∙ by (same q x.0) (find_all_there q xs m)
    where
      by : (b : Bool) → find spot_cmp q (put_back (all_there xs) m) ≡ cond (is_some (find spot_cmp q xs)) (find spot_cmp q xs) (find spot_cmp q m)
          → cond b (Some x.1) (find spot_cmp q (put_back (all_there xs) m))
          ≡ cond (is_some (cond b (Some x.1) (find spot_cmp q xs))) (cond b (Some x.1) (find spot_cmp q xs)) (find spot_cmp q m)
      by true more = refl
      by false more = more

  -- ---- order

  pub set_back_sorted : (s : Spot) (o : Option T) (es : Entries T) → is_sorted spot_cmp es ≡ true → is_sorted spot_cmp (set_back s o es) ≡ true
  set_back_sorted s None es sorted = T_true _ (is_sorted-where_key spot_cmp (λ x. not (spot_eq x s)) es (true_T _ sorted))
  set_back_sorted s (Some item) es sorted = T_true _ (is_sorted-put spot_cmp spot_total s item es (true_T _ sorted))

  pub put_back_sorted : (was : Entries (Option T)) (es : Entries T) → is_sorted spot_cmp es ≡ true → is_sorted spot_cmp (put_back was es) ≡ true
  put_back_sorted [] es sorted = sorted
  put_back_sorted (w ∷ was) es sorted = set_back_sorted w.0 w.1 (put_back was es) (put_back_sorted was es sorted)

  pub uncut_sorted : (cut : Option Cut) (es : Entries T) → is_sorted spot_cmp es ≡ true → is_sorted spot_cmp (uncut cut es) ≡ true
  uncut_sorted cut es sorted = T_true _ (is_sorted-where_key spot_cmp (λ x. not (is_cut cut x)) es (true_T _ sorted))

  -- lists in order that answer alike are one
  pub alike : (es fs : Entries T) → is_sorted spot_cmp es ≡ true → is_sorted spot_cmp fs ≡ true → ((q : Spot) → find spot_cmp q es ≡ find spot_cmp q fs) → es ≡ fs
  alike es fs first second answers = same_entries spot_cmp spot_total spot_tie es fs (true_T _ first) (true_T _ second) answers

  -- ---- what is put back

  pub put_back-append : (xs ys : Entries (Option T)) (es : Entries T) → put_back (xs ++ ys) es ≡ put_back xs (put_back ys es)
  put_back-append [] ys es = refl
  put_back-append (x ∷ xs) ys es = ap (set_back x.0 x.1) (put_back-append xs ys es)

  pub set_back-put : (s : Spot) (item : T) (es : Entries T) → is_sorted spot_cmp es ≡ true → set_back s (find spot_cmp s es) (put spot_cmp s item es) ≡ es
  set_back-put s item es sorted =
      alike _ es (set_back_sorted s (find spot_cmp s es) _ (set_back_sorted s (Some item) es sorted)) sorted
      (λ q. find_set_back q s (find spot_cmp s es) (put spot_cmp s item es) ∙ ap (cond (same q s) (find spot_cmp s es)) (find-put spot_cmp spot_total q s item es) ∙ by q (same q s) refl)
    where
      by : (q : Spot) (b : Bool) → same q s ≡ b → cond b (find spot_cmp s es) (cond b (Some item) (find spot_cmp q es)) ≡ find spot_cmp q es
      by q true is = ap (λ (x : Spot). find spot_cmp x es) (sym (same_true q s is))
      by q false is = refl

  pub put_back-cut : (cut : Option Cut) (es : Entries T) → is_sorted spot_cmp es ≡ true → put_back (all_there (cut_away cut es)) (uncut cut es) ≡ es
  put_back-cut cut es sorted =
      alike _ es (put_back_sorted (all_there (cut_away cut es)) (uncut cut es) (uncut_sorted cut es sorted)) sorted
      (λ q. find_all_there q (cut_away cut es) (uncut cut es)
      ∙ (λ i. cond (is_some (find_cut_away q cut es i)) (find_cut_away q cut es i) (find_uncut q cut es i)) ∙ by (is_cut cut q) (find spot_cmp q es))
    where
      by : (b : Bool) (o : Option T) → cond (is_some (cond b o None)) (cond b o None) (cond (not b) o None) ≡ o
      by true None = refl
      by true (Some item) = refl
      by false o = refl

  -- ---- how many there are

  pub there-append : (xs ys : Entries (Option T)) → there (xs ++ ys) ≡ there xs + there ys
  there-append [] ys = omega arith
  there-append (x ∷ xs) ys = omega (arith, there-append xs ys)

  pub there-all : (xs : Entries T) → there (all_there xs) ≡ length xs
  there-all [] = refl
  there-all (x ∷ xs) = omega (arith, there-all xs)

  pub length-put_found : (s : Spot) (item : T) (es : Entries T) → is_sorted spot_cmp es ≡ true
      → length (put spot_cmp s item es) + cond (is_some (find spot_cmp s es)) 1 0 ≡ length es + 1
  length-put_found s item es sorted = ap (λ n. n + cond (is_some (find spot_cmp s es)) 1 0) (length-put spot_cmp spot_total s item es (true_T _ sorted)) ∙ by (is_some (find spot_cmp s es))
    where
      by : (b : Bool) → cond b (length es) (length es + 1) + cond b 1 0 ≡ length es + 1
      by true = refl
      by false = omega arith

  pub length-cut : (cut : Option Cut) (es : Entries T) → length (uncut cut es) + length (cut_away cut es) ≡ length es
  length-cut cut es = omega (arith, length-filter_both (λ e. is_cut cut e.0) (λ e. not (is_cut cut e.0)) (λ e. refl) es)
