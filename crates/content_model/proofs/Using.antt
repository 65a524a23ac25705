-- A use of a block, step by step.
use Rattle.std.proofs.Common.{◌≡◌, ℕ, zero, suc, ◌+◌, ◌<◌, ◌≤◌, Bool, true, false, cond, not, List, [], ◌∷◌, length, filter, take, drop, refl, sym, ap, subst, ◌∙◌, arith}
use Rattle.std.specs.Prelude.{◌||◌, ◌&&◌, nat_eq, nat_lt, remove, slice_index_or}
use Rattle.std.specs.List.{list_any}
use Rattle.std.specs.Cmp.Lexicographic.{pointwise}
use Rattle.std.proofs.lemmas.Bool.Decides.{nat_tests}
use Rattle.place_words.specs.Different.{is_among, Distinct}
use Rattle.volume_model.specs.Cache.{CacheList, cached_blocks, has_fingerprint, forget, kin, without_last_kin, with_few_kin, use_block}
use Rattle.content_model.specs.Stored.{with_room_for_kin}

-- ---- fingerprints

pub same_all : (xs : List ℕ) → pointwise nat_eq xs xs ≡ true
same_all [] = refl
same_all (x ∷ xs) =
    let one : nat_eq x x ≡ true = grind (arith, nat_tests) in
    rw (one, same_all xs) refl

pub all_same : (xs ys : List ℕ) → pointwise nat_eq xs ys ≡ true → xs ≡ ys
all_same [] [] e = refl
all_same [] (y ∷ ys) e = cc
all_same (x ∷ xs) [] e = cc
all_same (x ∷ xs) (y ∷ ys) e = by (nat_eq x y) refl e (all_same xs ys)
  where
    by : (t : Bool) → nat_eq x y ≡ t → (t && pointwise nat_eq xs ys) ≡ true → (pointwise nat_eq xs ys ≡ true → xs ≡ ys) → (x ∷ xs) ≡ (y ∷ ys)
    by true same e more = let first : x ≡ y = grind (arith, nat_tests) in let rest = more e in λ i. first i ∷ rest i
    by false same e more = cc

module _ (fingerprint : List ℕ) where
  abbrev has : List ℕ × ℕ → Bool
  has p = has_fingerprint fingerprint p

  -- ---- the last pair of the fingerprint

  any_at : (ps : CacheList) (i : ℕ) (d : List ℕ × ℕ) → i < length ps → has (slice_index_or ps i d) ≡ true → list_any has ps ≡ true
  any_at [] i d less e = absurd (omega arith)
  any_at (p ∷ ps) zero d less e = rw e refl
  any_at (p ∷ ps) (suc i) d less e = by (has p) (any_at ps i d (omega arith) e)
    where
      by : (t : Bool) → list_any has ps ≡ true → (t || list_any has ps) ≡ true
      by true more = refl
      by false more = more

  pub last_removed : (ps : CacheList) (i : ℕ) (d : List ℕ × ℕ) → i < length ps → has (slice_index_or ps i d) ≡ true → list_any has (drop (suc i) ps) ≡ false → remove ps i ≡ without_last_kin fingerprint ps
  last_removed [] i d less e none = absurd (omega arith)
  last_removed (p ∷ ps) zero d less e none = rw (e, none) refl
  last_removed (p ∷ ps) (suc i) d less e none =
      let there : list_any has ps ≡ true = any_at ps i d (omega arith) e in
      by (has p) there (last_removed ps i d (omega arith) e none)
    where
      by : (t : Bool) → list_any has ps ≡ true → remove ps i ≡ without_last_kin fingerprint ps → remove (p ∷ ps) (suc i) ≡ cond (t && not (list_any has ps)) ps (p ∷ without_last_kin fingerprint ps)
      by true there more = rw there (ap (λ (qs : CacheList). p ∷ qs) more)
      by false there more = ap (λ (qs : CacheList). p ∷ qs) more

  pub none_removed : (ps : CacheList) → list_any has ps ≡ false → without_last_kin fingerprint ps ≡ ps
  none_removed [] none = refl
  none_removed (p ∷ ps) none = by (has p) none (none_removed ps)
    where
      by : (t : Bool) → (t || list_any has ps) ≡ false → (list_any has ps ≡ false → without_last_kin fingerprint ps ≡ ps) → cond (t && not (list_any has ps)) ps (p ∷ without_last_kin fingerprint ps) ≡ (p ∷ ps)
      by true none more = cc
      by false none more = ap (λ (qs : CacheList). p ∷ qs) (more none)

  -- ---- how many pairs of a fingerprint there are

  none_count : (ps : CacheList) → list_any has ps ≡ false → length (kin ps fingerprint) ≡ 0
  none_count [] none = refl
  none_count (p ∷ ps) none = by (has p) none (none_count ps)
    where
      by : (t : Bool) → (t || list_any has ps) ≡ false → (list_any has ps ≡ false → length (kin ps fingerprint) ≡ 0) → length (cond t (p ∷ kin ps fingerprint) (kin ps fingerprint)) ≡ 0
      by true none more = cc
      by false none more = more none

  -- one fewer is left
  one_fewer : (ps : CacheList) → list_any has ps ≡ true → length (kin (without_last_kin fingerprint ps) fingerprint) + 1 ≡ length (kin ps fingerprint)
  one_fewer [] some = cc
  one_fewer (p ∷ ps) some = by (has p) refl (list_any has ps) refl some (one_fewer ps) (none_count ps)
    where
      by : (t : Bool) → has p ≡ t → (u : Bool) → list_any has ps ≡ u → (t || u) ≡ true
          → (list_any has ps ≡ true → length (kin (without_last_kin fingerprint ps) fingerprint) + 1 ≡ length (kin ps fingerprint))
          → (list_any has ps ≡ false → length (kin ps fingerprint) ≡ 0)
          → length (kin (cond (t && not u) ps (p ∷ without_last_kin fingerprint ps)) fingerprint) + 1 ≡ length (cond t (p ∷ kin ps fingerprint) (kin ps fingerprint))
      by true own true there some more none = rw own (omega (arith, more there))
      by true own false there some more none = rw (none there) refl
      by false own true there some more none = rw own (more there)
      by false own false there some more none = cc

  -- no more of another are left
  pub no_more : (test : List ℕ × ℕ → Bool) (ps : CacheList) → length (filter test (without_last_kin fingerprint ps)) ≤ length (filter test ps)
  no_more test [] = omega arith
  no_more test (p ∷ ps) = by (has p && not (list_any has ps)) (test p) refl (no_more test ps)
    where
      by : (t : Bool) (u : Bool) → test p ≡ u → length (filter test (without_last_kin fingerprint ps)) ≤ length (filter test ps)
          → length (filter test (cond t ps (p ∷ without_last_kin fingerprint ps))) ≤ length (cond u (p ∷ filter test ps) (filter test ps))
      by true true is more = omega arith
      by true false is more = omega arith
      by false true is more = rw is (omega (arith, more))
      by false false is more = rw is more

  -- ---- room for one pair more

  abbrev pair : ℕ → List ℕ × ℕ
  pair block = (fingerprint, block)

  own_any : (ps : CacheList) → 0 < length (kin ps fingerprint) → list_any has ps ≡ true
  own_any [] some = absurd (omega arith)
  own_any (p ∷ ps) some = by (has p) some (own_any ps)
    where
      by : (t : Bool) → 0 < length (cond t (p ∷ kin ps fingerprint) (kin ps fingerprint)) → (0 < length (kin ps fingerprint) → list_any has ps ≡ true) → (t || list_any has ps) ≡ true
      by true some more = refl
      by false some more = more some

  pub room_first : (block : ℕ) (ps : CacheList) → (pair block ∷ with_room_for_kin fingerprint ps) ≡ with_few_kin fingerprint (pair block ∷ ps)
  room_first block ps = by (nat_lt 7 (length (kin ps fingerprint))) refl
    where
      counted : (n : ℕ) → length (kin ps fingerprint) ≡ n → length (kin (pair block ∷ ps) fingerprint) ≡ n + 1
      counted n e = rw (same_all fingerprint) (omega (arith, e))

      chosen : Bool → CacheList
      chosen t = cond t (without_last_kin fingerprint (pair block ∷ ps)) (pair block ∷ ps)

      by : (t : Bool) → nat_lt 7 (length (kin ps fingerprint)) ≡ t → (pair block ∷ cond t (without_last_kin fingerprint ps) ps) ≡ with_few_kin fingerprint (pair block ∷ ps)
      by true more =
          let many : 7 < length (kin ps fingerprint) = grind (arith, nat_tests) in
          let over : nat_lt 8 (length (kin (pair block ∷ ps) fingerprint)) ≡ true = rw (counted (length (kin ps fingerprint)) refl) (grind (arith, nat_tests)) in
          let there : list_any has ps ≡ true = own_any ps (omega (arith, many)) in
          let first : (pair block ∷ without_last_kin fingerprint ps) ≡ without_last_kin fingerprint (pair block ∷ ps) = rw (same_all fingerprint, there) refl in
          first ∙ ap chosen (sym over)
      by false less =
          let few : nat_lt 8 (length (kin (pair block ∷ ps) fingerprint)) ≡ false = rw (counted (length (kin ps fingerprint)) refl) (grind (arith, nat_tests)) in
          ap chosen (sym few)

  pub taken_is : (capacity block : ℕ) (ps : CacheList) → take capacity (pair block ∷ with_room_for_kin fingerprint (forget ps block)) ≡ use_block capacity ps fingerprint block
  taken_is capacity block ps = ap (λ (qs : CacheList). take capacity qs) (room_first block (forget ps block))

-- ---- at most 8 pairs have a fingerprint

take_count : (test : List ℕ × ℕ → Bool) (n : ℕ) (ps : CacheList) → length (filter test (take n ps)) ≤ length (filter test ps)
take_count test zero ps = omega arith
take_count test (suc n) [] = omega arith
take_count test (suc n) (p ∷ ps) = by (test p) (take_count test n ps)
  where
    by : (t : Bool) → length (filter test (take n ps)) ≤ length (filter test ps) → length (cond t (p ∷ filter test (take n ps)) (filter test (take n ps))) ≤ length (cond t (p ∷ filter test ps) (filter test ps))
    by true more = omega (arith, more)
    by false more = more

filter_count : (test other : List ℕ × ℕ → Bool) (ps : CacheList) → length (filter test (filter other ps)) ≤ length (filter test ps)
filter_count test other [] = omega arith
filter_count test other (p ∷ ps) = by (other p) (test p) refl (filter_count test other ps)
  where
    by : (t u : Bool) → test p ≡ u → length (filter test (filter other ps)) ≤ length (filter test ps) → length (filter test (cond t (p ∷ filter other ps) (filter other ps))) ≤ length (cond u (p ∷ filter test ps) (filter test ps))
    by true true is more = rw is (omega (arith, more))
    by true false is more = rw is more
    by false true is more = omega (arith, more)
    by false false is more = more

abbrev pub AtMost8 : CacheList → Type 0
AtMost8 ps = (fingerprint : List ℕ) → length (kin ps fingerprint) ≤ 8

pub forget_at_most : (ps : CacheList) (block : ℕ) → AtMost8 ps → AtMost8 (forget ps block)
forget_at_most ps block most fingerprint = omega (arith, filter_count (has_fingerprint fingerprint) (λ (p : List ℕ × ℕ). not (nat_eq p.1 block)) ps, most fingerprint)

room_at_most : (fingerprint : List ℕ) (ps : CacheList) → AtMost8 ps → (other : List ℕ) → length (kin (with_room_for_kin fingerprint ps) other) ≤ 8
room_at_most fingerprint ps most other = by (nat_lt 7 (length (kin ps fingerprint)))
  where
    by : (t : Bool) → length (kin (cond t (without_last_kin fingerprint ps) ps) other) ≤ 8
    by true = omega (arith, no_more fingerprint (has_fingerprint other) ps, most other)
    by false = most other

-- there is room for one more of its own
room_own : (fingerprint : List ℕ) (ps : CacheList) → AtMost8 ps → length (kin (with_room_for_kin fingerprint ps) fingerprint) ≤ 7
room_own fingerprint ps most = by (nat_lt 7 (length (kin ps fingerprint))) refl
  where
    by : (t : Bool) → nat_lt 7 (length (kin ps fingerprint)) ≡ t → length (kin (cond t (without_last_kin fingerprint ps) ps) fingerprint) ≤ 7
    by true more =
        let many : 7 < length (kin ps fingerprint) = grind (arith, nat_tests) in
        omega (arith, one_fewer fingerprint ps (own_any fingerprint ps (omega (arith, many))), most fingerprint)
    by false less = grind (arith, nat_tests)

pub use_at_most : (capacity : ℕ) (fingerprint : List ℕ) (block : ℕ) (ps : CacheList) → AtMost8 ps → AtMost8 (use_block capacity ps fingerprint block)
use_at_most capacity fingerprint block ps most other =
    subst (λ (qs : CacheList). length (kin qs other) ≤ 8) (taken_is fingerprint capacity block ps)
    (omega (arith, take_count (has_fingerprint other) capacity (pair fingerprint block ∷ with_room_for_kin fingerprint (forget ps block)), first (has_fingerprint other (pair fingerprint block)) refl))
  where
    left : AtMost8 (forget ps block)
    left = forget_at_most ps block most

    first : (t : Bool) → has_fingerprint other (pair fingerprint block) ≡ t
        → length (cond t (pair fingerprint block ∷ kin (with_room_for_kin fingerprint (forget ps block)) other) (kin (with_room_for_kin fingerprint (forget ps block)) other)) ≤ 8
    first true same =
        let e : fingerprint ≡ other = all_same fingerprint other same in
        let own = subst (λ (f : List ℕ). length (kin (with_room_for_kin fingerprint (forget ps block)) f) ≤ 7) e (room_own fingerprint (forget ps block) left) in
        omega (arith, own)
    first false same = room_at_most fingerprint (forget ps block) left other

-- ---- no block is there twice

none_more : (a b : Bool) → (a ≡ true → b ≡ true) → b ≡ false → a ≡ false
none_more true b f e = let t : b ≡ true = f refl in cc
none_more false b f e = refl

left_among : (block : ℕ) (ps : CacheList) (n : ℕ) → is_among (cached_blocks (forget ps block)) n ≡ true → is_among (cached_blocks ps) n ≡ true
left_among block [] n e = e
left_among block (p ∷ ps) n e = by (nat_eq p.1 block) (nat_eq p.1 n) refl e (left_among block ps n)
  where
    by : (t u : Bool) → nat_eq p.1 n ≡ u → is_among (cached_blocks (cond (not t) (p ∷ forget ps block) (forget ps block))) n ≡ true
        → (is_among (cached_blocks (forget ps block)) n ≡ true → is_among (cached_blocks ps) n ≡ true) → (u || is_among (cached_blocks ps) n) ≡ true
    by t true is e more = refl
    by true false is e more = more e
    by false false is e more = more (rw is at e)

pub forget_once : (block : ℕ) (ps : CacheList) → Distinct (cached_blocks ps) → Distinct (cached_blocks (forget ps block))
forget_once block [] once = tt
forget_once block (p ∷ ps) once = by (nat_eq p.1 block) (forget_once block ps once.1)
  where
    by : (t : Bool) → Distinct (cached_blocks (forget ps block)) → Distinct (cached_blocks (cond (not t) (p ∷ forget ps block) (forget ps block)))
    by true more = more
    by false more = (none_more _ _ (left_among block ps p.1) once.0, more)

pub forget_fewer : (block : ℕ) (ps : CacheList) → length (forget ps block) ≤ length ps
forget_fewer block [] = omega arith
forget_fewer block (p ∷ ps) = by (nat_eq p.1 block) (forget_fewer block ps)
  where
    by : (t : Bool) → length (forget ps block) ≤ length ps → length (cond (not t) (p ∷ forget ps block) (forget ps block)) ≤ length (p ∷ ps)
    by true more = omega (arith, more)
    by false more = omega (arith, more)
