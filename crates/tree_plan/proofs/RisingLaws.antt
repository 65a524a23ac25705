-- Rising numbers with the same members are the same, and which pages are written.
use Rattle.std.proofs.Common.{◌≡◌, ℕ, zero, suc, ◌+◌, ◌-◌, ◌<◌, ◌≤◌, Bool, true, false, not, cond, List, [], ◌∷◌, ◌++◌, filter, length, refl, sym, ap, subst, ◌∙◌, arith}
use Rattle.std.specs.Prelude.{◌&&◌, ◌||◌, nat_eq, nat_lt}
use Rattle.std.proofs.lemmas.Bool.Decides.{nat_tests}
use Rattle.block_format.specs.declared.slot.Slot.{Slot}
use Rattle.block_tree.proofs.Rise.{rising_append}
use Rattle.dir_slots.specs.Pages.{pages_for}
use Rattle.dirty_store.specs.Numbers.{AreOnce, staged_pages}
use Rattle.dirty_store.specs.Overlay.{Overlay}
use Rattle.place_words.specs.Different.{is_among, span}
use Rattle.place_words.specs.Rising.{Rising, AllUnder}
use Rattle.place_words.proofs.Rising.{rising_less}
use Rattle.point_model.specs.NodePlan.{is_changed_page}
use Rattle.tree_plan.specs.Pages.{is_written, written_pages, width_with}
use Rattle.tree_plan.proofs.ChangedLaws.{changed_staged}

pub not_among : (x n : ℕ) → x < n → (xs : List ℕ) → Rising n xs → is_among xs x ≡ false
not_among x n lt [] rising = refl
not_among x n lt (y ∷ ys) rising =
    let le = rising.0 in
    let apart : nat_eq y x ≡ false = grind (arith, nat_tests) in
    ap (λ (t : Bool). t || is_among ys x) apart ∙ not_among x (y + 1) (omega (arith, lt, le)) ys rising.1

itself : (k : ℕ) → nat_eq k k ≡ true
itself k = grind (arith, nat_tests)

differ : (a b : ℕ) → a < b → nat_eq a b ≡ false
differ a b lt = grind (arith, nat_tests)

or_first : (a b : Bool) → a ≡ true → (a || b) ≡ true
or_first true b e = refl
or_first false b e = cc

-- the first member is the least
least_is : (x y : ℕ) (xs ys : List ℕ) → Rising (y + 1) ys → ((k : ℕ) → is_among (x ∷ xs) k ≡ is_among (y ∷ ys) k) → x < y → ⊥
least_is x y xs ys rising same lt =
    let none : is_among (y ∷ ys) x ≡ false = not_among x y lt (y ∷ ys) ((let le : y ≤ y = omega arith in le), rising) in
    let some : is_among (x ∷ xs) x ≡ true = or_first (nat_eq x x) (is_among xs x) (itself x) in
    let never : true ≡ false = sym some ∙ same x ∙ none in
    cc

pub rising_same : (m : ℕ) (xs ys : List ℕ) → Rising m xs → Rising m ys → ((k : ℕ) → is_among xs k ≡ is_among ys k) → xs ≡ ys
rising_same m [] [] rise more same = refl
rising_same m [] (y ∷ ys) rise more same = let never : false ≡ true = same y ∙ or_first (nat_eq y y) (is_among ys y) (itself y) in cc
rising_same m (x ∷ xs) [] rise more same = let never : false ≡ true = sym (same x) ∙ or_first (nat_eq x x) (is_among xs x) (itself x) in cc
rising_same m (x ∷ xs) (y ∷ ys) rise more same = by first (λ rest. rising_same (x + 1) xs ys rise.1 rest)
  where
    first : x ≡ y
    first = by_order (nat_lt x y) refl (nat_lt y x) refl
      where
        by_order : (t : Bool) → nat_lt x y ≡ t → (u : Bool) → nat_lt y x ≡ u → x ≡ y
        by_order true is u also = absurd (least_is x y xs ys more.1 same (grind (arith, nat_tests)))
        by_order false is true also = absurd (least_is y x ys xs rise.1 (λ k. sym (same k)) (grind (arith, nat_tests)))
        by_order false is false also = grind (arith, nat_tests)

    by : x ≡ y → (Rising (x + 1) ys → ((k : ℕ) → is_among xs k ≡ is_among ys k) → xs ≡ ys) → x ∷ xs ≡ y ∷ ys
    by e rest =
        let tails = rest (subst (λ (z : ℕ). Rising (z + 1) ys) (sym e) more.1) others in
        λ i. e i ∷ tails i
      where
        others : (k : ℕ) → is_among xs k ≡ is_among ys k
        others k = go (nat_lt x k) refl
          where
            go : (t : Bool) → nat_lt x k ≡ t → is_among xs k ≡ is_among ys k
            go true is =
                let lt : x < k = grind (arith, nat_tests) in
                sym (ap (λ (t : Bool). t || is_among xs k) (differ x k lt)) ∙ same k ∙ ap (λ (t : Bool). t || is_among ys k) (differ y k (omega (arith, lt, e)))
            go false is =
                let lt : k < x + 1 = grind (arith, nat_tests) in
                not_among k (x + 1) lt xs rise.1 ∙ sym (not_among k (y + 1) (omega (arith, lt, e)) ys more.1)

-- ---- spans and filters

pub filter_rises : (test : ℕ → Bool) (m : ℕ) (xs : List ℕ) → Rising m xs → Rising m (filter test xs)
filter_rises test m [] rising = tt
filter_rises test m (x ∷ xs) rising = by (test x) (filter_rises test (x + 1) xs rising.1)
  where
    by : (t : Bool) → Rising (x + 1) (filter test xs) → Rising m (cond t (x ∷ filter test xs) (filter test xs))
    by true more = (rising.0, more)
    by false more = rising_less m (x + 1) (omega (arith, rising.0)) (filter test xs) more

pub span_rises : (m k : ℕ) → Rising m (span m k)
span_rises m zero = tt
span_rises m (suc k) = (omega arith, span_rises (m + 1) k)

span_next : (from n : ℕ) → span from (suc n) ≡ span from n ++ (from + n) ∷ []
span_next from zero = let e : from ≡ from + 0 = omega arith in ap (λ (k : ℕ). k ∷ []) e
span_next from (suc n) =
    let e : (from + 1) + n ≡ from + suc n = omega arith in
    ap (λ (l : List ℕ). from ∷ l) (span_next (from + 1) n) ∙ ap (λ (k : ℕ). from ∷ (span (from + 1) n ++ k ∷ [])) e

pub span_more : (from k : ℕ) → from ≤ k → span from (k + 1 - from) ≡ span from (k - from) ++ k ∷ []
span_more from k le =
    let e : k + 1 - from ≡ suc (k - from) = omega (arith, le) in
    let f : from + (k - from) ≡ k = omega (arith, le) in
    ap (span from) e ∙ span_next from (k - from) ∙ ap (λ (j : ℕ). span from (k - from) ++ j ∷ []) f

pub filter_among : (test : ℕ → Bool) (xs : List ℕ) (k : ℕ) → is_among (filter test xs) k ≡ (is_among xs k && test k)
filter_among test [] k = refl
filter_among test (x ∷ xs) k = by (test x) refl (nat_eq x k) refl (filter_among test xs k)
  where
    by : (t : Bool) → test x ≡ t → (u : Bool) → nat_eq x k ≡ u → is_among (filter test xs) k ≡ (is_among xs k && test k)
        → is_among (cond t (x ∷ filter test xs) (filter test xs)) k ≡ ((u || is_among xs k) && test k)
    by true is true here more =
        let e : x ≡ k = grind (arith, nat_tests) in
        or_first (nat_eq x k) (is_among (filter test xs) k) here ∙ sym is ∙ ap test e
    by true is false here more = ap (λ (u : Bool). u || is_among (filter test xs) k) here ∙ more
    by false is true here more =
        let e : x ≡ k = grind (arith, nat_tests) in
        let fails : test k ≡ false = ap test (sym e) ∙ is in
        more ∙ ap (λ (u : Bool). is_among xs k && u) fails ∙ and_false (is_among xs k) ∙ sym fails
      where
        and_false : (a : Bool) → (a && false) ≡ false
        and_false true = refl
        and_false false = refl
    by false is false here more = more

pub span_among : (m n k : ℕ) → is_among (span m n) k ≡ (not (nat_lt k m) && nat_lt k (m + n))
span_among m zero k = by (nat_lt k m) refl (nat_lt k (m + 0)) refl
  where
    by : (t : Bool) → nat_lt k m ≡ t → (u : Bool) → nat_lt k (m + 0) ≡ u → false ≡ (not t && u)
    by true is u also = refl
    by false is true also = absurd (grind (arith, nat_tests))
    by false is false also = refl
span_among m (suc n) k = by (nat_eq m k) refl (nat_lt k m) refl (nat_lt k (m + suc n)) refl (nat_lt k (m + 1)) refl (nat_lt k ((m + 1) + n)) refl (span_among (m + 1) n k)
  where
    by : (t : Bool) → nat_eq m k ≡ t → (u : Bool) → nat_lt k m ≡ u → (v : Bool) → nat_lt k (m + suc n) ≡ v → (w : Bool) → nat_lt k (m + 1) ≡ w → (z : Bool) → nat_lt k ((m + 1) + n) ≡ z
        → is_among (span (m + 1) n) k ≡ (not (nat_lt k (m + 1)) && nat_lt k ((m + 1) + n)) → (t || is_among (span (m + 1) n) k) ≡ (not u && v)
    by true is true a v b w d z f more = absurd (grind (arith, nat_tests))
    by true is false a true b w d z f more = refl
    by true is false a false b w d z f more = absurd (grind (arith, nat_tests))
    by false is true a v b true d z f more = more ∙ ap (λ (w : Bool). not w && nat_lt k ((m + 1) + n)) d
    by false is true a v b false d z f more = absurd (grind (arith, nat_tests))
    by false is false a v b true d z f more = absurd (grind (arith, nat_tests))
    by false is false a true b false d true f more = more ∙ (λ i. not (d i) && f i)
    by false is false a false b false d false f more = more ∙ (λ i. not (d i) && f i)
    by false is false a true b false d false f more = absurd (grind (arith, nat_tests))
    by false is false a false b false d true f more = absurd (grind (arith, nat_tests))

pub append_among : (xs ys : List ℕ) (k : ℕ) → is_among (xs ++ ys) k ≡ (is_among xs k || is_among ys k)
append_among [] ys k = refl
append_among (x ∷ xs) ys k = by (nat_eq x k) (append_among xs ys k)
  where
    by : (t : Bool) → is_among (xs ++ ys) k ≡ (is_among xs k || is_among ys k) → (t || is_among (xs ++ ys) k) ≡ ((t || is_among xs k) || is_among ys k)
    by true more = refl
    by false more = more

filter_under : (test : ℕ → Bool) (limit : ℕ) (xs : List ℕ) → AllUnder limit (filter (λ p. nat_lt p limit && test p) xs)
filter_under test limit [] = tt
filter_under test limit (x ∷ xs) = by (nat_lt x limit) refl (test x) (filter_under test limit xs)
  where
    by : (t : Bool) → nat_lt x limit ≡ t → (u : Bool) → AllUnder limit (filter (λ p. nat_lt p limit && test p) xs)
        → AllUnder limit (cond (t && u) (x ∷ filter (λ p. nat_lt p limit && test p) xs) (filter (λ p. nat_lt p limit && test p) xs))
    by true is true more = (grind (arith, nat_tests), more)
    by true is false more = more
    by false is u more = more

-- ---- which pages are written

-- the changed pages that were there, and then those that were not
pub pages_written : (left : List Slot) (o : Overlay) (n : ℕ) (staged : List ℕ) (before after : ℕ) → AreOnce (staged_pages o n) staged → before ≡ pages_for (length left) → after ≡ pages_for (width_with left o n) → before ≤ after
    → filter (λ p. nat_lt p before && is_changed_page left o n p) staged ++ span before (after - before) ≡ written_pages left o n
pages_written left o n staged before after once first last le =
    rising_same 0 _ _
    (rising_append 0 before (filter (λ p. nat_lt p before && is_changed_page left o n p) staged) (span before (after - before)) (omega arith) (filter_rises (λ p. nat_lt p before && is_changed_page left o n p) 0 staged once.rises) (filter_under (is_changed_page left o n) before staged) (span_rises before (after - before)))
    (filter_rises (is_written left o n) 0 (span 0 (pages_for (width_with left o n))) (span_rises 0 (pages_for (width_with left o n))))
    same
  where
    same : (k : ℕ) → is_among (filter (λ p. nat_lt p before && is_changed_page left o n p) staged ++ span before (after - before)) k ≡ is_among (written_pages left o n) k
    same k =
        append_among (filter (λ p. nat_lt p before && is_changed_page left o n p) staged) (span before (after - before)) k
        ∙ (λ i. filter_among (λ p. nat_lt p before && is_changed_page left o n p) staged k i || span_among before (after - before) k i)
        ∙ ap (λ (a : Bool). (a && (nat_lt k before && is_changed_page left o n k)) || (not (nat_lt k before) && nat_lt k (before + (after - before)))) (once.each k)
        ∙ by (nat_lt k before) refl (is_among (staged_pages o n) k) (is_changed_page left o n k) (changed_staged left o n k) (nat_lt k (before + (after - before))) refl (nat_lt k after) refl
        ∙ (λ i. nat_lt k (last i) && not (nat_lt k (first i) && not (is_changed_page left o n k)))
        ∙ ap (λ (t : Bool). t && is_written left o n k) (sym (from_zero k (pages_for (width_with left o n))))
        ∙ sym (filter_among (is_written left o n) (span 0 (pages_for (width_with left o n))) k)
      where
        from_zero : (k m : ℕ) → is_among (span 0 m) k ≡ nat_lt k m
        from_zero k m = span_among 0 m k ∙ by (nat_lt k 0) refl (nat_lt k (0 + m)) refl (nat_lt k m) refl
          where
            by : (t : Bool) → nat_lt k 0 ≡ t → (u : Bool) → nat_lt k (0 + m) ≡ u → (v : Bool) → nat_lt k m ≡ v → (not t && u) ≡ v
            by true is u also v third = absurd (grind (arith, nat_tests))
            by false is true also true third = refl
            by false is false also false third = refl
            by false is true also false third = absurd (grind (arith, nat_tests))
            by false is false also true third = absurd (grind (arith, nat_tests))

        by : (t : Bool) → nat_lt k before ≡ t → (a s : Bool) → (a ≡ false → s ≡ false) → (u : Bool) → nat_lt k (before + (after - before)) ≡ u → (v : Bool) → nat_lt k after ≡ v
            → ((a && (t && s)) || (not t && u)) ≡ (v && not (t && not s))
        by true is true true held u also true third = refl
        by true is true false held u also true third = refl
        by true is false true held u also true third = let never : true ≡ false = held refl in cc
        by true is false false held u also true third = refl
        by true is a s held u also false third = absurd (grind (arith, nat_tests))
        by false is true s held true also true third = refl
        by false is false s held true also true third = refl
        by false is true s held false also false third = refl
        by false is false s held false also false third = refl
        by false is a s held true also false third = absurd (grind (arith, nat_tests))
        by false is a s held false also true third = absurd (grind (arith, nat_tests))
