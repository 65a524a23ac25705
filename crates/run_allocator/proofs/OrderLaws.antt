-- The order in which the code takes runs whole is that in which the rule takes them.
use Rattle.std.proofs.Common.{◌≡◌, ◌<◌, ◌≤◌, ℕ, zero, suc, ◌+◌, ◌-◌, ◌==◌, ◌&&◌, Bool, true, false, List, [], ◌∷◌, ◌++◌, length, take, drop, get_or, refl, ap, sym, ◌∙◌, subst, arith}
use Rattle.std.specs.Prelude.{slice_get, Some, None, Option, nat_le, not, if◌then◌else◌}
use Rattle.std.specs.List.{sum_by}
use Rattle.std.specs.List.Sorted.{IsSortedBy}
use Rattle.std.proofs.lemmas.Bool.Decides.{nat_tests}
use Rattle.std.proofs.lemmas.List.{length-append, at_drop_more}
use Rattle.std.proofs.lemmas.List.Sums.{sum_by-cons}
use Rattle.std.proofs.lemmas.List.Sorted.{sum_by-IsPermutation}
use Rattle.vol_numbers.specs.declared.runs.Run.{Run}
use Rattle.run_allocator.specs.Runs.{numbers_from, numbers_of, AreApart}
use Rattle.run_allocator.specs.Taken.{first_fit, longer, longest, step_or, AreTaken, more, left_without}
use Rattle.run_allocator.specs.Steps.{take_at, IsStep, AreSteps}
use Rattle.run_allocator.specs.Order.{goes_before, not_before, IsOrder, AreWhole}
use Rattle.run_allocator.specs.declared.pieces.Piece.{Piece}
use Rattle.run_allocator.proofs.RunLaws.{apart_lower, at_least, length-numbers_from}
use Rattle.run_allocator.proofs.SearchLaws.{pick_left, pick_right, read_there}
use Rattle.run_allocator.proofs.StepLaws.{apart_at, all_shorter, cut_is_step, step_alone}
use Rattle.run_allocator.proofs.ComputedLaws.{longest_there}

-- ---- which of two runs goes before the other

none_before_itself : (q : Run) → goes_before q q ≡ false
none_before_itself q = grind (arith, nat_tests)

pub before_chain : (x y z : Run) → goes_before x y ≡ false → goes_before y z ≡ false → goes_before x z ≡ false
before_chain x y z e f = grind (arith, nat_tests, e, f)

pub before_one_way : (x y : Run) → goes_before x y ≡ true → goes_before y x ≡ false
before_one_way x y e = grind (arith, nat_tests, e)

no_longer : (x q : Run) → goes_before x q ≡ false → x.length ≤ q.length
no_longer x q e = grind (arith, nat_tests, e)

shorter : (x q : Run) → goes_before x q ≡ false → x.first < q.first → x.length < q.length
shorter x q e lower = grind (arith, nat_tests, e, lower)

one_of_both : (p q : Run) → goes_before p q ≡ false → goes_before q p ≡ false → q.first ≡ p.first
one_of_both p q e f = grind (arith, nat_tests, e, f)

-- no run of these goes before this one
abbrev pub NoneBefore : Run → List Run → Type 0
NoneBefore q [] = Unit {0}
NoneBefore q (r ∷ rs) = (goes_before r q ≡ false) × NoneBefore q rs

none_at : (q : Run) (runs : List Run) (i : ℕ) (r : Run) → NoneBefore q runs → slice_get runs i ≡ Some r → goes_before r q ≡ false
none_at q [] i r none e = cc
none_at q (x ∷ xs) zero r none e = let same : x ≡ r = cc in subst (λ (y : Run). goes_before y q ≡ false) same none.0
none_at q (x ∷ xs) (suc i) r none e = none_at q xs i r none.1 e

-- ---- the rule at a run that none goes before

longest_is : (least : ℕ) (runs : List Run) (i : ℕ) (q : Run) → AreApart least runs → slice_get runs i ≡ Some q → NoneBefore q runs → longest runs ≡ Some q
longest_is least [] i q are e none = cc
longest_is least (x ∷ xs) zero q are e none =
    let same : x ≡ q = cc in
    of_rest same (longest xs) refl ∙ ap (λ (r : Run). Some r) same
  where
    of_rest : x ≡ q → (o : Option Run) → longest xs ≡ o → longer x o ≡ Some x
    of_rest same None is = refl
    of_rest same (Some s) is =
        let there = longest_there xs s is in
        pick_left x s (subst (λ (r : Run). s.length ≤ r.length) (sym same) (no_longer s q (none_at q xs there.0 s none.1 there.1)))
longest_is least (x ∷ xs) (suc i) q are e none =
    let above = at_least (x.first + x.length + 1) xs i q are.3 e in
    ap (longer x) (longest_is (x.first + x.length + 1) xs i q are.3 e none.1) ∙ pick_right x q (shorter x q none.0 (omega (arith, above)))

none_fit : (n : ℕ) (runs : List Run) (q : Run) → NoneBefore q runs → q.length < n → first_fit n runs ≡ None
none_fit n [] q none less = refl
none_fit n (x ∷ xs) q none less =
    let le = no_longer x q none.0 in
    ap (λ (t : Bool). if t then Some x else first_fit n xs) (let t : nat_le n x.length ≡ false = grind (arith, nat_tests, le, less) in t) ∙ none_fit n xs q none.1 less

-- a run that is shorter than what is wanted is taken whole
whole_step : (runs : List Run) (n i : ℕ) (p : Run) → AreApart 1 runs → slice_get runs i ≡ Some p → NoneBefore p runs → p.length < n → IsStep runs n p (take_at runs i p.length)
whole_step runs n i p are there none less =
    let at = apart_at 1 runs i p are there in
    let piece : Piece = record { index = i; run = p; length = p.length } in
    cut_is_step runs n piece p (take_at runs i p.length) are (record {
      part = record { there = there; index = at.2; positive = at.0; within = omega arith; end = at.1 };
      at_most = omega (arith, less);
      rule = ap (λ (o : Option Run). step_or n o (longest runs)) (none_fit n runs p none less) ∙ longest_is 1 runs i p are there none;
    }) refl refl

-- a step, and then others from what it leaves
steps_then : (runs mid : List Run) (n : ℕ) (r : Run) (rs left : List Run) → 0 < n → IsStep runs n r mid → AreSteps mid (n - r.length) rs left → AreSteps runs n (r ∷ rs) left
steps_then runs mid n r rs left some step after = record {
  taken = more (numbers_of runs) n r rs some step.taken (subst (λ (free : List ℕ). AreTaken free (n - r.length) rs) step.rest after.taken);
  rest = after.rest ∙ ap (λ (free : List ℕ). left_without free rs) step.rest;
  apart = after.apart;
  fewer = omega (arith, after.fewer, step.fewer, step.at_most);
}

-- ---- sums over runs

abbrev one : Bool → ℕ
one true = 1
one false = 0

none_of : (t : Bool) → one t ≡ 0 → t ≡ false
none_of true e = absurd (omega (arith, e))
none_of false e = refl

abbrev pub total : (Run → ℕ) → List Run → ℕ
total f [] = 0
total f (x ∷ xs) = f x + total f xs

there_total : (f : Run → ℕ) (runs : List Run) (i : ℕ) (q : Run) → slice_get runs i ≡ Some q → f q ≤ total f runs
there_total f [] i q e = cc
there_total f (x ∷ xs) zero q e = let same : x ≡ q = cc in omega (arith, ap f same)
there_total f (x ∷ xs) (suc i) q e = omega (arith, there_total f xs i q e)

none_total : (q : Run) (runs : List Run) → NoneBefore q runs → total (λ r. one (goes_before r q)) runs ≡ 0
none_total q [] none = refl
none_total q (x ∷ xs) none = omega (arith, ap one none.0, none_total q xs none.1)

total_none : (q : Run) (runs : List Run) → total (λ r. one (goes_before r q)) runs ≡ 0 → NoneBefore q runs
total_none q [] e = tt
total_none q (x ∷ xs) e = (none_of (goes_before x q) (omega (arith, e)), total_none q xs (omega (arith, e)))

abbrev is_same : Run → Run → Bool
is_same r q = r.first == q.first && r.length == q.length

same_run : (r q : Run) → is_same r q ≡ true → r ≡ q
same_run r q e =
    let first : r.first ≡ q.first = grind (arith, nat_tests, e) in
    let size : r.length ≡ q.length = grind (arith, nat_tests, e) in
    ap (λ (k : ℕ). let z : Run = record { first = k; length = r.length } in z) first ∙ ap (λ (k : ℕ). let z : Run = record { first = q.first; length = k } in z) size

same_itself : (q : Run) → is_same q q ≡ true
same_itself q = grind (arith, nat_tests)

found : (q : Run) (runs : List Run) → 1 ≤ total (λ r. one (is_same r q)) runs → (i : ℕ) × (slice_get runs i ≡ Some q)
found q [] e = absurd (omega (arith, e))
found q (x ∷ xs) e = by_test (is_same x q) refl e (λ later. found q xs later)
  where
    by_test : (t : Bool) → is_same x q ≡ t → 1 ≤ one t + total (λ r. one (is_same r q)) xs
        → (1 ≤ total (λ r. one (is_same r q)) xs → (i : ℕ) × (slice_get xs i ≡ Some q)) → (i : ℕ) × (slice_get (x ∷ xs) i ≡ Some q)
    by_test true is e rest = (zero, ap (λ (r : Run). Some r) (same_run x q is))
    by_test false is e rest = let later = rest (omega (arith, e)) in (suc later.0, later.1)

none_at_first : (least a : ℕ) (runs : List Run) → AreApart least runs → a < least → total (λ r. one (r.first == a)) runs ≡ 0
none_at_first least a [] are less = refl
none_at_first least a (x ∷ xs) are less =
    let t : (x.first == a) ≡ false = (let above = are.0 in grind (arith, nat_tests, above, less)) in
    omega (arith, ap one t, none_at_first (x.first + x.length + 1) a xs are.3 (omega (arith, less, are.0)))

once_at_first : (least a : ℕ) (runs : List Run) → AreApart least runs → total (λ r. one (r.first == a)) runs ≤ 1
once_at_first least a [] are = omega arith
once_at_first least a (x ∷ xs) are = by_test (x.first == a) refl (once_at_first (x.first + x.length + 1) a xs are.3)
  where
    by_test : (t : Bool) → (x.first == a) ≡ t → total (λ r. one (r.first == a)) xs ≤ 1 → one t + total (λ r. one (r.first == a)) xs ≤ 1
    by_test true is few = let same : x.first ≡ a = grind (arith, nat_tests, is) in omega (arith, none_at_first (x.first + x.length + 1) a xs are.3 (omega (arith, same)))
    by_test false is few = omega (arith, few)

-- ---- without a run that is taken whole

head_taken : (x q : Run) (xs : List Run) → x ≡ q → take_at (x ∷ xs) zero q.length ≡ xs
head_taken x q xs same =
    ap (λ (t : Bool). if t then xs else record { first = x.first + q.length; length = x.length - q.length } ∷ xs)
    (let size : q.length ≡ x.length = ap (λ (r : Run). r.length) (sym same) in let t : (q.length == x.length) ≡ true = grind (arith, nat_tests, size) in t)

total_taken : (f : Run → ℕ) (runs : List Run) (i : ℕ) (q : Run) → slice_get runs i ≡ Some q → total f runs ≡ f q + total f (take_at runs i q.length)
total_taken f [] i q e = cc
total_taken f (x ∷ xs) zero q e = let same : x ≡ q = cc in omega (arith, ap f same, ap (total f) (head_taken x q xs same))
total_taken f (x ∷ xs) (suc i) q e = omega (arith, total_taken f xs i q e)

kept_all : (q : Run) (runs : List Run) → NoneBefore q runs → not_before runs q ≡ runs
kept_all q [] none = refl
kept_all q (x ∷ xs) none =
    ap (λ (t : Bool). if not t then x ∷ not_before xs q else not_before xs q) none.0 ∙ ap (λ (ys : List Run). x ∷ ys) (kept_all q xs none.1)

kept_taken : (p q : Run) (runs : List Run) (i : ℕ) → goes_before p q ≡ true → slice_get runs i ≡ Some p → not_before runs q ≡ not_before (take_at runs i p.length) q
kept_taken p q [] i before e = cc
kept_taken p q (x ∷ xs) zero before e =
    let same : x ≡ p = cc in
    ap (λ (t : Bool). if not t then x ∷ not_before xs q else not_before xs q) (ap (λ (r : Run). goes_before r q) same ∙ before)
    ∙ ap (λ (ys : List Run). not_before ys q) (sym (head_taken x p xs same))
kept_taken p q (x ∷ xs) (suc i) before e = ap (λ (ys : List Run). if not (goes_before x q) then x ∷ ys else ys) (kept_taken p q xs i before e)

kept_there : (q : Run) (runs : List Run) (i : ℕ) → slice_get runs i ≡ Some q → (j : ℕ) × (slice_get (not_before runs q) j ≡ Some q)
kept_there q [] i e = cc
kept_there q (x ∷ xs) zero e =
    let same : x ≡ q = cc in
    let t : goes_before x q ≡ false = subst (λ (r : Run). goes_before r q ≡ false) (sym same) (none_before_itself q) in
    (zero, ap (λ (b : Bool). slice_get (if not b then x ∷ not_before xs q else not_before xs q) zero) t ∙ ap (λ (r : Run). Some r) same)
kept_there q (x ∷ xs) (suc i) e = by_test (goes_before x q) (kept_there q xs i e)
  where
    by_test : (t : Bool) → (j : ℕ) × (slice_get (not_before xs q) j ≡ Some q) → (j : ℕ) × (slice_get (if not t then x ∷ not_before xs q else not_before xs q) j ≡ Some q)
    by_test true rest = rest
    by_test false rest = (suc rest.0, rest.1)

pub kept_apart : (least : ℕ) (q : Run) (runs : List Run) → AreApart least runs → AreApart least (not_before runs q)
kept_apart least q [] are = tt
kept_apart least q (x ∷ xs) are = by_test (goes_before x q) (kept_apart (x.first + x.length + 1) q xs are.3)
  where
    by_test : (t : Bool) → AreApart (x.first + x.length + 1) (not_before xs q) → AreApart least (if not t then x ∷ not_before xs q else not_before xs q)
    by_test true rest = apart_lower least (x.first + x.length + 1) (not_before xs q) (omega (arith, are.0)) rest
    by_test false rest = (are.0, are.1, are.2, rest)

-- ---- runs in their order

abbrev pub Falls : List Run → Type 0
Falls [] = Unit {0}
Falls (q ∷ ls) = NoneBefore q ls × Falls ls

-- runs that are apart, and the same in their order
pub record AreInOrder (runs order : List Run) : Type 0 where
  pub apart : AreApart 1 runs
  pub same : (f : Run → ℕ) → total f order ≡ total f runs
  pub falls : Falls order

in_runs : (runs order : List Run) (i : ℕ) (q : Run) → AreInOrder runs order → slice_get order i ≡ Some q → (j : ℕ) × (slice_get runs j ≡ Some q)
in_runs runs order i q o e =
    let f : Run → ℕ = λ r. one (is_same r q) in
    found q runs (omega (arith, o.same f, there_total f order i q e, ap one (same_itself q)))

none_in_runs : (runs : List Run) (q : Run) (ls : List Run) → AreInOrder runs (q ∷ ls) → NoneBefore q runs
none_in_runs runs q ls o =
    total_none q runs (sym (o.same (λ r. one (goes_before r q))) ∙ none_total q (q ∷ ls) (none_before_itself q, o.falls.0))

-- the order of what is left without the first is the rest
rest_in_order : (runs : List Run) (i : ℕ) (q : Run) (ls : List Run) → AreInOrder runs (q ∷ ls) → slice_get runs i ≡ Some q → AreApart 1 (take_at runs i q.length) → AreInOrder (take_at runs i q.length) ls
rest_in_order runs i q ls o there are = record {
  apart = are;
  same = λ f. omega (arith, o.same f, total_taken f runs i q there);
  falls = o.falls.1;
}

first_before : (runs : List Run) (p : Run) (ls : List Run) (k : ℕ) (q : Run) → AreInOrder runs (p ∷ ls) → slice_get ls k ≡ Some q → goes_before p q ≡ true
first_before runs p ls k q o e = by_test (goes_before p q) refl
  where
    by_test : (t : Bool) → goes_before p q ≡ t → t ≡ true
    by_test true is = refl
    by_test false is =
        let f : Run → ℕ = λ r. one (r.first == p.first) in
        let same = one_of_both p q is (none_at p ls k q o.falls.0 e) in
        let at_p : (p.first == p.first) ≡ true = grind (arith, nat_tests) in
        let at_q : (q.first == p.first) ≡ true = grind (arith, nat_tests, same) in
        absurd (omega (arith, o.same f, once_at_first 1 p.first runs o.apart, there_total f ls k q e, ap one at_p, ap one at_q))

-- ---- the order that a sort makes

none_up : (x y : Run) (zs : List Run) → goes_before y x ≡ false → NoneBefore y zs → NoneBefore x zs
none_up x y [] e none = tt
none_up x y (z ∷ zs) e none = (before_chain z y x none.0 e, none_up x y zs e none.1)

-- no run goes before the one in front of it
abbrev IsInPlace : List Run → Type 0
IsInPlace xs = (k : ℕ) (d : Run) → suc k < length xs → goes_before (get_or xs (suc k) d) (get_or xs k d) ≡ false

in_place_falls : (xs : List Run) → IsInPlace xs → Falls xs
in_place_falls [] h = tt
in_place_falls (x ∷ []) h = (tt, tt)
in_place_falls (x ∷ y ∷ ys) h =
    let rest = in_place_falls (y ∷ ys) (λ k d less. h (suc k) d (omega (arith, less))) in
    let e : goes_before y x ≡ false = h zero x (omega arith) in
    ((e, none_up x y ys e rest.0), rest)

sorted_falls : (xs : List Run) → IsSortedBy goes_before xs → Falls xs
sorted_falls xs sorted =
    in_place_falls xs (λ k d less. let next : k + 1 ≡ suc k = omega arith in
    subst (λ (m : ℕ). goes_before (get_or xs m d) (get_or xs k d) ≡ false) next (sorted k d (omega arith) (omega (arith, less))))

total_is : (f : Run → ℕ) (xs : List Run) → sum_by f xs ≡ total f xs
total_is f [] = refl
total_is f (x ∷ xs) = omega (arith, sum_by-cons f x xs, total_is f xs)

pub are_in_order : (runs order : List Run) → AreApart 1 runs → IsOrder runs order → AreInOrder runs order
are_in_order runs order are o = record {
  apart = are;
  same = λ f. sym (total_is f order) ∙ (sum_by-IsPermutation f runs order o.same ∙ total_is f runs);
  falls = sorted_falls order o.sorted;
}

size_total : (xs : List Run) → length (numbers_of xs) ≡ total (λ r. r.length) xs
size_total [] = refl
size_total (x ∷ xs) = omega (arith, length-append (numbers_from x.first x.length) (numbers_of xs), length-numbers_from x.first x.length, size_total xs)

pub order_size : (runs order : List Run) → AreInOrder runs order → length (numbers_of order) ≡ length (numbers_of runs)
order_size runs order o = size_total order ∙ (o.same (λ r. r.length) ∙ sym (size_total runs))

-- ---- the runs that are taken whole, and the next

pub whole_within : (order : List Run) (n k left : ℕ) → AreWhole order n k left → k < length order
whole_within [] n k left whole = absurd whole
whole_within (r ∷ rs) n zero left whole = omega arith
whole_within (r ∷ rs) n (suc k) left whole = omega (arith, whole_within rs (n - r.length) k left whole.1)

pub whole_some : (order : List Run) (n k left : ℕ) → 1 ≤ n → AreWhole order n k left → 1 ≤ left
whole_some [] n k left some whole = absurd whole
whole_some (r ∷ rs) n zero left some whole = omega (arith, some, whole.0)
whole_some (r ∷ rs) n (suc k) left some whole = whole_some rs (n - r.length) k left (omega (arith, whole.0)) whole.1

whole_enough : (order : List Run) (n k left : ℕ) (q : Run) → AreWhole order n k left → slice_get order k ≡ Some q → left ≤ q.length
whole_enough [] n k left q whole e = absurd whole
whole_enough (r ∷ rs) n zero left q whole e = let same : r ≡ q = cc in subst (λ (y : Run). left ≤ y.length) same (omega (arith, whole.0, whole.1))
whole_enough (r ∷ rs) n (suc k) left q whole e = whole_enough rs (n - r.length) k left q whole.1 e

pub some_left : (xs : List Run) (i : ℕ) → 1 ≤ length (numbers_of (drop i xs)) → i < length xs
some_left [] zero some = absurd (omega (arith, some))
some_left [] (suc i) some = absurd (omega (arith, some))
some_left (x ∷ xs) zero some = omega arith
some_left (x ∷ xs) (suc i) some = omega (arith, some_left xs i some)

-- ---- a take as several pieces

many_steps : (count : ℕ) (runs order : List Run) (n left : ℕ) (q r : Run) (final : List Run) → AreInOrder runs order → AreWhole order n count left → slice_get order count ≡ Some q
    → IsStep (not_before runs q) left r final → r.length ≡ left → AreSteps runs n (take count order ++ r ∷ []) final
many_steps zero runs [] n left q r final o whole e last all = cc
many_steps (suc k) runs [] n left q r final o whole e last all = cc
many_steps zero runs (p ∷ ls) n left q r final o whole e last all =
    let same : p ≡ q = cc in
    let none : NoneBefore q runs = subst (λ (x : Run). NoneBefore x runs) same (none_in_runs runs p ls o) in
    step_alone runs n r final (all ∙ sym whole.0)
    (subst (λ (m : ℕ). IsStep runs m r final) (sym whole.0) (subst (λ (xs : List Run). IsStep xs left r final) (kept_all q runs none) last))
many_steps (suc k) runs (p ∷ ls) n left q r final o whole e last all =
    let there = in_runs runs (p ∷ ls) 0 p o refl in
    let step = whole_step runs n there.0 p o.apart there.1 (none_in_runs runs p ls o) whole.0 in
    let mid = take_at runs there.0 p.length in
    let before = first_before runs p ls k q o e in
    let rest = many_steps k mid ls (n - p.length) left q r final (rest_in_order runs there.0 p ls o there.1 step.apart) whole.1 e
    (subst (λ (xs : List Run). IsStep xs left r final) (kept_taken p q runs there.0 before there.1) last) all in
    steps_then runs mid n p (take k ls ++ r ∷ []) final (omega (arith, whole.0)) step rest

-- what is known where the code has put the runs into their order, and knows how many are taken whole and which is the next
pub record AreSplit (runs order : List Run) (n count left : ℕ) (q : Run) : Type 0 where
  pub placed : AreInOrder runs order
  pub whole : AreWhole order n count left
  pub next : slice_get order count ≡ Some q

-- the order as it is read, and the next run as it is read of it
pub split_of : (runs order read : List Run) (n count left : ℕ) (q : Run) → AreApart 1 runs → IsOrder runs order → read ≡ order → AreWhole read n count left → q ≡ get_or order count q
    → AreSplit runs order n count left q
split_of runs order read n count left q are o same whole is =
    let of_order : AreWhole order n count left = subst (λ (xs : List Run). AreWhole xs n count left) same whole in
    record {
      placed = are_in_order runs order are o;
      whole = of_order;
      next = read_there order count q is (whole_within order n count left of_order);
    }

pub next_fits : (runs order : List Run) (n count left : ℕ) (q : Run) → AreSplit runs order n count left q → first_fit left (not_before runs q) ≡ None → ⊥
next_fits runs order n count left q s none =
    let there = in_runs runs order count q s.placed s.next in
    let kept = kept_there q runs there.0 there.1 in
    absurd (omega (arith, whole_enough order n count left q s.whole s.next, all_shorter left (not_before runs q) kept.0 q none kept.1))

pub split_steps : (runs order : List Run) (n count left : ℕ) (q r : Run) (mid final : List Run) → AreSplit runs order n count left q → mid ≡ not_before runs q → IsStep mid left r final
    → r.length ≡ left → AreSteps runs n (take count order ++ r ∷ []) final
split_steps runs order n count left q r mid final s is step all =
    many_steps count runs order n left q r final s.placed s.whole s.next (subst (λ (xs : List Run). IsStep xs left r final) is step) all

-- the blocks of the runs from a place on
pub size_more : (xs : List Run) (i : ℕ) (d : Run) → i < length xs → length (numbers_of (drop i xs)) ≡ (get_or xs i d).length + length (numbers_of (drop (i + 1) xs))
size_more xs i d less =
    at_drop_more (λ (ys : List Run). length (numbers_of ys)) xs i d less
    ∙ omega (arith, length-append (numbers_from (get_or xs i d).first (get_or xs i d).length) (numbers_of (drop (i + 1) xs)), length-numbers_from (get_or xs i d).first (get_or xs i d).length)
