-- The runs that the rule takes are free, and have as many blocks as are wanted.
use Rattle.std.proofs.Common.{◌≡◌, ◌≤◌, ◌<◌, ℕ, zero, suc, ◌+◌, ◌-◌, ◌==◌, Bool, true, false, not, cond, List, [], ◌∷◌, ◌++◌, length, filter, refl, sym, ap, subst, ◌∙◌, arith}
use Rattle.std.specs.Prelude.{◌&&◌, ◌||◌, Option, Some, None, nat_eq, nat_le, nat_lt}
use Rattle.std.proofs.lemmas.Bool.Decides.{nat_tests}
use Rattle.vol_numbers.specs.declared.runs.Run.{Run}
use Rattle.place_words.specs.Different.{is_among, times}
use Rattle.place_words.proofs.Counting.{among_times, times_none, times_among}
use Rattle.run_allocator.specs.Runs.{Ascends, numbers_from, numbers_of, covers, outside}
use Rattle.run_allocator.specs.Taken.{with_number, runs_of, first_fit, longer, longest, front, step_or, step_taken, AreTaken, done, more, left_without}

-- ---- a run of free blocks

-- a run has a block, and each of its blocks is free
pub record IsFreeRun (free : List ℕ) (r : Run) : Type 0 where
  pub some : 1 ≤ r.length
  pub inside : (b : ℕ) → r.first ≤ b → b < r.first + r.length → is_among free b ≡ true

abbrev AreFreeRuns : List ℕ → List Run → Type 0
AreFreeRuns free [] = Unit {0}
AreFreeRuns free (r ∷ rs) = IsFreeRun free r × AreFreeRuns free rs

or_true : (t : Bool) → (t || true) ≡ true
or_true true = refl
or_true false = refl

there : (b x : ℕ) (bs : List ℕ) → is_among bs x ≡ true → is_among (b ∷ bs) x ≡ true
there b x bs among = ap (λ (t : Bool). nat_eq b x || t) among ∙ or_true (nat_eq b x)

here : (b x : ℕ) (bs : List ℕ) → b ≡ x → is_among (b ∷ bs) x ≡ true
here b x bs same = ap (λ (t : Bool). t || is_among bs x) (let t : nat_eq b x ≡ true = grind (arith, nat_tests) in t)

free_more : (b : ℕ) (bs : List ℕ) (rs : List Run) → AreFreeRuns bs rs → AreFreeRuns (b ∷ bs) rs
free_more b bs [] are = tt
free_more b bs (r ∷ rs) are = (record { some = are.0.some; inside = λ x low high. there b x bs (are.0.inside x low high) }, free_more b bs rs are.1)

one_free : (b : ℕ) (bs : List ℕ) → IsFreeRun (b ∷ bs) (record { first = b; length = 1 })
one_free b bs = record { some = omega arith; inside = λ x low high. here b x bs (omega (arith, low, high)) }

next_free : (b : ℕ) (bs : List ℕ) (r : Run) → b + 1 ≡ r.first → IsFreeRun bs r → IsFreeRun (b ∷ bs) (record { first = b; length = r.length + 1 })
next_free b bs r next is = record { some = omega arith; inside = λ x low high. by (nat_eq b x) x refl low high }
  where
    by : (t : Bool) → (x : ℕ) → nat_eq b x ≡ t → b ≤ x → x < b + (r.length + 1) → is_among (b ∷ bs) x ≡ true
    by true x same low high = here b x bs (grind (arith, nat_tests))
    by false x apart low high = let above : r.first ≤ x = grind (arith, nat_tests) in there b x bs (is.inside x above (omega (arith, next, high)))

with_free : (b : ℕ) (bs : List ℕ) (rs : List Run) → AreFreeRuns bs rs → AreFreeRuns (b ∷ bs) (with_number b rs)
with_free b bs [] are = (one_free b bs, tt)
with_free b bs (r ∷ rs) are = by (b + 1 == r.first) refl
  where
    by : (t : Bool) → (b + 1 == r.first) ≡ t → AreFreeRuns (b ∷ bs) (cond t (record { first = b; length = r.length + 1 } ∷ rs) (record { first = b; length = 1 } ∷ r ∷ rs))
    by true is = (next_free b bs r (grind (arith, nat_tests)) are.0, free_more b bs rs are.1)
    by false is = (one_free b bs, free_more b bs (r ∷ rs) are)

runs_free : (free : List ℕ) → AreFreeRuns free (runs_of free)
runs_free [] = tt
runs_free (b ∷ bs) = with_free b bs (runs_of bs) (runs_free bs)

-- ---- what a step takes

-- a free run of at most so many blocks
pub record IsPart (free : List ℕ) (n : ℕ) (r : Run) : Type 0 where
  pub free_run : IsFreeRun free r
  pub most : r.length ≤ n

fit_free : (free : List ℕ) (n : ℕ) (rs : List Run) (r : Run) → AreFreeRuns free rs → first_fit n rs ≡ Some r → IsFreeRun free r × (n ≤ r.length)
fit_free free n [] r are is = cc
fit_free free n (q ∷ qs) r are is = by (nat_le n q.length) refl (λ later. fit_free free n qs r are.1 later) is
  where
    by : (t : Bool) → nat_le n q.length ≡ t → (first_fit n qs ≡ Some r → IsFreeRun free r × (n ≤ r.length)) → cond t (Some q) (first_fit n qs) ≡ Some r → IsFreeRun free r × (n ≤ r.length)
    by true le on is = let same : q ≡ r = cc in (subst (IsFreeRun free) same are.0, subst (λ (x : Run). n ≤ x.length) same (let l : n ≤ q.length = grind (arith, nat_tests) in l))
    by false le on is = on is

abbrev AreBelow : ℕ → List Run → Type 0
AreBelow n [] = Unit {0}
AreBelow n (r ∷ rs) = (r.length ≤ n) × AreBelow n rs

none_fit : (n : ℕ) (rs : List Run) → first_fit n rs ≡ None → AreBelow n rs
none_fit n [] none = tt
none_fit n (q ∷ qs) none = by (nat_le n q.length) refl (λ later. none_fit n qs later) none
  where
    by : (t : Bool) → nat_le n q.length ≡ t → (first_fit n qs ≡ None → AreBelow n qs) → cond t (Some q) (first_fit n qs) ≡ None → AreBelow n (q ∷ qs)
    by true le on is = cc
    by false le on is = (let l : q.length ≤ n = grind (arith, nat_tests) in l, on is)

longer_part : (free : List ℕ) (n : ℕ) (x : Run) (o : Option Run) (r : Run) → IsPart free n x → ((s : Run) → o ≡ Some s → IsPart free n s) → longer x o ≡ Some r → IsPart free n r
longer_part free n x None r part others is = let same : x ≡ r = cc in subst (IsPart free n) same part
longer_part free n x (Some s) r part others is = by (nat_lt x.length s.length) is
  where
    by : (t : Bool) → cond t (Some s) (Some x) ≡ Some r → IsPart free n r
    by true is = let same : s ≡ r = cc in subst (IsPart free n) same (others s refl)
    by false is = let same : x ≡ r = cc in subst (IsPart free n) same part

longest_part : (free : List ℕ) (n : ℕ) (rs : List Run) (r : Run) → AreFreeRuns free rs → AreBelow n rs → longest rs ≡ Some r → IsPart free n r
longest_part free n [] r are below is = cc
longest_part free n (x ∷ xs) r are below is =
    longer_part free n x (longest xs) r (record { free_run = are.0; most = below.0 }) (λ s e. longest_part free n xs s are.1 below.1 e) is

front_part : (free : List ℕ) (n : ℕ) (s : Run) → 0 < n → IsFreeRun free s → n ≤ s.length → IsPart free n (front s n)
front_part free n s some is enough = record {
  free_run = record { some = omega (arith, some); inside = λ b low high. is.inside b low (omega (arith, high, enough)) };
  most = omega arith;
}

pub step_part : (free : List ℕ) (n : ℕ) (r : Run) → 0 < n → step_taken n free ≡ Some r → IsPart free n r
step_part free n r some is = by (first_fit n (runs_of free)) refl is
  where
    by : (o : Option Run) → first_fit n (runs_of free) ≡ o → step_or n o (longest (runs_of free)) ≡ Some r → IsPart free n r
    by (Some s) fits is = let same : front s n ≡ r = cc in let fit = fit_free free n (runs_of free) s (runs_free free) fits in subst (IsPart free n) same (front_part free n s some fit.0 fit.1)
    by None none is = longest_part free n (runs_of free) r (runs_free free) (none_fit n (runs_of free) none) is

-- ---- how often a number is there

pub times_append : (b : ℕ) (xs ys : List ℕ) → times b (xs ++ ys) ≡ times b xs + times b ys
times_append b [] ys = omega arith
times_append b (x ∷ xs) ys = omega (arith, times_append b xs ys)

below_none : (least b : ℕ) (free : List ℕ) → Ascends least free → b < least → times b free ≡ 0
below_none least b [] up low = refl
below_none least b (x ∷ xs) up low =
    let rest = below_none (x + 1) b xs up.2 (omega (arith, up.0, low)) in
    let apart : nat_eq x b ≡ false = (let first = up.0 in grind (arith, nat_tests)) in
    ap (λ (t : Bool). cond t 1 0 + times b xs) apart ∙ omega (arith, rest)

pub times_once : (least b : ℕ) (free : List ℕ) → Ascends least free → times b free ≤ 1
times_once least b [] up = omega arith
times_once least b (x ∷ xs) up = by (nat_eq x b) refl (times_once (x + 1) b xs up.2)
  where
    by : (t : Bool) → nat_eq x b ≡ t → times b xs ≤ 1 → cond t 1 0 + times b xs ≤ 1
    by true is rest = let same : x ≡ b = grind (arith, nat_tests) in omega (arith, below_none (x + 1) b xs up.2 (omega (arith, same)))
    by false is rest = omega (arith, rest)

pub among_once : (b : ℕ) (free : List ℕ) → Ascends 1 free → is_among free b ≡ true → times b free ≡ 1
among_once b free up among = omega (arith, times_once 1 b free up, among_times b free among)

among_under : (least b : ℕ) (free : List ℕ) → Ascends least free → is_among free b ≡ true → b < 65536
among_under least b [] up among = cc
among_under least b (x ∷ xs) up among = by (nat_eq x b) refl (λ later. among_under (x + 1) b xs up.2 later) among
  where
    by : (t : Bool) → nat_eq x b ≡ t → (is_among xs b ≡ true → b < 65536) → (t || is_among xs b) ≡ true → b < 65536
    by true is on among = let same : x ≡ b = grind (arith, nat_tests) in omega (arith, same, up.1)
    by false is on among = on among

-- a run of free blocks ends within the greatest volume
pub ends_within : (free : List ℕ) (r : Run) → Ascends 1 free → IsFreeRun free r → r.first + r.length ≤ 65536
ends_within free r up is =
    let some = is.some in
    let last = among_under 1 (r.first + r.length - 1) free up (is.inside (r.first + r.length - 1) (omega (arith, some)) (omega (arith, some))) in
    omega (arith, some, last)

ascends_lower : (m n : ℕ) (bs : List ℕ) → m ≤ n → Ascends n bs → Ascends m bs
ascends_lower m n [] le up = tt
ascends_lower m n (b ∷ bs) le up = (omega (arith, up.0), up.1, up.2)

pub outside_ascends : (least : ℕ) (free : List ℕ) (r : Run) → Ascends least free → Ascends least (outside free r)
outside_ascends least [] r up = tt
outside_ascends least (b ∷ bs) r up = by (covers r b) (outside_ascends (b + 1) bs r up.2)
  where
    by : (t : Bool) → Ascends (b + 1) (outside bs r) → Ascends least (cond (not t) (b ∷ outside bs r) (outside bs r))
    by true rest = ascends_lower least (b + 1) (outside bs r) (omega (arith, up.0)) rest
    by false rest = (up.0, up.1, rest)

times_outside : (b : ℕ) (free : List ℕ) (r : Run) → times b (outside free r) ≡ cond (covers r b) 0 (times b free)
times_outside b [] r = by (covers r b)
  where
    by : (t : Bool) → ◌≡◌ {A = ℕ} 0 (cond t 0 0)
    by true = refl
    by false = refl
times_outside b (x ∷ xs) r = by (covers r x) (nat_eq x b) refl refl (times_outside b xs r)
  where
    by : (t u : Bool) → covers r x ≡ t → nat_eq x b ≡ u → times b (outside xs r) ≡ cond (covers r b) 0 (times b xs)
        → times b (cond (not t) (x ∷ outside xs r) (outside xs r)) ≡ cond (covers r b) 0 (cond u 1 0 + times b xs)
    by true true covered is rest =
        let same : x ≡ b = grind (arith, nat_tests) in
        let own : covers r b ≡ true = subst (λ (k : ℕ). covers r k ≡ true) same covered in
        rest ∙ ap (λ (t : Bool). cond t 0 (times b xs)) own ∙ sym (ap (λ (t : Bool). cond t 0 (1 + times b xs)) own)
    by true false covered is rest = rest ∙ ap (cond (covers r b) 0) (let k : times b xs ≡ 0 + times b xs = omega arith in k)
    by false true apart is rest =
        let same : x ≡ b = grind (arith, nat_tests) in
        let own : covers r b ≡ false = subst (λ (k : ℕ). covers r k ≡ false) same apart in
        ap (λ (t : Bool). cond t 1 0 + times b (outside xs r)) is ∙ ap (λ (k : ℕ). 1 + k) (rest ∙ ap (λ (t : Bool). cond t 0 (times b xs)) own)
        ∙ sym (ap (λ (t : Bool). cond t 0 (1 + times b xs)) own)
    by false false apart is rest =
        ap (λ (t : Bool). cond t 1 0 + times b (outside xs r)) is ∙ (let k : 0 + times b (outside xs r) ≡ times b (outside xs r) = omega arith in k) ∙ rest
        ∙ ap (cond (covers r b) 0) (let k : times b xs ≡ 0 + times b xs = omega arith in k)

none_from : (b first : ℕ) → ◌≡◌ {A = ℕ} 0 (cond (nat_le first b && nat_lt b (first + 0)) 1 0)
none_from b first = grind (arith, nat_tests)

one_from : (b first n c : ℕ) → c ≡ cond (nat_le (first + 1) b && nat_lt b (first + 1 + n)) 1 0 → cond (nat_eq first b) 1 0 + c ≡ cond (nat_le first b && nat_lt b (first + suc n)) 1 0
one_from b first n c e = grind (arith, nat_tests)

times_from : (b first n : ℕ) → times b (numbers_from first n) ≡ cond (nat_le first b && nat_lt b (first + n)) 1 0
times_from b first zero = none_from b first
times_from b first (suc n) = one_from b first n (times b (numbers_from (first + 1) n)) (times_from b (first + 1) n)

-- a free run and the blocks outside it are what is free
pub run_parted : (free : List ℕ) (r : Run) (b : ℕ) → Ascends 1 free → IsFreeRun free r → times b (numbers_from r.first r.length) + times b (outside free r) ≡ times b free
run_parted free r b up is = by (covers r b) refl (times_from b r.first r.length) (times_outside b free r)
  where
    by : (t : Bool) → covers r b ≡ t → times b (numbers_from r.first r.length) ≡ cond t 1 0 → times b (outside free r) ≡ cond t 0 (times b free)
        → times b (numbers_from r.first r.length) + times b (outside free r) ≡ times b free
    by true covered one none =
        let low : r.first ≤ b = grind (arith, nat_tests) in
        let high : b < r.first + r.length = grind (arith, nat_tests) in
        omega (arith, one, none, among_once b free up (is.inside b low high))
    by false apart one none = omega (arith, one, none)
