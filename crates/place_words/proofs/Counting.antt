-- The number of different values is the number of the numbers that are among them, as a table of counts has it.
use Rattle.std.proofs.Common.{◌≡◌, ℕ, zero, suc, ◌+◌, ◌<◌, ◌≤◌, Bool, true, false, ◌||◌, List, [], ◌∷◌, length, refl, sym, ap, subst, ◌∙◌, arith, cond}
use Rattle.std.specs.Prelude.{nat_eq}
use Rattle.std.proofs.lemmas.Bool.Decides.{nat_tests}
use Rattle.place_words.specs.Different.{different, span, is_among, passing, times, Distinct, AllWithin}

none_pass : (from n : ℕ) → passing (λ k. false) (span from n) ≡ 0
none_pass from zero = refl
none_pass from (suc n) = omega (arith, none_pass (from + 1) n)

-- a number that is below the span adds nothing to the test
not_there : (test : ℕ → Bool) (x from n : ℕ) → x < from → passing (λ k. nat_eq x k || test k) (span from n) ≡ passing test (span from n)
not_there test x from zero h = refl
not_there test x from (suc n) h =
    (let apart : nat_eq x from ≡ false = grind (arith, nat_tests) in
    let rest = not_there test x (from + 1) n (omega arith) in
    rw (apart, rest) refl)

-- one that is in the span and doesn't pass adds one
one_there : (test : ℕ → Bool) (x from n : ℕ) → from ≤ x → x < from + n → test x ≡ false → passing (λ k. nat_eq x k || test k) (span from n) ≡ passing test (span from n) + 1
one_there test x from zero g h e = absurd (omega arith)
one_there test x from (suc n) g h e =
    elim (nat_eq x from) as (λ b. nat_eq x from ≡ b → cond (b || test from) 1 0 + passing (λ k. nat_eq x k || test k) (span (from + 1) n) ≡ cond (test from) 1 0 + passing test (span (from + 1) n) + 1) [
      | true ↦ λ same.
          (let here : x ≡ from = grind (arith, nat_tests) in
          let fails : test from ≡ false = subst (λ k. test k ≡ false) here e in
          let rest = not_there test x (from + 1) n (omega arith) in
          rw (rest, fails) (omega arith))
      | false ↦ λ apart.
          (let later : from + 1 ≤ x = grind (arith, nat_tests) in
          let rest = one_there test x (from + 1) n later (omega arith) e in
          rw rest (omega arith))
    ] refl

-- one that passes adds nothing
passes_already : (test : ℕ → Bool) (x from n : ℕ) → test x ≡ true → passing (λ k. nat_eq x k || test k) (span from n) ≡ passing test (span from n)
passes_already test x from zero e = refl
passes_already test x from (suc n) e =
    (let rest = passes_already test x (from + 1) n e in
    elim (nat_eq x from) as (λ b. nat_eq x from ≡ b → cond (b || test from) 1 0 + passing (λ k. nat_eq x k || test k) (span (from + 1) n) ≡ cond (test from) 1 0 + passing test (span (from + 1) n)) [
      | true ↦ λ same. (let here : x ≡ from = grind (arith, nat_tests) in let passes : test from ≡ true = subst (λ k. test k ≡ true) here e in rw (rest, passes) refl)
      | false ↦ λ apart. rw rest refl
    ] refl)

pub different_is : (low size : ℕ) (ns : List ℕ) → AllWithin low (low + size) ns → different ns ≡ passing (is_among ns) (span low size)
different_is low size [] h = sym (none_pass low size)
different_is low size (n ∷ ns) h =
    (let rest = different_is low size ns h.2 in
    elim (is_among ns n) as (λ b. is_among ns n ≡ b → cond b (different ns) (different ns + 1) ≡ passing (λ k. nat_eq n k || is_among ns k) (span low size)) [
      | true ↦ λ e. rest ∙ sym (passes_already (is_among ns) n low size e)
      | false ↦ λ e. ap (λ k. k + 1) rest ∙ sym (one_there (is_among ns) n low size h.0 h.1 e)
    ] refl)

-- ---- numbers of which none stands twice, and how often a number is there

pub distinct_count : (ns : List ℕ) → Distinct ns → different ns ≡ length ns
distinct_count [] distinct = refl
distinct_count (n ∷ ns) distinct =
    ap (λ (t : Bool). cond t (different ns) (different ns + 1)) distinct.0 ∙ omega (arith, distinct_count ns distinct.1)

pub among_times : (n : ℕ) (ns : List ℕ) → is_among ns n ≡ true → 1 ≤ times n ns
among_times n [] among = cc
among_times n (m ∷ ms) among = by (nat_eq m n) among (among_times n ms)
  where
    by : (t : Bool) → (t || is_among ms n) ≡ true → (is_among ms n ≡ true → 1 ≤ times n ms) → 1 ≤ cond t 1 0 + times n ms
    by true e more = omega arith
    by false e more = omega (arith, more e)

-- one that isn't among them is there no time
pub times_none : (n : ℕ) (ns : List ℕ) → is_among ns n ≡ false → times n ns ≡ 0
times_none n [] e = refl
times_none n (m ∷ ms) e = by (nat_eq m n) e (times_none n ms)
  where
    by : (t : Bool) → (t || is_among ms n) ≡ false → (is_among ms n ≡ false → times n ms ≡ 0) → cond t 1 0 + times n ms ≡ 0
    by true e more = cc
    by false e more = omega (arith, more e)

pub times_among : (n : ℕ) (ns : List ℕ) → 1 ≤ times n ns → is_among ns n ≡ true
times_among n ns some = by (is_among ns n) refl
  where
    by : (t : Bool) → is_among ns n ≡ t → t ≡ true
    by true e = refl
    by false e = absurd (omega (arith, some, times_none n ns e))
