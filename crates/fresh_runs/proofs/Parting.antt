-- What is taken and what is left are together what was free.
use Rattle.std.proofs.Common.{◌≡◌, ◌≤◌, ◌<◌, ℕ, zero, suc, ◌+◌, ◌-◌, Bool, true, false, cond, List, [], ◌∷◌, ◌++◌, length, refl, sym, ap, subst, ◌∙◌, append_assoc, arith}
use Rattle.std.specs.Prelude.{nat_eq}
use Rattle.std.proofs.lemmas.Bool.Decides.{nat_tests}
use Rattle.std.proofs.lemmas.List.{length-append}
use Rattle.vol_numbers.specs.declared.runs.Run.{Run}
use Rattle.place_words.specs.Different.{is_among, times, Distinct}
use Rattle.place_words.proofs.Counting.{among_times, times_none, distinct_count}
use Rattle.place_words.proofs.Totals.{different_same}
use Rattle.run_allocator.specs.Runs.{Ascends, numbers_from, numbers_of, outside}
use Rattle.run_allocator.specs.Taken.{AreTaken, done, more, left_without, taken_runs}
use Rattle.run_allocator.proofs.ComputedLaws.{taken_both}
use Rattle.run_allocator.proofs.RunLaws.{length-numbers_from}
use Rattle.fresh_runs.specs.Fresh.{IsPartedInto, taken_for, left_after}
use Rattle.fresh_runs.specs.Inside.{AreBlockRuns}
use Rattle.fresh_runs.proofs.Taking.{IsFreeRun, IsPart, step_part, times_append, times_once, outside_ascends, run_parted, ends_within}

-- ---- one list in two

-- The blocks of runs that are taken are free, are as many as are wanted, and each run lies in the greatest volume.
pub record IsTaking (free : List ℕ) (n : ℕ) (runs : List Run) : Type 0 where
  pub parted : IsPartedInto free (numbers_of runs) (left_without free runs)
  pub ascends : Ascends 1 (left_without free runs)
  pub many : length (numbers_of runs) ≡ n
  pub within : AreBlockRuns runs

pub taking : (free : List ℕ) (n : ℕ) (runs : List Run) → Ascends 1 free → AreTaken free n runs → IsTaking free n runs
taking free n [] up (done _) = record { parted = λ b. omega arith; ascends = up; many = refl; within = tt }
taking free n (r ∷ rs) up (more _ _ _ _ some is rest) =
    let part = step_part free n r some is in
    let later = taking (outside free r) (n - r.length) rs (outside_ascends 1 free r up) rest in
    record {
      parted = λ b. omega (arith, times_append b (numbers_from r.first r.length) (numbers_of rs), later.parted b, run_parted free r b up part.free_run);
      ascends = later.ascends;
      many = omega (arith, length-append (numbers_from r.first r.length) (numbers_of rs), length-numbers_from r.first r.length, later.many, part.most);
      within = (part.free_run.some, ends_within free r up part.free_run, later.within);
    }

-- ---- as many in both

pub distinct_of_times : (ns : List ℕ) → ((b : ℕ) → times b ns ≤ 1) → Distinct ns
distinct_of_times [] once = tt
distinct_of_times (n ∷ ns) once = (by (is_among ns n) refl, distinct_of_times ns (λ b. omega (arith, once b)))
  where
    own : times n (n ∷ ns) ≡ 1 + times n ns
    own = ap (λ (t : Bool). cond t 1 0 + times n ns) (let t : nat_eq n n ≡ true = grind (arith, nat_tests) in t)

    by : (t : Bool) → is_among ns n ≡ t → t ≡ false
    by true among = absurd (omega (arith, once n, own, among_times n ns among))
    by false among = refl

same_among : (ms ns : List ℕ) → ((b : ℕ) → times b ms ≡ times b ns) → (k : ℕ) → is_among ms k ≡ is_among ns k
same_among ms ns same k = by (is_among ms k) (is_among ns k) refl refl
  where
    by : (t u : Bool) → is_among ms k ≡ t → is_among ns k ≡ u → t ≡ u
    by true true e f = refl
    by false false e f = refl
    by true false e f = absurd (omega (arith, same k, among_times k ms e, times_none k ns f))
    by false true e f = absurd (omega (arith, same k, among_times k ns f, times_none k ms e))

same_length : (ms ns : List ℕ) → ((b : ℕ) → times b ms ≡ times b ns) → ((b : ℕ) → times b ns ≤ 1) → length ms ≡ length ns
same_length ms ns same once =
    sym (distinct_count ms (distinct_of_times ms (λ b. omega (arith, same b, once b)))) ∙ different_same ms ns (same_among ms ns same) ∙ distinct_count ns (distinct_of_times ns once)

pub parted_length : (free taken left : List ℕ) → Ascends 1 free → IsPartedInto free taken left → length taken + length left ≡ length free
parted_length free taken left up parted =
    sym (length-append taken left) ∙ same_length (taken ++ left) free (λ b. times_append b taken left ∙ parted b) (λ b. times_once 1 b free up)

-- ---- for runs of several lengths

abbrev pub in_all : List ℕ → ℕ
in_all [] = 0
in_all (n ∷ ns) = n + in_all ns

-- The blocks that are taken for runs of these lengths are free and as many as are wanted, and the others are left.
pub record ArePartedFor (free ns : List ℕ) : Type 0 where
  pub parted : IsPartedInto free (taken_for free ns) (left_after free ns)
  pub ascends : Ascends 1 (left_after free ns)
  pub many : length (taken_for free ns) ≡ in_all ns
  pub fewer : length (left_after free ns) + in_all ns ≡ length free

pub rule_taking : (free : List ℕ) (n : ℕ) → Ascends 1 free → n ≤ length free → IsTaking free n (taken_runs free n)
rule_taking free n up enough = taking free n (taken_runs free n) up ((taken_both free n (taken_runs free n) up enough).1 refl)

pub left_length : (free : List ℕ) (n : ℕ) → Ascends 1 free → n ≤ length free → length (left_without free (taken_runs free n)) + n ≡ length free
left_length free n up enough =
    let t = rule_taking free n up enough in
    omega (arith, parted_length free (numbers_of (taken_runs free n)) (left_without free (taken_runs free n)) up t.parted, t.many)

pub parted_for : (free ns : List ℕ) → Ascends 1 free → in_all ns ≤ length free → ArePartedFor free ns
parted_for free [] up enough = record { parted = λ b. omega arith; ascends = up; many = refl; fewer = omega arith }
parted_for free (n ∷ ns) up enough =
    let t = rule_taking free n up (omega (arith, enough)) in
    let fewer = left_length free n up (omega (arith, enough)) in
    let later = parted_for (left_without free (taken_runs free n)) ns t.ascends (omega (arith, enough, fewer)) in
    record {
      parted = λ b. omega (arith, times_append b (numbers_of (taken_runs free n)) (taken_for (left_without free (taken_runs free n)) ns), later.parted b, t.parted b);
      ascends = later.ascends;
      many = omega (arith, length-append (numbers_of (taken_runs free n)) (taken_for (left_without free (taken_runs free n)) ns), later.many, t.many);
      fewer = omega (arith, later.fewer, fewer);
    }

pub taken_append : (free ms ns : List ℕ) → taken_for free (ms ++ ns) ≡ taken_for free ms ++ taken_for (left_after free ms) ns
taken_append free [] ns = refl
taken_append free (m ∷ ms) ns =
    let runs = taken_runs free m in
    ap (λ (xs : List ℕ). numbers_of runs ++ xs) (taken_append (left_without free runs) ms ns)
    ∙ sym (append_assoc (numbers_of runs) (taken_for (left_without free runs) ms) (taken_for (left_after (left_without free runs) ms) ns))

pub left_append : (free ms ns : List ℕ) → left_after free (ms ++ ns) ≡ left_after (left_after free ms) ns
left_append free [] ns = refl
left_append free (m ∷ ms) ns = left_append (left_without free (taken_runs free m)) ms ns

pub all_append : (ms ns : List ℕ) → in_all (ms ++ ns) ≡ in_all ms + in_all ns
all_append [] ns = omega arith
all_append (m ∷ ms) ns = omega (arith, all_append ms ns)
