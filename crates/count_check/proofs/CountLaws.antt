-- Counts and free blocks, one block after the other.
use Rattle.std.proofs.Common.{◌≡◌, ◌≢◌, ◌<◌, ◌≤◌, ℕ, suc, ◌+◌, ◌-◌, Bool, false, not, cond, List, get_or, sym, ap, subst, ◌∙◌, arith, ⊎_elim}
use Rattle.std.specs.Prelude.{◌==◌, Some, None}
use Rattle.std.proofs.lemmas.Bool.{eq-eqb, cases_eq}
use Rattle.std.proofs.lemmas.Bool.Decides.{nat_tests}
use Rattle.image_model.specs.Met.{Met}
use Rattle.image_model.specs.Findings.{◌then◌, bad_if, count_finding, zeros_from}
use Rattle.image_model.specs.declared.finding.Finding.TheVariants.{WrongCount}
use Rattle.image_walk.specs.declared.marks.Mark.{Mark}
use Rattle.image_walk.specs.Marks.{Says, mark_of}

module _ (marks : List Mark) (ms : List Met) (says : Says marks ms) (kept : List ℕ) (b n : ℕ) (lt : b < n) where
  abbrev counted : ℕ
  counted = (mark_of marks b).pointers

  count_next : count_finding ms kept b (n - b) ≡ (bad_if (not (get_or kept b 0 == counted)) (WrongCount b (get_or kept b 0) counted) then count_finding ms kept (b + 1) (n - (b + 1)))
  count_next =
      let one : n - b ≡ suc (n - (b + 1)) = omega arith in
      ap (count_finding ms kept b) one
      ∙ ap (λ (p : ℕ). bad_if (not (get_or kept b 0 == p)) (WrongCount b (get_or kept b 0) p) then count_finding ms kept (b + 1) (n - (b + 1))) (sym (says.pointers b))

  pub count_fine : get_or kept b 0 ≡ counted → count_finding ms kept b (n - b) ≡ count_finding ms kept (b + 1) (n - (b + 1))
  count_fine same =
      count_next ∙ ap (λ (t : Bool). bad_if (not t) (WrongCount b (get_or kept b 0) counted) then count_finding ms kept (b + 1) (n - (b + 1))) (eq-eqb (get_or kept b 0) counted same)

  pub count_wrong : (k p : ℕ) → k ≡ get_or kept b 0 → p ≡ counted → k ≢ p → count_finding ms kept b (n - b) ≡ Some (WrongCount b k p)
  count_wrong k p is pointers apart =
      let test : (k == p) ≡ false = grind (arith, nat_tests) in
      count_next
      ∙ (λ i. bad_if (not (sym is i == sym pointers i)) (WrongCount b (sym is i) (sym pointers i)) then count_finding ms kept (b + 1) (n - (b + 1)))
      ∙ ap (λ (t : Bool). bad_if (not t) (WrongCount b k p) then count_finding ms kept (b + 1) (n - (b + 1))) test

-- the counts that are right, and one more
pub next_fine : (marks : List Mark) (kept : List ℕ) (b : ℕ) → ((k : ℕ) → k < b → get_or kept k 0 ≡ (mark_of marks k).pointers) → get_or kept b 0 ≡ (mark_of marks b).pointers
    → (k : ℕ) → k < b + 1 → get_or kept k 0 ≡ (mark_of marks k).pointers
next_fine marks kept b all here k lt = ⊎_elim
    (λ same. subst (λ (j : ℕ). get_or kept j 0 ≡ (mark_of marks j).pointers) (sym same) here)
    (λ other. all k (omega (arith, other, lt)))
    (cases_eq k b)

pub count_end : (ms : List Met) (kept : List ℕ) (b n : ℕ) → n ≤ b → count_finding ms kept b (n - b) ≡ None
count_end ms kept b n le = let none : n - b ≡ 0 = omega (arith, le) in ap (count_finding ms kept b) none

-- ---- free blocks

module _ (kept : List ℕ) (b n : ℕ) (lt : b < n) where
  zeros_next : zeros_from kept b (n - b) ≡ cond (get_or kept b 0 == 0) 1 0 + zeros_from kept (b + 1) (n - (b + 1))
  zeros_next = let one : n - b ≡ suc (n - (b + 1)) = omega arith in ap (zeros_from kept b) one

  pub zeros_free : get_or kept b 0 ≡ 0 → zeros_from kept b (n - b) ≡ 1 + zeros_from kept (b + 1) (n - (b + 1))
  zeros_free is = omega (arith, zeros_next, ap {B = ℕ} (λ (t : Bool). cond t 1 0) (eq-eqb (get_or kept b 0) 0 is))

  pub zeros_used : get_or kept b 0 ≢ 0 → zeros_from kept b (n - b) ≡ zeros_from kept (b + 1) (n - (b + 1))
  zeros_used some =
      let test : (get_or kept b 0 == 0) ≡ false = grind (arith, nat_tests) in
      omega (arith, zeros_next, ap {B = ℕ} (λ (t : Bool). cond t 1 0) test)

pub zeros_end : (kept : List ℕ) (b n : ℕ) → n ≤ b → zeros_from kept b (n - b) ≡ 0
zeros_end kept b n le = let none : n - b ≡ 0 = omega (arith, le) in ap (zeros_from kept b) none
