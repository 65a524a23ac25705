-- Planned nodes one after the other, whatever is done for each.
use Rattle.std.proofs.Common.{◌≡◌, ◌≢◌, ℕ, ◌+◌, Bool, true, false, cond, List, ◌∷◌, Option, Some, None, sym, ap, subst, ◌∙◌, arith, ⊎_elim}
use Rattle.std.specs.Prelude.{◌==◌}
use Rattle.std.proofs.lemmas.Bool.{cases_eq}
use Rattle.std.proofs.lemmas.Bool.Decides.{nat_tests}
use Rattle.point_plan.specs.Nodes.{Ascend, planned_of}
use Rattle.point_plan.specs.declared.planned_node.PlannedNode.{PlannedNode}
use Rattle.point_plan.proofs.Numbered.{planned_none}

-- the first number is behind all others, and any other number is as it is without it
pub first_gone : (least : ℕ) (p : PlannedNode) (rest : List PlannedNode) (n : ℕ) → Ascend least (p ∷ rest) → n ≡ p.number → planned_of rest n ≡ None
first_gone least p rest n ascend here = planned_none (p.number + 1) rest n ascend.2 (omega (arith, here))

pub here_of : (p : PlannedNode) (rest : List PlannedNode) → planned_of (p ∷ rest) p.number ≡ Some p
here_of p rest =
    let same : (p.number == p.number) ≡ true = grind (arith, nat_tests) in
    ap (λ (t : Bool). cond t (Some p) (planned_of rest p.number)) same

pub first_other : (p : PlannedNode) (rest : List PlannedNode) (n : ℕ) → n ≢ p.number → planned_of (p ∷ rest) n ≡ planned_of rest n
first_other p rest n other =
    let apart : (p.number == n) ≡ false = grind (arith, nat_tests) in
    ap (λ (t : Bool). cond t (Some p) (planned_of rest n)) apart

-- Once the first is done, the rest makes of what there is what all make of what there was.
pub step_on : {A B : Type 0} (f : Option PlannedNode → A → B) (least : ℕ) (p : PlannedNode) (rest : List PlannedNode) (x y : ℕ → A) → Ascend least (p ∷ rest)
    → f None (x p.number) ≡ f (Some p) (y p.number) → ((m : ℕ) → m ≢ p.number → x m ≡ y m) → (n : ℕ) → f (planned_of rest n) (x n) ≡ f (planned_of (p ∷ rest) n) (y n)
step_on f least p rest x y ascend own others n = ⊎_elim
    (λ here.
    let same : (p.number == n) ≡ true = grind (arith, nat_tests) in
    let gone = first_gone least p rest n ascend here in
    ap (λ (o : Option PlannedNode). f o (x n)) gone ∙ subst (λ (k : ℕ). f None (x k) ≡ f (Some p) (y k)) (sym here) own ∙ sym (ap (λ (t : Bool). f (cond t (Some p) (planned_of rest n)) (y n)) same))
    (λ other.
    let apart : (p.number == n) ≡ false = grind (arith, nat_tests) in
    ap (f (planned_of rest n)) (others n other) ∙ sym (ap (λ (t : Bool). f (cond t (Some p) (planned_of rest n)) (y n)) apart))
    (cases_eq n p.number)
