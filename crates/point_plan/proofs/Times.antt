-- How often a number is among the first of a list.
use Rattle.std.proofs.Common.{◌≡◌, ◌≢◌, ◌<◌, ◌≤◌, ℕ, zero, suc, ◌+◌, Bool, true, false, cond, List, [], ◌∷◌, ◌++◌, length, take, drop, get_or, ap, ◌∙◌, arith}
use Rattle.std.specs.Prelude.{nat_eq}
use Rattle.std.proofs.lemmas.Bool.Decides.{nat_tests}
use Rattle.std.proofs.lemmas.List.{take_more}
use Rattle.std.proofs.lemmas.List.Concat.{flat_map-cons}
use Rattle.place_words.specs.Different.{times}
use Rattle.point_plan.specs.Nodes.{all_added}
use Rattle.point_plan.specs.declared.planned_node.PlannedNode.{PlannedNode}

pub times_append : (b : ℕ) (xs ys : List ℕ) → times b (xs ++ ys) ≡ times b xs + times b ys
times_append b [] ys = omega arith
times_append b (x ∷ xs) ys = omega (arith, times_append b xs ys)

times_one : (b x : ℕ) → (b ≡ x → times b (x ∷ []) ≡ 1) × (b ≢ x → times b (x ∷ []) ≡ 0)
times_one b x = (
  λ e. let is : nat_eq x b ≡ true = grind (arith, nat_tests) in ap (λ (t : Bool). cond t 1 0 + 0) is,
  λ ne. let is : nat_eq x b ≡ false = grind (arith, nat_tests) in ap (λ (t : Bool). cond t 1 0 + 0) is,
)

-- one more of the list is this number
pub times_here : (b : ℕ) (xs : List ℕ) (i : ℕ) → i < length xs → b ≡ get_or xs i 0 → times b (take (i + 1) xs) ≡ times b (take i xs) + 1
times_here b xs i lt is = ap (times b) (take_more xs i 0 lt) ∙ times_append b (take i xs) (get_or xs i 0 ∷ []) ∙ ap (λ (n : ℕ). times b (take i xs) + n) ((times_one b (get_or xs i 0)).0 is)

-- one more of the list is another number
pub times_other : (b : ℕ) (xs : List ℕ) (i : ℕ) → i < length xs → b ≢ get_or xs i 0 → times b (take (i + 1) xs) ≡ times b (take i xs)
times_other b xs i lt other =
    let none = (times_one b (get_or xs i 0)).1 other in
    let both = ap (times b) (take_more xs i 0 lt) ∙ times_append b (take i xs) (get_or xs i 0 ∷ []) in
    omega (arith, both, none)

-- those of the nodes behind some are no more than those of all
pub added_less : (b i : ℕ) (nodes : List PlannedNode) → times b (all_added (drop i nodes)) ≤ times b (all_added nodes)
added_less b zero nodes = omega arith
added_less b (suc i) [] = omega arith
added_less b (suc i) (p ∷ ps) =
    let front = ap (times b) (flat_map-cons (λ (q : PlannedNode). q.added) p ps) ∙ times_append b p.added (all_added ps) in
    omega (arith, added_less b i ps, front)
