-- The counts that were moved by the pointers of changed nodes are those that a point plans.
use Rattle.std.proofs.Common.{◌≡◌, ℕ, zero, suc, ◌+◌, ◌≤◌, Bool, true, false, cond, List, [], ◌∷◌, Option, Some, None, refl, ap, subst, ◌∙◌, arith}
use Rattle.std.specs.Prelude.{◌==◌}
use Rattle.std.specs.List.{flat_map}
use Rattle.std.proofs.lemmas.Bool.Decides.{nat_tests}
use Rattle.std.proofs.lemmas.List.Concat.{flat_map-cons}
use Rattle.place_words.specs.Different.{span, times, total}
use Rattle.point_model.proofs.Counted.{of_numbers, same_totals}
use Rattle.point_plan.specs.Nodes.{Ascend, planned_of}
use Rattle.point_plan.specs.declared.planned_node.PlannedNode.{PlannedNode}
use Rattle.point_plan.proofs.Numbered.{planned_none}
use Rattle.point_plan.proofs.Times.{times_append}

-- ---- what of all numbers is what of the planned ones

module _ (f : Option PlannedNode → List ℕ) (none : f None ≡ []) (b : ℕ) where
  abbrev At : List PlannedNode → ℕ → ℕ
  At nodes n = times b (f (planned_of nodes n))

  abbrev Listed : List PlannedNode → ℕ
  Listed nodes = times b (flat_map (λ (p : PlannedNode). f (Some p)) nodes)

  none_at : (nodes : List PlannedNode) (n : ℕ) → planned_of nodes n ≡ None → At nodes n ≡ 0
  none_at nodes n is = ap (λ (o : Option PlannedNode). times b (f o)) is ∙ ap (times b) none

  -- from a number on, below which none is planned
  pub listed_from : (m n : ℕ) (nodes : List PlannedNode) → n + m ≡ 65536 → Ascend n nodes → total (At nodes) (span n m) ≡ Listed nodes
  listed_from zero n [] end ascend = refl
  listed_from zero n (p ∷ ps) end ascend = absurd (omega (arith, ascend.0, ascend.1))
  listed_from (suc m) n [] end ascend = omega (arith, none_at [] n refl, listed_from m (n + 1) [] (omega (arith, end)) tt)
  listed_from (suc m) n (p ∷ ps) end ascend = by (p.number == n) refl (λ rest. listed_from m (n + 1) ps (omega (arith, end)) rest) (λ rest. listed_from m (n + 1) (p ∷ ps) (omega (arith, end)) rest)
    where
      front : Listed (p ∷ ps) ≡ times b (f (Some p)) + Listed ps
      front = ap (times b) (flat_map-cons (λ (q : PlannedNode). f (Some q)) p ps) ∙ times_append b (f (Some p)) (flat_map (λ (q : PlannedNode). f (Some q)) ps)

      by : (t : Bool) → (p.number == n) ≡ t → (Ascend (n + 1) ps → total (At ps) (span (n + 1) m) ≡ Listed ps) → (Ascend (n + 1) (p ∷ ps) → total (At (p ∷ ps)) (span (n + 1) m) ≡ Listed (p ∷ ps))
          → total (At (p ∷ ps)) (span n (suc m)) ≡ Listed (p ∷ ps)
      by true is rest same =
          let e : p.number ≡ n = grind (arith, nat_tests) in
          let here : At (p ∷ ps) n ≡ times b (f (Some p)) = ap (λ (t : Bool). times b (f (cond t (Some p) (planned_of ps n)))) is in
          let others = same_totals (At (p ∷ ps)) (At ps) (n + 1) m (λ k above. let apart : (p.number == k) ≡ false = grind (arith, nat_tests) in ap (λ (t : Bool). times b (f (cond t (Some p) (planned_of ps k)))) apart) in
          let behind = rest (subst (λ (k : ℕ). Ascend (k + 1) ps) e ascend.2) in
          omega (arith, here, others, behind, front)
      by false is rest same =
          let le = ascend.0 in
          let above : n + 1 ≤ p.number = grind (arith, nat_tests) in
          let here = none_at (p ∷ ps) n (planned_none (n + 1) (p ∷ ps) n (above, ascend.1, ascend.2) (omega arith)) in
          omega (arith, here, same (above, ascend.1, ascend.2))

  pub listed : (nodes : List PlannedNode) → Ascend 1 nodes → times b (flat_map (λ n. f (planned_of nodes n)) (span 0 65536)) ≡ Listed nodes
  listed nodes ascend = of_numbers b (λ n. f (planned_of nodes n)) (span 0 65536) ∙ listed_from 65536 0 nodes refl (lower nodes ascend)
    where
      lower : (nodes : List PlannedNode) → Ascend 1 nodes → Ascend 0 nodes
      lower [] ascend = tt
      lower (p ∷ ps) ascend = (omega arith, ascend.1, ascend.2)
