-- Planned nodes one after the other, in the order of their numbers.
use Rattle.std.proofs.Common.{◌≡◌, ◌≢◌, ◌<◌, ◌≤◌, ℕ, zero, suc, ◌+◌, Bool, true, false, cond, List, [], ◌∷◌, length, drop, get_or, drop-cons, Option, Some, None, refl, sym, ap, subst, ◌∙◌, arith, ⊎_elim}
use Rattle.std.specs.Prelude.{◌==◌}
use Rattle.std.proofs.lemmas.Bool.{cases_eq}
use Rattle.std.proofs.lemmas.List.{ext_get_or}
use Rattle.std.proofs.lemmas.Bool.Decides.{nat_tests}
use Rattle.block_format.specs.declared.inode.Inode.{Inode}
use Rattle.block_format.specs.declared.inode.Inode.TheVariants.{Unused}
use Rattle.inode_file.specs.Inodes.{InodeTable, IsTable, inode_of}
use Rattle.point_plan.specs.Nodes.{Ascend, HadInodes, planned_of, inode_or, was_or}
use Rattle.point_plan.specs.declared.planned_node.PlannedNode.{PlannedNode}

-- no number below the least is planned
pub planned_none : (least : ℕ) (nodes : List PlannedNode) (n : ℕ) → Ascend least nodes → n < least → planned_of nodes n ≡ None
planned_none least [] n ascend lt = refl
planned_none least (p ∷ ps) n ascend lt =
    let above = ascend.0 in
    let apart : (p.number == n) ≡ false = grind (arith, nat_tests) in
    ap (λ (t : Bool). cond t (Some p) (planned_of ps n)) apart ∙ planned_none (p.number + 1) ps n ascend.2 (omega (arith, above, lt))

-- behind some of them the others ascend
pub ascend_drop : (least : ℕ) (nodes : List PlannedNode) (i : ℕ) → Ascend least nodes → (m : ℕ) × (least ≤ m) × Ascend m (drop i nodes)
ascend_drop least nodes zero ascend = (least, omega arith, ascend)
ascend_drop least [] (suc i) ascend = (least, omega arith, tt)
ascend_drop least (p ∷ ps) (suc i) ascend =
    let more = ascend_drop (p.number + 1) ps i ascend.2 in
    (more.0, omega (arith, more.1, ascend.0), more.2)

-- once the first is set, the rest makes of what there is what all make of what there was
pub step_new : (least : ℕ) (p : PlannedNode) (rest : List PlannedNode) (x y : ℕ → Inode) → Ascend least (p ∷ rest) → x p.number ≡ p.is → ((m : ℕ) → m ≢ p.number → x m ≡ y m)
    → (n : ℕ) → inode_or (planned_of rest n) (x n) ≡ inode_or (planned_of (p ∷ rest) n) (y n)
step_new least p rest x y ascend is others n = ⊎_elim
    (λ here.
    let same : (p.number == n) ≡ true = grind (arith, nat_tests) in
    let gone = planned_none (p.number + 1) rest n ascend.2 (omega (arith, here)) in
    ap (λ (o : Option PlannedNode). inode_or o (x n)) gone ∙ ap x here ∙ is ∙ sym (ap (λ (t : Bool). inode_or (cond t (Some p) (planned_of rest n)) (y n)) same))
    (λ other.
    let apart : (p.number == n) ≡ false = grind (arith, nat_tests) in
    ap (inode_or (planned_of rest n)) (others n other) ∙ sym (ap (λ (t : Bool). inode_or (cond t (Some p) (planned_of rest n)) (y n)) apart))
    (cases_eq n p.number)

pub step_old : (least : ℕ) (p : PlannedNode) (rest : List PlannedNode) (x y : ℕ → Inode) → Ascend least (p ∷ rest) → x p.number ≡ p.was → ((m : ℕ) → m ≢ p.number → x m ≡ y m)
    → (n : ℕ) → was_or (planned_of rest n) (x n) ≡ was_or (planned_of (p ∷ rest) n) (y n)
step_old least p rest x y ascend is others n = ⊎_elim
    (λ here.
    let same : (p.number == n) ≡ true = grind (arith, nat_tests) in
    let gone = planned_none (p.number + 1) rest n ascend.2 (omega (arith, here)) in
    ap (λ (o : Option PlannedNode). was_or o (x n)) gone ∙ ap x here ∙ is ∙ sym (ap (λ (t : Bool). was_or (cond t (Some p) (planned_of rest n)) (y n)) same))
    (λ other.
    let apart : (p.number == n) ≡ false = grind (arith, nat_tests) in
    ap (was_or (planned_of rest n)) (others n other) ∙ sym (ap (λ (t : Bool). was_or (cond t (Some p) (planned_of rest n)) (y n)) apart))
    (cases_eq n p.number)

-- the one at a place stands in front of those behind it
pub drop_at : (nodes : List PlannedNode) (i : ℕ) (p : PlannedNode) → i < length nodes → p ≡ get_or nodes i p → drop i nodes ≡ p ∷ drop (i + 1) nodes
drop_at nodes i p lt is =
    let more : suc i ≡ i + 1 = omega arith in
    drop-cons nodes i p lt ∙ (λ j. sym is j ∷ drop (more j) nodes)

-- and its number is that of a node
pub ascend_at : (nodes : List PlannedNode) (i : ℕ) (p : PlannedNode) → Ascend 1 nodes → i < length nodes → p ≡ get_or nodes i p → (m : ℕ) × (1 ≤ m) × Ascend m (p ∷ drop (i + 1) nodes)
ascend_at nodes i p ascend lt is =
    let rest = ascend_drop 1 nodes i ascend in
    (rest.0, rest.1, subst (λ (ps : List PlannedNode). Ascend rest.0 ps) (drop_at nodes i p lt is) rest.2)

-- a planned number that is given what it had, after its new inode, has what it had
pub had_back : (inodes : List Inode) (nodes : List PlannedNode) → HadInodes inodes nodes → (n : ℕ) → was_or (planned_of nodes n) (inode_or (planned_of nodes n) (inode_of inodes n)) ≡ inode_of inodes n
had_back inodes [] had n = refl
had_back inodes (p ∷ ps) had n = by (p.number == n) refl (had_back inodes ps (λ k d lt. had (suc k) d (omega (arith, lt))) n)
  where
    by : (t : Bool) → (p.number == n) ≡ t → was_or (planned_of ps n) (inode_or (planned_of ps n) (inode_of inodes n)) ≡ inode_of inodes n
        → was_or (cond t (Some p) (planned_of ps n)) (inode_or (cond t (Some p) (planned_of ps n)) (inode_of inodes n)) ≡ inode_of inodes n
    by true is more = let e : p.number ≡ n = grind (arith, nat_tests) in sym (had 0 p (omega arith)) ∙ ap (λ (k : ℕ). inode_of inodes k) e
    by false is more = more

-- so the whole table is as it was
pub table_back : (t new back : InodeTable) (nodes : List PlannedNode) → IsTable t → IsTable back → HadInodes t.inodes nodes → ((n : ℕ) → inode_of new.inodes n ≡ inode_or (planned_of nodes n) (inode_of t.inodes n))
    → ((n : ℕ) → inode_of back.inodes n ≡ was_or (planned_of nodes n) (inode_of new.inodes n)) → new ≡ record t { inodes = new.inodes } → back ≡ record new { inodes = back.inodes } → back ≡ t
table_back t new back nodes whole whole_back had set set_back rest rest_back =
    let each : (n : ℕ) → inode_of back.inodes n ≡ inode_of t.inodes n = λ n. set_back n ∙ ap (was_or (planned_of nodes n)) (set n) ∙ had_back t.inodes nodes had n in
    let same : back.inodes ≡ t.inodes = ext_get_or Unused back.inodes t.inodes (whole_back.inodes ∙ sym whole.inodes) (λ n lt. each n) in
    rest_back ∙ ap (λ (x : InodeTable). record x { inodes = back.inodes }) rest ∙ ap (λ (inodes : List Inode). record t { inodes = inodes }) same
