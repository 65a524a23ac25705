use Rattle.std.proofs.Common.{◌≡◌, ℕ, ◌+◌, false, List, drop, Option, None, sym, ap, subst, ◌∙◌, ⊎_elim}
use Rattle.std.proofs.lemmas.Bool.{cases_eq}
use Rattle.held_list.specs.Held.{slots_at}
use Rattle.point_plan.specs.Directories.{first_slots, if_planned, is_planned_directory, taken_back, where_there}
use Rattle.point_plan.specs.Nodes.{planned_of}
use Rattle.point_plan.specs.declared.planned_node.PlannedNode.{PlannedNode}
use Rattle.point_plan.proofs.DirectorySteps.{Slots, added_first, left_first, back_first, back_more, none_of, where_none}
use Rattle.point_plan.proofs.Numbered.{ascend_at, drop_at}
use Rattle.point_plan.proofs.Steps.{step_on}
use Rattle.point_plan.proofs.directories.add_all.Goals as goal

pub loop-node-init : goal.loop-node-init
loop-node-init c =
    let nodes : List PlannedNode = c.args.nodes.now in
    let d = slots_at c.args.directories.now in
    let f = slots_at c.args.fresh.now in
    record {
      added = λ n. added_first (planned_of nodes n) (d n) (f n) (c.requires.planned n);
      left = λ n. left_first (planned_of nodes n) (d n) (f n) (c.requires.planned n);
      back = λ n. back_first (planned_of nodes n) (d n) (f n) (c.requires.planned n);
      given = λ n is. none_of (f n) (c.requires.planned n ∙ is);
    }

pub loop-node-preserved : goal.loop-node-preserved
loop-node-preserved c =
    let nodes = c.args.nodes.now in
    let i = c.loop-node.node-index in
    let p = c.node-item.result in
    let rest : List PlannedNode = drop (i + 1) nodes in
    let at = ascend_at nodes i p c.requires.ascend c.loop-node-test.true c.node-item.is in
    let front = drop_at nodes i p c.loop-node-test.true c.node-item.is in
    let inv = c.loop-node.invariant in
    let one = c.in_ok-add_one.ensures in
    let d : ℕ → Slots = slots_at c.loop-node.directories in
    let f : ℕ → Slots = slots_at c.loop-node.fresh in
    let more : ℕ → Slots = slots_at c.add_one.new.directories in
    let less : ℕ → Slots = slots_at c.add_one.new.fresh in
    record {
      added = λ n.
          step_on (λ (o : Option PlannedNode) (a : Slots × Slots). if_planned o a.1 (first_slots a.1 a.0)) at.0 p rest (λ k. (less k, more k)) (λ k. (f k, d k)) at.2 one.added
          (λ m other j. (c.add_one.ensures.others_left m other j, one.others m other j)) n
          ∙ ap (λ (ps : List PlannedNode). if_planned (planned_of ps n) (d n) (first_slots (d n) (f n))) (sym front) ∙ inv.added n;
      left = λ n.
          step_on (λ (o : Option PlannedNode) (a : Slots × Slots). if_planned o a.0 (where_there a.1 a.0)) at.0 p rest (λ k. (less k, more k)) (λ k. (f k, d k)) at.2 one.left
          (λ m other j. (c.add_one.ensures.others_left m other j, one.others m other j)) n
          ∙ ap (λ (ps : List PlannedNode). if_planned (planned_of ps n) (f n) (where_there (d n) (f n))) (sym front) ∙ inv.left n;
      back = λ n. ⊎_elim
          (λ here.
          subst (λ (k : ℕ). taken_back (planned_of nodes k) (less k) (more k) ≡ slots_at c.args.directories.now k) (sym here)
          ((λ j. taken_back (planned_of nodes p.number) (one.left j) (one.added j))
          ∙ back_more (is_planned_directory (planned_of nodes p.number)) (f p.number) (d p.number) (slots_at c.args.directories.now p.number) (inv.back p.number) (inv.given p.number)))
          (λ other. (λ j. taken_back (planned_of nodes n) (c.add_one.ensures.others_left n other j) (one.others n other j)) ∙ inv.back n)
          (cases_eq n p.number);
      given = λ n is. ⊎_elim
          (λ here.
          subst (λ (k : ℕ). is_planned_directory (planned_of nodes k) ≡ false → less k ≡ None) (sym here)
          (λ none. one.left ∙ ap (where_there (d p.number)) (inv.given p.number none) ∙ where_none (d p.number)) is)
          (λ other. c.add_one.ensures.others_left n other ∙ inv.given n is)
          (cases_eq n p.number);
    }
