use Rattle.std.proofs.Common.{◌≡◌, ℕ, ◌+◌, Bool, true, false, List, drop, Option, None, refl, sym, ap, ◌∙◌, arith, ⊎_elim}
use Rattle.std.specs.Prelude.{if◌then◌else◌, is_some}
use Rattle.std.proofs.lemmas.Bool.{cases_eq}
use Rattle.std.proofs.lemmas.List.{drop_all}
use Rattle.held_list.specs.Held.{slots_at}
use Rattle.point_plan.specs.Directories.{finished, first_slots}
use Rattle.point_plan.specs.Nodes.{planned_of}
use Rattle.point_plan.specs.declared.planned_node.PlannedNode.{PlannedNode}
use Rattle.point_plan.proofs.DirectorySteps.{Slots}
use Rattle.point_plan.proofs.Numbered.{ascend_at, drop_at}
use Rattle.point_plan.proofs.Steps.{first_gone, first_other, here_of, step_on}
use Rattle.point_plan.proofs.directories.finish_directories.Goals as goal

pub loop-node-init : goal.loop-node-init
loop-node-init c = record { done = λ n. refl; there = λ n some. c.requires.there n }

pub finish_one-requires : goal.finish_one-requires
finish_one-requires c =
    let nodes = c.args.nodes.now in
    let i = c.loop-node.node-index in
    let p = c.node-item.result in
    let front = drop_at nodes i p c.loop-node-test.true c.node-item.is in
    c.loop-node.invariant.there p.number (ap (λ (ps : List PlannedNode). is_some (planned_of ps p.number)) front ∙ ap is_some (here_of p (drop (i + 1) nodes)))

pub loop-node-preserved : goal.loop-node-preserved
loop-node-preserved c =
    let nodes = c.args.nodes.now in
    let i = c.loop-node.node-index in
    let p = c.node-item.result in
    let rest : List PlannedNode = drop (i + 1) nodes in
    let at = ascend_at nodes i p c.requires.ascend c.loop-node-test.true c.node-item.is in
    let front = drop_at nodes i p c.loop-node-test.true c.node-item.is in
    let one = c.finish_one.ensures in
    let d : ℕ → Slots = slots_at c.loop-node.directories in
    let f : ℕ → Slots = slots_at c.loop-node.fresh in
    let more : ℕ → Slots = slots_at c.finish_one.new.directories in
    let less : ℕ → Slots = slots_at c.finish_one.new.fresh in
    record {
      done = λ n.
          step_on (λ (o : Option PlannedNode) (a : Slots × Slots). finished o a.0 a.1) at.0 p rest (λ k. (less k, more k)) (λ k. (f k, d k)) at.2
          (one.own ∙ ap (λ (t : Bool). if t then first_slots (f p.number) (d p.number) else None) c.is_directory.ensures)
          (λ m other j. (one.others_left m other j, one.others m other j)) n
          ∙ ap (λ (ps : List PlannedNode). finished (planned_of ps n) (f n) (d n)) (sym front) ∙ c.loop-node.invariant.done n;
      there = λ n some has. ⊎_elim
          (λ here. let gone = first_gone at.0 p rest n at.2 here in let never : false ≡ true = ap is_some (sym gone) ∙ some in cc)
          (λ other.
          let before : is_some (planned_of (drop i nodes) n) ≡ true = ap (λ (ps : List PlannedNode). is_some (planned_of ps n)) front ∙ ap is_some (first_other p rest n other) ∙ some in
          ap is_some (one.others n other) ∙ c.loop-node.invariant.there n before (sym (ap is_some (one.others_left n other)) ∙ has))
          (cases_eq n p.number);
    }

pub returns : goal.returns
returns c = λ n.
    let none = drop_all c.loop-node.node-index c.args.nodes.now (omega arith) in
    ap (λ (ps : List PlannedNode). finished (planned_of ps n) (slots_at c.loop-node.fresh n) (slots_at c.loop-node.directories n)) (sym none) ∙ c.loop-node.invariant.done n
