use Rattle.std.proofs.Common.{◌≡◌, refl, sym, subst, ap}
use Rattle.tree_model.specs.Tree.{Tree}
use Rattle.tree_model.specs.declared.reply.Reply.{Reply}
use Rattle.tree_model.specs.Shape.{IsTree}
use Rattle.tree_model.specs.Step.{step}
use Rattle.tree_model.proofs.RenameLaws.{keeps_trees}
use Rattle.log_volume.proofs.ReplayLemmas.{there_is, does_next, refused_next}
use Rattle.log_volume.proofs.replaying.replay.Goals as goal

pub loop-i-init : goal.loop-i-init
loop-i-init c = record { done = tt; tree = c.in_ok-tree.ensures; sound = subst IsTree (sym c.in_ok-tree.ensures) keeps_trees.at_first }

pub returns-in_default : goal.returns-in_default
returns-in_default c = record {
  tree = tt;
  done = tt;
  is = tt;
  refused = refused_next c.args.commands.now c.loop-i.i c.index-commands-i.result c.loop-i.tree c.step.new.self c.in_ok-step.field-0 c.loop-i-test.true (there_is _ _ _ c.loop-i-test.true c.index-commands-i.is) c.loop-i.invariant.done c.loop-i.invariant.tree c.in_ok-step.ensures.ok c.in_default.not-Done;
  no_fault = λ count. refl;
}

pub loop-i-preserved : goal.loop-i-preserved
loop-i-preserved c =
    let stepped = subst (λ (r : Reply). step c.loop-i.tree c.index-commands-i.result ≡ (r, c.step.new.self)) c.in-Done.is c.in_ok-step.ensures.ok in
    let next = does_next c.args.commands.now c.loop-i.i c.index-commands-i.result c.loop-i.tree c.step.new.self (there_is _ _ _ c.loop-i-test.true c.index-commands-i.is) c.loop-i.invariant.done c.loop-i.invariant.tree stepped in
    record { done = next.0; tree = next.1; sound = subst IsTree (ap (λ (r : Reply × Tree). r.1) c.in_ok-step.ensures.ok) (keeps_trees.after_step c.loop-i.tree c.index-commands-i.result c.loop-i.invariant.sound) }
