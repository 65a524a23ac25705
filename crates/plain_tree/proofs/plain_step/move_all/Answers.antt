use Rattle.std.proofs.Common.{◌∙◌, ap, arith}
use Rattle.tree_model.specs.Tree.{moved_onto}
use Rattle.plain_tree.proofs.Moves.{paths_left, one_moved}
use Rattle.plain_tree.proofs.plain_step.move_all.Goals as goal

pub loop-path-preserved : goal.loop-path-preserved
loop-path-preserved c = record {
  same =
      ap (λ t. moved_onto c.args.from.now c.args.to.now c.pop-in-Some.new.self.items t) c.put.ensures.items
      ∙ one_moved _ _ _ _ (c.in-Some-pop.field-0-0, c.in-Some-pop.node) _ _ c.in-Some.path c.in-Some-pop.ensures.items c.in-Some.ensures.items c.loop-path.invariant.paths c.loop-path.new.items
      ∙ c.loop-path.invariant.same;
  paths = paths_left _ _ _ _ (c.in-Some-pop.field-0-0, c.in-Some-pop.node) _ _ c.in-Some.path c.in-Some-pop.ensures.items c.in-Some.ensures.items c.loop-path.invariant.paths;
  room = omega (arith, c.in-Some-pop.ensures.cases);
}
