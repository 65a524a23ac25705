use Rattle.std.proofs.Common.{sym, ◌∙◌, arith}
use Rattle.tree_model.proofs.Orders.{other_ends, other_goes_on, both_end}
use Rattle.tree_model.proofs.path_names.path_order.Goals as goal

pub returns-then-i-b : goal.returns-then-i-b
returns-then-i-b c = sym (other_ends _ _ c.loop-i.i c.loop-i-test.true c.if-i-b.true) ∙ c.loop-i.invariant.same

pub returns-then-b-a : goal.returns-then-b-a
returns-then-b-a c = sym (other_goes_on _ _ c.loop-i.i c.loop-i-test.false (omega arith)) ∙ c.loop-i.invariant.same

pub returns : goal.returns
returns c = sym (both_end _ _ c.loop-i.i c.loop-i-test.false (omega arith)) ∙ c.loop-i.invariant.same
