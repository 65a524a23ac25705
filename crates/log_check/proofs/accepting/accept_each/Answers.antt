use Rattle.std.proofs.Common.{◌+◌, ℕ, take, sym, subst, arith}
use Rattle.log_check.specs.Accepting.{IsCharged}
use Rattle.log_check.proofs.AcceptLemmas.{charged_next, refused_next, not_true}
use Rattle.log_check.proofs.accepting.accept_each.Goals as goal

pub returns-then-not-branch-clause-refused : goal.returns-then-not-branch-clause-refused
returns-then-not-branch-clause-refused c =
    refused_next c.args.free c.args.nodes.now c.args.commands.now c.loop-i.i c.index-commands-i.result c.loop-i.nodes c.loop-i.charged c.loop-i-test.true c.index-commands-i.is c.loop-i.invariant.taken
    (c.in_ok-accept.ensures.refused (not_true c.in_ok-accept.field-0 c.if-not-branch.true))

pub loop-i-preserved : goal.loop-i-preserved
loop-i-preserved c = record {
  taken = subst (λ (n : ℕ). IsCharged c.args.free c.args.nodes.now (take (c.loop-i.i + 1) c.args.commands.now) c.accept.new.nodes (c.loop-i.charged + n)) (sym c.charge.ensures.is)
      (charged_next c.args.free c.args.nodes.now c.args.commands.now c.loop-i.i c.index-commands-i.result c.loop-i.nodes c.loop-i.charged c.loop-i-test.true c.index-commands-i.is c.loop-i.invariant.taken
      c.accept.new.nodes (c.in_ok-accept.ensures.takes c.if-not-branch.false));
  few = omega (arith, c.charge.ensures.at_most, c.loop-i.invariant.few);
}
