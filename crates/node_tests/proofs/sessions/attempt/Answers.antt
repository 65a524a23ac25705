use Rattle.std.proofs.Common.{sym, ◌∙◌}
use Rattle.tree_model.specs.Step.{step}
use Rattle.tree_model.proofs.StepWidths.{keeps_tree}
use Rattle.node_tests.proofs.sessions.attempt.Goals as goal

pub returns : goal.returns
returns c =
    let s = c.requires in
    record {
      tree = (step s.tree c.args.command.now).1;
      is_tree = keeps_tree s.tree c.args.command.now s.is_tree;
      holds = c.in_ok-change.ensures.holds s.tree s.is_tree s.holds (sym (c.refusal.ensures s.tree s.is_tree s.holds) ∙ c.in_default.is);
    }
