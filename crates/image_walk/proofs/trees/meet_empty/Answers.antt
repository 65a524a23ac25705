use Rattle.std.proofs.Common.{◌∙◌, sym, [], ℕ}
use Rattle.std.specs.Prelude.{◌==◌}
use Rattle.std.specs.List.{list_all}
use Rattle.image_walk.specs.Going.{reached_after}
use Rattle.image_walk.proofs.NodeLaws.{empty_found}
use Rattle.image_walk.proofs.trees.meet_empty.Goals as goal

pub returns-then-are_zero-clause-walked : goal.returns-then-are_zero-clause-walked
returns-then-are_zero-clause-walked c g marks before s =
    empty_found g (reached_after [] before) (list_all (λ (p : ℕ). p == 0) c.args.ptrs.now) c.args.at (sym c.are_zero.ensures ∙ c.if-are_zero.true)
