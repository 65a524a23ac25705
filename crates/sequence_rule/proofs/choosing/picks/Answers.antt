use Rattle.std.proofs.Common.{◌≡◌, ◌∙◌, ◌+◌, ◌-◌, ◌++◌, ◌∷◌, [], ◌≤◌, Some, None, sym, ap, subst, length, arith, List}
use Rattle.volume_model.specs.declared.sequence.Sequence.{Sequence}
use Rattle.volume_model.specs.Select.{long_enough}
use Rattle.sequence_rule.specs.declared.matched.PlaceMatches.{PlaceMatches}
use Rattle.sequence_rule.specs.Choosing.{best_along, rows_without, picks_along}
use Rattle.sequence_rule.proofs.Turns.{ended, next_turn, no_longer}
use Rattle.sequence_rule.proofs.choosing.picks.Goals as goal

pub returns-in-None : goal.returns-in-None
returns-in-None c =
    let none : long_enough c.args.threshold (best_along c.loop-turn.left.items) ≡ None =
    ap (λ (rows : List PlaceMatches). long_enough c.args.threshold (best_along rows)) (sym c.as_slice.ensures.value) ∙ sym c.best.ensures ∙ c.in-None.is in
    ended c.args.threshold (length c.args.rows.items) c.loop-turn._turn (omega arith) c.loop-turn.left.items c.loop-turn.picked.items _ none c.loop-turn.invariant.told

pub loop-turn-preserved : goal.loop-turn-preserved
loop-turn-preserved c =
    let some : long_enough c.args.threshold (best_along c.loop-turn.left.items) ≡ Some c.in-Some.sequence =
    ap (λ (rows : List PlaceMatches). long_enough c.args.threshold (best_along rows)) (sym c.as_slice.ensures.value) ∙ sym c.best.ensures ∙ c.in-Some.is in
    let next = next_turn c.args.threshold (length c.args.rows.items) c.loop-turn._turn (omega arith) c.loop-turn.left.items c.loop-turn.picked.items c.in-Some.sequence some in
    let pushed : c.push.new.self.items ≡ c.loop-turn.picked.items ++ c.in-Some.sequence ∷ [] = c.in_ok-push-in-Some.ensures.items in
    let left : rows_without c.in-Some.sequence c.loop-turn.left.items ≡ c.remove_covered.new.rows.items = sym c.remove_covered.ensures in
    let turns = length c.args.rows.items - (c.loop-turn._turn + 1) in
    record {
      told =
          subst (λ (rows : List PlaceMatches). c.push.new.self.items ++ picks_along c.args.threshold turns rows ≡ picks_along c.args.threshold (length c.args.rows.items) c.args.rows.items) left
          (ap (λ (picked : List Sequence). picked ++ picks_along c.args.threshold turns (rows_without c.in-Some.sequence c.loop-turn.left.items)) pushed ∙ next ∙ c.loop-turn.invariant.told);
      few = subst (λ (rows : List PlaceMatches). length rows ≤ length c.args.rows.items) left (omega (arith, no_longer c.in-Some.sequence c.loop-turn.left.items, c.loop-turn.invariant.few));
    }
