use Rattle.std.proofs.Common.{◌<◌, ◌%◌, ℕ, All, sym, subst, arith}
use Rattle.std.proofs.lemmas.List.Elements.{All-push}
use Rattle.dirty_store.specs.declared.effect.Touched.{Touched}
use Rattle.store_tests.proofs.effects.touched_of.Goals as goal

rest_below : (n : ℕ) → n % 1048576 < 1048576
rest_below n = omega arith

pub loop-row-preserved : goal.loop-row-preserved
loop-row-preserved c =
    subst (All (λ (t : Touched). t.place < 1048576)) (sym c.in_ok-push.ensures.items)
    (All-push (λ (t : Touched). t.place < 1048576) c.loop-row.list.items _ c.loop-row.invariant (rest_below _))
