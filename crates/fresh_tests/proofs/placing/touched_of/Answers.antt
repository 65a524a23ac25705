use Rattle.std.proofs.Common.{◌<◌, ◌%◌, ℕ, All, sym, subst, arith}
use Rattle.std.proofs.lemmas.List.Elements.{All-push}
use Rattle.dirty_store.specs.declared.effect.Touched.{Touched}
use Rattle.fresh_tests.proofs.placing.touched_of.Goals as goal

rest_below : (n : ℕ) → n % 1048576 < 1048576
rest_below n = omega arith

pub loop-place-preserved : goal.loop-place-preserved
loop-place-preserved c =
    subst (All (λ (t : Touched). t.place < 1048576)) (sym c.in_ok-push.ensures.items)
    (All-push (λ (t : Touched). t.place < 1048576) c.loop-place.list.items _ c.loop-place.invariant (rest_below _))
