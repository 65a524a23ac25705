use Rattle.std.proofs.Common.{arith}
use Rattle.std.proofs.lemmas.Grind.{common_steps}
use Rattle.wire_ends.proofs.KnownLemmas.{appended_next}
use Rattle.wire_ends.proofs.std_sink.put_all.Goals as goal

pub loop-done-preserved : goal.loop-done-preserved
loop-done-preserved g c = (grind (arith, common_steps), appended_next _ _ _ c.loop-done.done c.in_ok-done.field-0 c.args.bytes.now c.loop-done.invariant.1 c.in_ok-done.ensures.put)
