use Rattle.std.proofs.Common.{◌≡◌, ◌≤◌, ◌+◌, ◌++◌, length, vec_len, vec_capacity}
use Rattle.std.specs.Vec.Iter.{drain_items}
use Rattle.dirty_store.specs.Inside.{all_there}
use Rattle.dirty_store.proofs.cuts.cut_from.Given as goal

abbrev pub invariant-loop-spot : goal.invariant-loop-spot
invariant-loop-spot g l = record {
  rest : l.yielded ++ drain_items l.spot-iterator ≡ drain_items l.initial.spot-iterator;
  was : l.was.items ≡ l.initial.was.items ++ all_there l.yielded;
  len : vec_len l.was ≡ vec_len l.initial.was + length l.yielded;
  room : vec_capacity l.initial.was ≤ vec_capacity l.was;
}
