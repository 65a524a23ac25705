use Rattle.std.proofs.Common.{◌≡◌, ◌≤◌, ◌+◌, ◌++◌, length, vec_len, vec_capacity}
use Rattle.std.specs.Vec.Iter.{into_iter_items}
use Rattle.dirty_store.specs.Entries.{AreKept, AreWithin, all_put, put_back, there}
use Rattle.dirty_store.proofs.staging.put_all.Given as goal

abbrev pub invariant-loop-spot : goal.invariant-loop-spot
invariant-loop-spot g l = record {
  rest : l.yielded ++ into_iter_items l.spot-iterator ≡ into_iter_items l.initial.spot-iterator;
  put : l.entries.items ≡ all_put l.yielded l.initial.entries.items;
  kept : AreKept l.entries.items;
  within : AreWithin l.was.items;
  back : put_back l.was.items l.entries.items ≡ put_back l.initial.was.items l.initial.entries.items;
  count : length l.entries.items + there l.was.items ≡ length l.initial.entries.items + there l.initial.was.items + length l.yielded;
  length_most : length l.entries.items ≤ length l.initial.entries.items + length l.yielded;
  was_len : vec_len l.was ≡ vec_len l.initial.was + length l.yielded;
  room : vec_capacity l.entries ≡ vec_capacity l.initial.entries;
  was_room : vec_capacity l.initial.was ≤ vec_capacity l.was;
}
