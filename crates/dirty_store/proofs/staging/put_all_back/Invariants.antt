use Rattle.std.proofs.Common.{◌≡◌, ◌≤◌, ◌+◌, length, vec_len, vec_capacity}
use Rattle.dirty_store.specs.Entries.{AreKept, AreWithin, put_back, there}
use Rattle.dirty_store.proofs.staging.put_all_back.Given as goal

abbrev pub invariant-loop-spot : goal.invariant-loop-spot
invariant-loop-spot g l = record {
  back : put_back l.was.items l.entries.items ≡ put_back l.initial.was.items l.initial.entries.items;
  kept : AreKept l.entries.items;
  within : AreWithin l.was.items;
  room : length l.entries.items + there l.was.items ≤ vec_capacity l.entries;
  capacity : vec_capacity l.entries ≡ vec_capacity l.initial.entries;
}

abbrev pub decreases-loop-spot : goal.decreases-loop-spot
decreases-loop-spot g l = vec_len l.was
