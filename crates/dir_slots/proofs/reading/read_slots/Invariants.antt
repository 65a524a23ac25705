use Rattle.std.proofs.Common.{◌≡◌, ◌<◌, ℕ, length, min}
use Rattle.dir_slots.specs.Reading.{IsReadAt}
use Rattle.dir_slots.proofs.reading.read_slots.Given as goal

abbrev pub invariant-loop-i : goal.invariant-loop-i
invariant-loop-i l = record {
  count : length l.slots.items ≡ min l.i l.width;
  each : (k : ℕ) → k < l.i → IsReadAt l.pages l.slots.items k;
}
