use Rattle.std.proofs.Common.{◌<◌, ◌≤◌, length, vec_capacity}
use Rattle.dir_slots.specs.Index.{IsHolesFrom}
use Rattle.dir_slots.proofs.holes.holes_of.Given as goal

abbrev pub invariant-loop-i : goal.invariant-loop-i
invariant-loop-i l = record {
  holes : IsHolesFrom l.i l.slots l.holes.items;
  room : length l.slots < vec_capacity l.holes;
  within : l.i ≤ length l.slots;
}
