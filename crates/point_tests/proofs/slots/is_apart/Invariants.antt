use Rattle.std.proofs.Common.{◌≡◌, ◌≢◌, ◌<◌, ℕ, true, Some}
use Rattle.std.specs.FinMap.{find}
use Rattle.block_format.specs.declared.slot.Slot.{Slot as SlotOf}
use Rattle.dir_slots.specs.Slots.{is_used, name_of}
use Rattle.volume_model.specs.Places.{spot_cmp}
use Rattle.point_tests.proofs.slots.is_apart.Given as goal

abbrev pub invariant-loop-j : goal.invariant-loop-j
invariant-loop-j l = (i : ℕ) (slot : SlotOf) → i < l.j → find spot_cmp (l.n, i) l.store.overlay.slots ≡ Some slot → is_used slot ≡ true → name_of slot ≢ l.name
