use Rattle.std.proofs.Common.{◌≡◌, ◌<◌, ◌+◌, ◌*◌, ℕ}
use Rattle.block_format.specs.Slot.{slot_part, slot_bytes}
use Rattle.dir_slots.specs.Slots.{slot_at}
use Rattle.dir_slots.proofs.directory.Directory.page.Given as goal

abbrev pub invariant-loop-j : goal.invariant-loop-j
invariant-loop-j l = (i : ℕ) → i < l.j → slot_part i l.into.bytes ≡ slot_bytes (slot_at l.self (16 * l.place + i))
