-- What a list of directories ends as, once a `&mut` to one of them has ended.
use Rattle.std.specs.Prelude.{ℕ, List, Option}
use Rattle.std.specs.Borrow.{LendsIf, MutBor, Fml}
use Rattle.block_format.specs.declared.slot.Slot.{Slot}
use Rattle.dir_slots.specs.contracts.directory.Directory.{the_row as slots_row}
use Rattle.held_list.specs.declared.held.Held.{Held}
use Rattle.held_list.specs.Held.{with_slots}
use Rattle.held_list.specs.contracts.list.HeldList.{the_row}

-- the list ends with the last value behind the reference under the number, and at `None` as it was
abbrev pub LendsSlots : MutBor (List Held) → ℕ → Option (MutBor (List Slot)) → Fml
LendsSlots m n r = LendsIf the_row slots_row m r (with_slots m.now n) m.now
