-- What is read slot by slot, in words of private functions alone.
use Rattle.std.specs.Prelude.{◌≡◌, ◌<◌, ℕ, ◌*◌, ◌/◌, ◌%◌, List, length}
use Rattle.vol_numbers.specs.declared.runs.Page.{Page}
use Rattle.block_format.specs.Slot.{SpellsSlot, slot_part}
use Rattle.block_format.specs.declared.slot.Slot.{Slot}
use Rattle.dir_slots.specs.Slots.{slot_at}
use Rattle.dir_slots.specs.Pages.{bytes_at}

-- the slot i of the blocks spells that of the list
abbrev pub IsReadAt : List Page → List Slot → ℕ → Type 0
IsReadAt pages slots i = SpellsSlot (slot_at slots i) (slot_part (i % 16) (bytes_at pages (i / 16)))

pub record AreRead (pages : List Page) (width : ℕ) (slots : List Slot) : Type 0 where
  pub wide : length slots ≡ width
  pub each : (i : ℕ) → i < 16 * length pages → IsReadAt pages slots i
