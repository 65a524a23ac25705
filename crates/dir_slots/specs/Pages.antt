-- The blocks of a directory.
use Rattle.std.specs.Prelude.{◌≡◌, ◌<◌, ℕ, zero, suc, ◌+◌, ◌*◌, ◌/◌, List, [], ◌∷◌, length}
use Rattle.vol_numbers.specs.declared.runs.Page.{Page}
use Rattle.block_format.specs.Slot.{slot_part, slot_bytes}
use Rattle.block_format.specs.declared.slot.Slot.{Slot}
use Rattle.dir_slots.specs.Slots.{slot_at, IsDirectory}

-- how many blocks so many slots take, 16 a block
abbrev pub pages_for : ℕ → ℕ
pages_for width = (width + 15) / 16

-- The block of a place has these bytes: each of its 16 slots is spelled, and those from the width on are unused.
abbrev pub IsPage : List Slot → ℕ → List ℕ → Type 0
IsPage slots place bytes = (j : ℕ) → j < 16 → slot_part j bytes ≡ slot_bytes (slot_at slots (16 * place + j))

-- the bytes of the block of a place
abbrev pub bytes_at : List Page → ℕ → List ℕ
bytes_at [] place = []
bytes_at (page ∷ pages) zero = page.block.bytes
bytes_at (page ∷ pages) (suc place) = bytes_at pages place

-- The blocks, by place, spell this directory.
pub record SpellsDirectory (pages : List Page) (slots : List Slot) : Type 0 where
  pub directory : IsDirectory slots
  pub count : length pages ≡ pages_for (length slots)
  pub each : (place : ℕ) → place < length pages → IsPage slots place (bytes_at pages place)
