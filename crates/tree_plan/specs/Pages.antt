-- The pages of a directory, of 16 slots each.
use Rattle.std.specs.Prelude.{◌≡◌, ◌≤◌, ◌<◌, ℕ, ◌+◌, ◌*◌, ◌&&◌, max, not, nat_lt, Bool, List, [], ◌∷◌, length, map, filter, All, Option, Some, None}
use Rattle.std.specs.FinMap.{find}
use Rattle.vol_numbers.specs.declared.runs.Change.{Change}
use Rattle.vol_numbers.specs.declared.runs.Page.{Page}
use Rattle.block_format.specs.Slot.{SlotFits, slot_part, slot_bytes}
use Rattle.block_format.specs.declared.slot.Slot.{Slot}
use Rattle.dir_slots.specs.Pages.{pages_for}
use Rattle.dir_slots.specs.Slots.{slot_at}
use Rattle.dirty_store.specs.Overlay.{Overlay, width_of}
use Rattle.place_words.specs.Different.{span}
use Rattle.place_words.specs.Rising.{Rising, AllUnder}
use Rattle.point_model.specs.Holding.{slot_or}
use Rattle.point_model.specs.NodePlan.{is_changed_page}
use Rattle.volume_model.specs.Places.{spot_cmp}

-- the slots that are left of the last point, none where there is no directory
abbrev pub slots_or_none : Option (List Slot) → List Slot
slots_or_none None = []
slots_or_none (Some slots) = slots

-- Each staged slot of a directory is within the rules: it is below 65,534, and unused or with a node's number and a valid name.
pub record SlotsFit (o : Overlay) (n : ℕ) : Type 0 where
  pub width : width_of o.slots n ≤ 65534
  pub each : (k : ℕ) (slot : Slot) → find spot_cmp (n, k) o.slots ≡ Some slot → SlotFits slot

-- how wide a directory is, of which these slots are left
abbrev pub width_with : List Slot → Overlay → ℕ → ℕ
width_with left o n = max (length left) (width_of o.slots n)

-- what a slot holds: what is staged, else what is left
abbrev pub slot_with : List Slot → Overlay → ℕ → ℕ → Slot
slot_with left o n k = slot_or (find spot_cmp (n, k) o.slots) (slot_at left k)

-- the bytes spell the slots of a page
abbrev pub SpellsPage : List Slot → Overlay → ℕ → ℕ → List ℕ → Type 0
SpellsPage left o n place bytes = (j : ℕ) → j < 16 → slot_part j bytes ≡ slot_bytes (slot_with left o n (16 * place + j))

-- the bytes of a staged slot, else these
abbrev pub part_with : Option Slot → List ℕ → List ℕ
part_with None part = part
part_with (Some slot) part = slot_bytes slot

-- whether a page is written: it wasn't there, or a staged slot of it differs from what is left
abbrev pub is_written : List Slot → Overlay → ℕ → ℕ → Bool
is_written left o n place = not (nat_lt place (pages_for (length left)) && not (is_changed_page left o n place))

-- the places of the pages that are written, in order
abbrev pub written_pages : List Slot → Overlay → ℕ → List ℕ
written_pages left o n = filter (is_written left o n) (span 0 (pages_for (width_with left o n)))

-- Page by page: what is written for a place spells it, and the place's change leads to it.
abbrev pub AreSpelled : (ℕ → List ℕ → Type 0) → List ℕ → List Page → List Change → Type 0
AreSpelled Spells [] [] [] = Unit {0}
AreSpelled Spells (p ∷ ps) (q ∷ qs) (c ∷ cs) = (c.place ≡ p) × (c.block ≡ q.at) × (0 < q.at) × Spells p q.block.bytes × AreSpelled Spells ps qs cs
AreSpelled Spells ps qs cs = ⊥

-- The places of changes rise and are below a limit, and each leads to a block.
pub record AreApart (limit : ℕ) (changes : List Change) : Type 0 where
  pub rising : Rising 0 (map (λ (c : Change). c.place) changes)
  pub under : AllUnder limit (map (λ (c : Change). c.place) changes)
  pub some : All (λ (c : Change). 0 < c.block) changes
