-- The slots of a directory, built anew.
use Rattle.std.specs.Prelude.{ℕ, List}
use Rattle.block_format.specs.declared.slot.Slot.{Slot}
use Rattle.dirty_store.specs.Overlay.{Overlay}
use Rattle.tree_plan.specs.Pages.{slot_with, width_with}
use Rattle.point_model.specs.Holding.{slots_from}

-- all slots of a directory now, of which these are left of the last point
abbrev pub slots_with : List Slot → Overlay → ℕ → List Slot
slots_with left o n = slots_from (slot_with left o n) 0 (width_with left o n)
