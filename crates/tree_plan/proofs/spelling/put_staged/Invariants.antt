use Rattle.std.proofs.Common.{◌≡◌, ◌<◌, ◌≤◌, ◌+◌, ◌*◌, ℕ}
use Rattle.std.specs.FinMap.{find}
use Rattle.block_format.specs.Slot.{slot_part}
use Rattle.volume_model.specs.Places.{spot_cmp}
use Rattle.tree_plan.specs.Pages.{part_with}
use Rattle.tree_plan.proofs.spelling.put_staged.Given as goal

abbrev pub invariant-loop-j : goal.invariant-loop-j
invariant-loop-j l =
    ((k : ℕ) → k < l.j → slot_part k l.block.bytes ≡ part_with (find spot_cmp (l.number, 16 * l.place + k) l.store.overlay.slots) (slot_part k l.fn.block.bytes))
    × ((k : ℕ) → l.j ≤ k → slot_part k l.block.bytes ≡ slot_part k l.fn.block.bytes)
