-- The directories of a list after a point.
use Rattle.std.specs.Prelude.{ℕ, ◌==◌, Bool, false, if◌then◌else◌, List, [], Option, Some, None}
use Rattle.block_format.specs.declared.slot.Slot.{Slot}
use Rattle.dirty_store.specs.Overlay.{Overlay, node_of, least_cut}
use Rattle.held_list.specs.Held.{slots_at}
use Rattle.held_list.specs.declared.held.Held.{Held}
use Rattle.image_model.specs.Walk.{is_directory}
use Rattle.tree_plan.specs.Pages.{slots_or_none}
use Rattle.tree_plan.specs.Renewed.{slots_with}
use Rattle.point_plan.specs.declared.planned_node.PlannedNode.{PlannedNode}

-- the slots that a number has left of the last point, none where it was cut to no block since
abbrev pub left_then : List Held → Overlay → ℕ → List Slot
left_then ds o n = if least_cut (node_of o n) == 0 then [] else slots_or_none (slots_at ds n)

-- the slots of a number now, of which these directories are those of the last point
abbrev pub slots_then : List Held → Overlay → ℕ → List Slot
slots_then ds o n = slots_with (left_then ds o n) o n

-- the first of two that is there
abbrev pub first_slots : Option (List Slot) → Option (List Slot) → Option (List Slot)
first_slots None second = second
first_slots (Some slots) second = Some slots

-- the second, where the first is there
abbrev pub where_there : Option (List Slot) → Option (List Slot) → Option (List Slot)
where_there None second = None
where_there (Some slots) second = second

-- whether a number is planned as a directory
abbrev pub is_planned_directory : Option PlannedNode → Bool
is_planned_directory None = false
is_planned_directory (Some p) = is_directory p.is

-- the new slots of a planned directory, and of any other number what there is
abbrev pub built_or : (ℕ → List Slot) → Option PlannedNode → Option (List Slot) → Option (List Slot)
built_or slots None other = other
built_or slots (Some p) other = if is_directory p.is then Some (slots p.number) else other

-- the slots of a planned number after the point, none of one that is no directory, and of any other number what there is
abbrev pub slots_after : (ℕ → List Slot) → Option PlannedNode → Option (List Slot) → Option (List Slot)
slots_after slots None other = other
slots_after slots (Some p) other = if is_directory p.is then Some (slots p.number) else None

-- ---- steps, in words of private functions

-- Of a planned number the second, of any other the first.
abbrev pub if_planned : Option PlannedNode → Option (List Slot) → Option (List Slot) → Option (List Slot)
if_planned None first second = first
if_planned (Some p) first second = second

-- without what a planned directory was given that isn't among the new ones any more
abbrev pub taken_back : Option PlannedNode → Option (List Slot) → Option (List Slot) → Option (List Slot)
taken_back planned fresh now = if is_planned_directory planned then where_there fresh now else now

-- the new slots of a planned directory, else those that it has, and none of any other planned number
abbrev pub finished : Option PlannedNode → Option (List Slot) → Option (List Slot) → Option (List Slot)
finished None fresh now = now
finished (Some p) fresh now = if is_directory p.is then first_slots fresh now else None
