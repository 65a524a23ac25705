-- New directories that are in the list or among the fresh ones.
use Rattle.std.proofs.Common.{◌≡◌, ℕ, Bool, true, false, cond, List, Option, Some, None, refl}
use Rattle.std.specs.Prelude.{if◌then◌else◌, is_some}
use Rattle.block_format.specs.declared.slot.Slot.{Slot}
use Rattle.image_model.specs.Walk.{is_directory}
use Rattle.point_plan.specs.Directories.{built_or, finished, first_slots, is_planned_directory, slots_after, where_there}
use Rattle.point_plan.specs.declared.planned_node.PlannedNode.{PlannedNode}
use Rattle.point_plan.proofs.DirectorySteps.{Slots, first_none}

pub built_is_some : (slots : ℕ → List Slot) (o : Option PlannedNode) → is_some (built_or slots o None) ≡ is_planned_directory o
built_is_some slots None = refl
built_is_some slots (Some p) = by (is_directory p.is)
  where
    by : (t : Bool) → is_some (if t then Some (slots p.number) else None) ≡ t
    by true = refl
    by false = refl

pub there_too : (d f : Slots) → is_some (where_there d f) ≡ true → is_some (first_slots d f) ≡ true
there_too None f some = cc
there_too (Some d) f some = refl

pub finished_is : (slots : ℕ → List Slot) (o : Option PlannedNode) (d : Slots) → finished o (where_there d (built_or slots o None)) (first_slots d (built_or slots o None)) ≡ slots_after slots o d
finished_is slots None d = first_none d
finished_is slots (Some p) d = by (is_directory p.is) d
  where
    by : (t : Bool) (d : Slots) → cond t (first_slots (where_there d (cond t (Some (slots p.number)) None)) (first_slots d (cond t (Some (slots p.number)) None))) None ≡ cond t (Some (slots p.number)) None
    by false d = refl
    by true None = refl
    by true (Some d) = refl
