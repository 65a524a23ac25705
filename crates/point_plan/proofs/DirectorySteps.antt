-- New directories that come into a list, one by one.
use Rattle.std.proofs.Common.{◌≡◌, Bool, true, false, cond, List, Option, Some, None, refl, sym, ◌∙◌}
use Rattle.std.specs.Prelude.{is_some}
use Rattle.block_format.specs.declared.slot.Slot.{Slot}
use Rattle.point_plan.specs.Directories.{first_slots, if_planned, is_planned_directory, taken_back, where_there}
use Rattle.point_plan.specs.declared.planned_node.PlannedNode.{PlannedNode}

abbrev pub Slots : Type 0
Slots = Option (List Slot)

pub first_none : (d : Slots) → first_slots d None ≡ d
first_none None = refl
first_none (Some slots) = refl

pub where_none : (d : Slots) → where_there d None ≡ None
where_none None = refl
where_none (Some slots) = refl

pub none_of : (f : Slots) → is_some f ≡ false → f ≡ None
none_of None is = refl
none_of (Some slots) is = cc

-- ---- before the first

pub added_first : (o : Option PlannedNode) (d f : Slots) → is_some f ≡ is_planned_directory o → if_planned o d (first_slots d f) ≡ first_slots d f
added_first (Some p) d f is = refl
added_first None d None is = sym (first_none d)
added_first None d (Some slots) is = cc

pub left_first : (o : Option PlannedNode) (d f : Slots) → is_some f ≡ is_planned_directory o → if_planned o f (where_there d f) ≡ where_there d f
left_first (Some p) d f is = refl
left_first None d None is = sym (where_none d)
left_first None d (Some slots) is = cc

pub back_first : (o : Option PlannedNode) (d f : Slots) → is_some f ≡ is_planned_directory o → taken_back o f d ≡ d
back_first o d f is = by (is_planned_directory o) f is
  where
    by : (t : Bool) (f : Slots) → is_some f ≡ t → cond t (where_there f d) d ≡ d
    by false f is = refl
    by true None is = cc
    by true (Some slots) is = refl

-- ---- one more

pub back_more : (t : Bool) (f d was : Slots) → cond t (where_there f d) d ≡ was → (t ≡ false → f ≡ None) → cond t (where_there (where_there d f) (first_slots d f)) (first_slots d f) ≡ was
back_more true None None was back none = back
back_more true None (Some d) was back none = back
back_more true (Some f) None was back none = back
back_more true (Some f) (Some d) was back none = back
back_more false None None was back none = back
back_more false None (Some d) was back none = back
back_more false (Some f) d was back none = let never : Some f ≡ None = none refl in cc

pub back_lost : (t : Bool) (f d was : Slots) → cond t (where_there f d) d ≡ was → d ≡ None → cond t (where_there None d) d ≡ was
back_lost true None d was back none = back
back_lost true (Some f) d was back none = sym none ∙ back
back_lost false f d was back none = back
