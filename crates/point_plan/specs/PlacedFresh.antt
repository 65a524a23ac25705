-- Fresh blocks for the dirty places, and when they are too few. These words are for private functions.
use Rattle.std.specs.Prelude.{◌≡◌, ◌<◌, ℕ, ◌+◌, Bool, true, IsTrue, List, length, map}
use Rattle.vol_numbers.specs.declared.block.Block.{Block}
use Rattle.dirty_store.specs.Laws.{dirty_spots}
use Rattle.dirty_store.specs.Numbers.{AreOnce, staged_numbers}
use Rattle.fresh_runs.specs.Fresh.{blocks_in as blocks_told, changes_of}
use Rattle.fresh_runs.specs.declared.placed.Placed.{Placed}
use Rattle.node_plan.specs.declared.fault.NodeFault.{NodeFault}
use Rattle.node_plan.specs.declared.fault.NodeFault.TheVariants as nodes
use Rattle.place_words.specs.Different.{times}
use Rattle.point_plan.specs.Free.{free_now}
use Rattle.point_plan.specs.PlanNodes.{StopsShort}
use Rattle.point_plan.specs.Planning.{SharesNothing}
use Rattle.point_plan.specs.State.{HoldsPoint, IsOfSize}
use Rattle.point_plan.specs.declared.fault.PlanFault.{PlanFault}
use Rattle.point_plan.specs.declared.fault.PlanFault.TheVariants.{ReadFault, Damaged, OutOfMemory, Short}
use Rattle.point_plan.specs.declared.state.PointState.{PointState}
use Rattle.run_allocator.specs.declared.free_map.TakeFault.{TakeFault}
use Rattle.run_allocator.specs.declared.free_map.TakeFault.TheVariants as takes
use Rattle.volume_model.specs.Lines.{fresh_lines, lines_places}
use Rattle.volume_model.specs.Machine.{Machine, Rules, free_of}
use Rattle.volume_model.specs.Places.{spots_of}
use Rattle.volume_model.specs.Short.{is_short}

-- The lines have the dirty places in the longest stretches, with free blocks. The changes are theirs, number by number, and the other free blocks are left.
pub record ArePlacedFresh (s : PointState) (numbers : List ℕ) (p : Placed) : Type 0 where
  pub spots : spots_of (lines_places p.lines) ≡ dirty_spots s.dirty.overlay
  pub longest : p.lines ≡ fresh_lines (lines_places p.lines)
  pub parted : (b : ℕ) → times b (blocks_told p.lines) + times b p.left ≡ times b (free_now s)
  pub changes : p.changes.items ≡ map (changes_of (lines_places p.lines)) numbers
  pub many : p.blocks ≡ length (dirty_spots s.dirty.overlay)

-- the fault of a plan of which a number can't be planned, with so many free blocks
abbrev pub as_plan_fault : NodeFault → ℕ → PlanFault
as_plan_fault nodes.ReadFault free = ReadFault
as_plan_fault (nodes.Damaged b) free = Damaged b
as_plan_fault nodes.OutOfMemory free = OutOfMemory
as_plan_fault nodes.Short free = Short free

-- the fault of a plan of which the dirty places lack blocks
abbrev pub as_taken_fault : TakeFault → PlanFault
as_taken_fault (takes.Short free) = Short free
as_taken_fault takes.OutOfMemory = OutOfMemory

-- The counts in memory call as many blocks free as the machine has. The point is short where they are fewer than places are dirty, and where the
-- planning of a number stops short.
pub record ShortPoints : Type 0 where
  pub free : (r : Rules) (m : Machine) (old : List Block) (blocks : ℕ) (s : PointState) → HoldsPoint r m old s → IsOfSize blocks s → length (free_now s) ≡ free_of m
  pub places : (r : Rules) (m : Machine) (old : List Block) (blocks : ℕ) (s : PointState) → HoldsPoint r m old s → IsOfSize blocks s → length (free_now s) < length (dirty_spots s.dirty.overlay) → is_short m ≡ true
  pub nodes : (r : Rules) (m : Machine) (old : List Block) (blocks : ℕ) (s : PointState) (numbers : List ℕ) (p : Placed) (tells : Bool) → SharesNothing r → HoldsPoint r m old s → IsOfSize blocks s
      → AreOnce (staged_numbers s.dirty.overlay) numbers → ArePlacedFresh s numbers p → StopsShort tells old s numbers p.changes.items p.left → IsTrue tells → is_short m ≡ true
