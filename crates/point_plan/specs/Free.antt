-- Blocks that are free at a point, and what an image of the last point has of them.
use Rattle.std.specs.Prelude.{◌≡◌, ◌≤◌, ℕ, true, List, get_or}
use Rattle.vol_numbers.specs.Geometry.{layout_of}
use Rattle.vol_numbers.specs.declared.block.Block.{Block}
use Rattle.fresh_runs.specs.Laws.{AreUnused}
use Rattle.image_model.specs.Findings.{is_in_area}
use Rattle.image_model.specs.Live.{IsLive}
use Rattle.image_model.specs.Seen.{seen}
use Rattle.image_model.specs.Stands.{Stands, layout_in}
use Rattle.place_words.specs.Different.{is_among, times}
use Rattle.point_plan.specs.State.{HoldsPoint, IsOfSize}
use Rattle.point_plan.specs.declared.state.PointState.{PointState}
use Rattle.run_allocator.specs.Runs.{free_area}
use Rattle.volume_model.specs.Machine.{Machine, Rules, stored}
use Rattle.volume_model.specs.Point.{is_unused}

-- the blocks of the area that the counts in memory call free
abbrev pub free_now : PointState → List ℕ
free_now s = free_area (layout_of s.geometry) s.counts.counts

-- A free block lies in the area, is counted 0 at the last point, and nothing that the last point rests on stands there.
pub record IsFree (image : List Block) (b : ℕ) : Type 0 where
  pub area : is_in_area (layout_in image) b ≡ true
  pub uncounted : get_or (seen image).kept b 0 ≡ 0
  pub not_live : IsLive image b → ⊥

-- In an image that stands for what a machine stores, no place has a block of the area that is counted 0.
abbrev pub UncountedAreUnused : Type 0
UncountedAreUnused = (image : List Block) (m : Machine) (b : ℕ) → Stands image (stored m) → is_in_area (layout_in image) b ≡ true → get_or (seen image).kept b 0 ≡ 0 → is_unused m b ≡ true

-- What the counts in memory call free is free in the image of the last point, each block once, and no place had one of them.
pub record FreeNowIsFree : Type 0 where
  pub free : (r : Rules) (m : Machine) (image : List Block) (blocks : ℕ) (s : PointState) → HoldsPoint r m image s → IsOfSize blocks s → (b : ℕ) → is_among (free_now s) b ≡ true → IsFree image b
  pub once : (s : PointState) (b : ℕ) → times b (free_now s) ≤ 1
  pub unused : (r : Rules) (m : Machine) (image : List Block) (blocks : ℕ) (s : PointState) → HoldsPoint r m image s → IsOfSize blocks s → AreUnused m (free_now s)
