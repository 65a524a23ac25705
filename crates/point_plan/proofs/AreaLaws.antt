-- Numbers that are counted among free blocks lie in the area.
use Rattle.std.proofs.Common.{◌≡◌, ℕ, ◌+◌, ◌≤◌, Bool, true, cond, List, [], ◌∷◌, drop, take, inr, ap, arith}
use Rattle.std.specs.Prelude.{All, nat_eq}
use Rattle.std.proofs.lemmas.Bool.Decides.{nat_tests}
use Rattle.std.proofs.lemmas.List.{length-drop, length-take}
use Rattle.std.proofs.lemmas.List.Elements.{All-nil, All-cons}
use Rattle.vol_numbers.specs.Geometry.{layout_of}
use Rattle.vol_numbers.specs.Layout.{Layout, area_start}
use Rattle.block_format.specs.Index.{IsInArea, IsPointer}
use Rattle.place_words.specs.Different.{is_among, times}
use Rattle.place_words.proofs.Counting.{times_among}
use Rattle.point_plan.specs.Free.{free_now}
use Rattle.point_plan.specs.Gathered.{IsGathered, pages_in}
use Rattle.point_plan.specs.declared.gathering.Gathered.{Gathered}
use Rattle.point_plan.specs.declared.state.PointState.{PointState}
use Rattle.point_plan.proofs.FreeBlocks.{zero_of}
use Rattle.point_plan.proofs.Times.{times_append}

-- what holds of each number of a list holds of all that are no more often in another one
pub all_counted : (P : ℕ → Type 0) (all xs : List ℕ) → ((b : ℕ) → is_among all b ≡ true → P b) → ((b : ℕ) → times b xs ≤ times b all) → All P xs
all_counted P all [] each most = All-nil P
all_counted P all (x ∷ xs) each most = All-cons P x xs (each x (times_among x all (some (most x)))) (all_counted P all xs each (λ b. less b (most b)))
  where
    self : nat_eq x x ≡ true
    self = grind (arith, nat_tests)

    some : times x (x ∷ xs) ≤ times x all → 1 ≤ times x all
    some le = let one : times x (x ∷ xs) ≡ 1 + times x xs = ap (λ (t : Bool). cond t 1 0 + times x xs) self in omega (arith, le, one)

    less : (b : ℕ) → times b (x ∷ xs) ≤ times b all → times b xs ≤ times b all
    less b le = omega (arith, le)

-- a free block is one of the area
pub free_in_area : (s : PointState) (b : ℕ) → is_among (free_now s) b ≡ true → IsInArea (layout_of s.geometry) b
free_in_area s b among =
    let l : Layout = layout_of s.geometry in
    let at = zero_of (drop (area_start l) (take l.blocks s.counts.counts)) (area_start l) b among in
    (at.from, omega (arith, at.from, at.to, length-drop (area_start l) (take l.blocks s.counts.counts), length-take l.blocks s.counts.counts))

-- what is left once places and pages have their blocks lies in the area
pub left_in_area : (s : PointState) (g : Gathered) → IsGathered s g → All (IsPointer (layout_of s.geometry)) g.left
left_in_area s g gathered =
    all_counted (IsPointer (layout_of s.geometry)) (free_now s) g.left (λ b among. inr (free_in_area s b among))
    (λ b. omega (arith, gathered.parted b, times_append b (pages_in g.nodes) g.left))
