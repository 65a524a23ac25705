-- Blocks that are free by the counts in memory.
use Rattle.std.proofs.Common.{◌≡◌, ℕ, zero, suc, ◌+◌, ◌-◌, ◌<◌, ◌≤◌, Bool, true, false, not, cond, List, [], ◌∷◌, length, get_or, drop, map, take, refl, sym, ap, subst, ◌∙◌, arith}
use Rattle.std.specs.Prelude.{◌==◌, ◌||◌, ◌&&◌, nat_eq, nat_le, nat_lt, if◌then◌else◌}
use Rattle.std.proofs.lemmas.Bool.Decides.{nat_tests}
use Rattle.std.proofs.lemmas.List.{get_or-drop, get_or-take, length-drop, length-take}
use Rattle.vol_numbers.specs.Geometry.{layout_of}
use Rattle.vol_numbers.specs.Layout.{Layout, IsValid, area_start}
use Rattle.vol_numbers.specs.declared.block.Block.{Block}
use Rattle.fresh_runs.specs.Laws.{AreUnused}
use Rattle.image_model.specs.Findings.{is_in_area}
use Rattle.image_model.proofs.LiveLaws.{not_live}
use Rattle.block_tree.specs.Tree.{Blocks, blocks_in}
use Rattle.image_model.specs.Met.{Met, index, page, content, past, empty, not_inode, stray, files, pointers_to}
use Rattle.image_model.specs.Seen.{seen, all_held, content_held}
use Rattle.image_model.specs.Stands.{Stands, layout_in, spot_of}
use Rattle.image_model.proofs.Area.{no_faults, split_none, among_times, not_among_times}
use Rattle.place_words.specs.Different.{is_among, times}
use Rattle.point_model.proofs.KeptPages.{pointed_live}
use Rattle.point_plan.specs.Free.{free_now, IsFree, UncountedAreUnused, FreeNowIsFree}
use Rattle.point_plan.specs.State.{HoldsPoint, IsOfSize}
use Rattle.point_plan.specs.declared.state.PointState.{PointState}
use Rattle.run_allocator.specs.Runs.{Ascends, zeros_from}
use Rattle.volume_model.specs.Machine.{Machine, Rules, stored}
use Rattle.volume_model.specs.Places.{is_block, blocks_of as blocks_in_places}
use Rattle.volume_model.specs.Point.{is_unused}

-- ---- a counted block

-- the blocks of files are those of the places
file_blocks : (read : Blocks) (ms : List Met) → files ms ≡ blocks_in_places (map spot_of (all_held (content_held read) ms))
file_blocks read [] = refl
file_blocks read (index p ∷ ms) = file_blocks read ms
file_blocks read (page n place p ∷ ms) = file_blocks read ms
file_blocks read (content n place p ∷ ms) = ap (λ (bs : List ℕ). p ∷ bs) (file_blocks read ms)
file_blocks read (past p ∷ ms) = file_blocks read ms
file_blocks read (empty p ∷ ms) = file_blocks read ms
file_blocks read (not_inode n ∷ ms) = file_blocks read ms
file_blocks read (stray n p ∷ ms) = file_blocks read ms

seen_blocks : (image : List Block) → files (seen image).met ≡ blocks_in_places (map spot_of (seen image).contents)
unfolding seen
seen_blocks image = file_blocks (blocks_in image) (seen image).met

-- a block of a place is pointed at
pointed : (image : List Block) (m : Machine) (b : ℕ) → Stands image (stored m) → is_block m.stored_places b ≡ true → 1 ≤ pointers_to b (seen image).met
pointed image m b stands is =
    let among : is_among (files (seen image).met) b ≡ true = subst (λ (bs : List ℕ). is_among bs b ≡ true) (ap blocks_in_places stands.shows.places ∙ sym (seen_blocks image)) is in
    enough _ _ _ (split_none (seen image).met b (no_faults (layout_in image) (seen image).met (seen image).met stands.sound.pointers)) (among_times b (files (seen image).met) among)
  where
    enough : (pointers meta file : ℕ) → pointers ≡ meta + file → 1 ≤ file → 1 ≤ pointers
    enough pointers meta file e le = omega (arith, e, le)

pub uncounted_are_unused : UncountedAreUnused
uncounted_are_unused image m b stands area none = by (is_block m.stored_places b) refl
  where
    within : is_in_area m.layout b ≡ true
    within = subst (λ (g : Layout). is_in_area g b ≡ true) (sym stands.layout) area

    both : (t u v : Bool) → (t && u) ≡ true → v ≡ false → (t && u && not v) ≡ true
    both true true false e f = refl
    both true true true e f = cc
    both true false v e f = cc
    both false u v e f = cc

    by : (t : Bool) → is_block m.stored_places b ≡ t → is_unused m b ≡ true
    by false is = both (nat_le (area_start m.layout) b) (nat_lt b m.layout.blocks) (is_block m.stored_places b) within is
    by true is = absurd ((not_live image stands.fits).free b area none (pointed_live image stands.sound b (pointed image m b stands is)))

-- ---- the places of zeros

pub zeros_ascend : (cs : List ℕ) (least n : ℕ) → least ≤ n → n + length cs ≤ 65536 → Ascends least (zeros_from n cs)
zeros_ascend [] least n le top = tt
zeros_ascend (c ∷ cs) least n le top = by (c == 0) (zeros_ascend cs (n + 1) (n + 1) (omega arith) (omega (arith, top))) (zeros_ascend cs least (n + 1) (omega (arith, le)) (omega (arith, top)))
  where
    by : (t : Bool) → Ascends (n + 1) (zeros_from (n + 1) cs) → Ascends least (zeros_from (n + 1) cs) → Ascends least (if t then n ∷ zeros_from (n + 1) cs else zeros_from (n + 1) cs)
    by true next rest = (le, omega (arith, top), next)
    by false next rest = rest

-- a place of a zero
pub record IsZeroOf (cs : List ℕ) (n b : ℕ) : Type 0 where
  pub from : n ≤ b
  pub to : b < n + length cs
  pub zero_there : get_or cs (b - n) 1 ≡ 0

pub zero_of : (cs : List ℕ) (n b : ℕ) → is_among (zeros_from n cs) b ≡ true → IsZeroOf cs n b
zero_of [] n b among = cc
zero_of (c ∷ cs) n b among = by (c == 0) refl among (zero_of cs (n + 1) b)
  where
    later : IsZeroOf cs (n + 1) b → IsZeroOf (c ∷ cs) n b
    later at =
        let one : b - n ≡ suc (b - (n + 1)) = omega (arith, at.from) in
        record { from = omega (arith, at.from); to = omega (arith, at.to); zero_there = ap (λ (k : ℕ). get_or (c ∷ cs) k 1) one ∙ at.zero_there }

    here : c ≡ 0 → (u : Bool) → nat_eq n b ≡ u → (u || is_among (zeros_from (n + 1) cs) b) ≡ true → (is_among (zeros_from (n + 1) cs) b ≡ true → IsZeroOf cs (n + 1) b) → IsZeroOf (c ∷ cs) n b
    here z true is e more =
        let same : n ≡ b = grind (arith, nat_tests) in
        let none : b - n ≡ 0 = omega (arith, same) in
        record { from = omega (arith, same); to = omega (arith, same); zero_there = ap (λ (k : ℕ). get_or (c ∷ cs) k 1) none ∙ z }
    here z false is e more = later (more e)

    by : (t : Bool) → (c == 0) ≡ t → is_among (if t then n ∷ zeros_from (n + 1) cs else zeros_from (n + 1) cs) b ≡ true → (is_among (zeros_from (n + 1) cs) b ≡ true → IsZeroOf cs (n + 1) b) → IsZeroOf (c ∷ cs) n b
    by true is e more = let z : c ≡ 0 = grind (arith, nat_tests) in here z (nat_eq n b) refl e more
    by false is e more = later (more e)

-- a number before all of them isn't there
before_all : (cs : List ℕ) (n k : ℕ) → n < k → times n (zeros_from k cs) ≡ 0
before_all cs n k lt = by (is_among (zeros_from k cs) n) refl
  where
    by : (t : Bool) → is_among (zeros_from k cs) n ≡ t → times n (zeros_from k cs) ≡ 0
    by false is = not_among_times n (zeros_from k cs) is
    by true is = absurd (omega (arith, (zero_of cs k n is).from, lt))

-- no number is there twice
zeros_once : (cs : List ℕ) (n b : ℕ) → times b (zeros_from n cs) ≤ 1
zeros_once [] n b = omega arith
zeros_once (c ∷ cs) n b = by (c == 0) (zeros_once cs (n + 1) b)
  where
    step : (u : Bool) → nat_eq n b ≡ u → times b (zeros_from (n + 1) cs) ≤ 1 → cond u 1 0 + times b (zeros_from (n + 1) cs) ≤ 1
    step true is rest =
        let same : n ≡ b = grind (arith, nat_tests) in
        omega (arith, before_all cs b (n + 1) (omega (arith, same)))
    step false is rest = omega (arith, rest)

    by : (t : Bool) → times b (zeros_from (n + 1) cs) ≤ 1 → times b (if t then n ∷ zeros_from (n + 1) cs else zeros_from (n + 1) cs) ≤ 1
    by true rest = step (nat_eq n b) refl rest
    by false rest = rest

-- ---- the free blocks of a state

-- what is read of a list from a place on, up to another
inside : (counts : List ℕ) (a n b : ℕ) → a ≤ b → b < a + length (drop a (take n counts)) → (b < n) × (get_or (drop a (take n counts)) (b - a) 1 ≡ get_or counts b 1) × (b < length counts)
inside counts a n b le lt =
    let long : b < length (take n counts) = omega (arith, lt, length-drop a (take n counts), le) in
    let top : b < n = omega (arith, long, length-take n counts) in
    let at : a + (b - a) ≡ b = omega (arith, le) in (
      top,
      get_or-drop a (take n counts) (b - a) 1 ∙ ap (λ (k : ℕ). get_or (take n counts) k 1) at ∙ get_or-take n counts b 1 top,
      omega (arith, long, length-take n counts),
    )

other_default : (xs : List ℕ) (b d e : ℕ) → b < length xs → get_or xs b d ≡ get_or xs b e
other_default [] b d e lt = absurd (omega (arith, lt))
other_default (x ∷ xs) zero d e lt = refl
other_default (x ∷ xs) (suc b) d e lt = other_default xs b d e (omega (arith, lt))

module _ (r : Rules) (m : Machine) (image : List Block) (blocks : ℕ) (s : PointState) (holds : HoldsPoint r m image s) (sized : IsOfSize blocks s) where
  abbrev g : Layout
  g = layout_of s.geometry

  layout_is : g ≡ layout_in image
  layout_is = sym (ap layout_of sized.root) ∙ ap (λ x. x.layout) holds.root

  valid : IsValid g
  valid = subst IsValid (sym layout_is) holds.stands.fits.geometry.valid

  free : (b : ℕ) → is_among (free_now s) b ≡ true → IsFree image b
  free b among =
      let at = zero_of (drop (area_start g) (take g.blocks s.counts.counts)) (area_start g) b among in
      let there = inside s.counts.counts (area_start g) g.blocks b at.from at.to in
      let count : get_or s.counts.counts b 0 ≡ 0 = other_default s.counts.counts b 0 1 there.2 ∙ sym there.1 ∙ at.zero_there in
      let kept : get_or (seen image).kept b 0 ≡ 0 = subst (λ (cs : List ℕ). get_or cs b 0 ≡ 0) holds.counts count in
      let area : is_in_area (layout_in image) b ≡ true = subst (λ (x : Layout). is_in_area x b ≡ true) layout_is (within (area_start g) g.blocks at.from there.0) in
      record { area = area; uncounted = kept; not_live = (not_live image holds.stands.fits).free b area kept }
    where
      within : (low high : ℕ) → low ≤ b → b < high → (nat_le low b && nat_lt b high) ≡ true
      within low high le lt =
          let first : nat_le low b ≡ true = grind (arith, nat_tests) in
          let second : nat_lt b high ≡ true = grind (arith, nat_tests) in
          (λ i. first i && nat_lt b high) ∙ second

  unused : AreUnused m (free_now s)
  unused = record {
    ascend = zeros_ascend (drop (area_start g) (take g.blocks s.counts.counts)) 1 (area_start g) (omega arith)
        (omega (arith, valid.blocks_at_most, valid.area_at_least, length-drop (area_start g) (take g.blocks s.counts.counts), length-take g.blocks s.counts.counts));
    unused = λ b among. let is = free b among in uncounted_are_unused image m b holds.stands is.area is.uncounted;
  }

pub free_now_is_free : FreeNowIsFree
free_now_is_free = record {
  free = λ r m image blocks s holds sized. free r m image blocks s holds sized;
  once = λ s b. zeros_once (drop (area_start (layout_of s.geometry)) (take (layout_of s.geometry).blocks s.counts.counts)) (area_start (layout_of s.geometry)) b;
  unused = λ r m image blocks s holds sized. unused r m image blocks s holds sized;
}
