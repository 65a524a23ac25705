-- The bytes of files in an image in which a point is planned.
use Rattle.std.proofs.Common.{◌≡◌, ℕ, ◌+◌, ◌*◌, ◌<◌, ◌≤◌, Bool, true, false, cond, List, [], ◌∷◌, map, length, replicate, Some, None, refl, sym, ap, subst, ◌∙◌, arith, get_or}
use Rattle.std.specs.Prelude.{◌&&◌, ◌||◌, nat_eq, nat_lt, nat_le}
use Rattle.std.specs.FinMap.{find}
use Rattle.std.proofs.lemmas.Bool.{eqb-true}
use Rattle.std.proofs.lemmas.Bool.Decides.{nat_tests}
use Rattle.std.proofs.lemmas.List.{take_at}
use Rattle.vol_numbers.specs.Layout.{Layout, area_start, count_blocks}
use Rattle.vol_numbers.specs.declared.block.Block.{Block}
use Rattle.block_format.specs.declared.inode.Inode.{Inode}
use Rattle.block_format.specs.declared.inode.Inode.TheVariants.{File}
use Rattle.block_tree.specs.Tree.{blocks_in, block_below}
use Rattle.dirty_store.specs.Entries.{Entries}
use Rattle.dirty_store.specs.Overlay.{Overlay}
use Rattle.image_model.specs.Findings.{is_in_area}
use Rattle.image_model.specs.Live.{IsLive, counted}
use Rattle.image_model.specs.Met.{files, pointers_to, NoFaults}
use Rattle.image_model.specs.Seen.{seen}
use Rattle.image_model.specs.Standing.{some_block, file_block, as_block, FileStands, PlaceStands}
use Rattle.image_model.specs.Stands.{layout_in}
use Rattle.image_model.proofs.Area.{files_within, split_none, no_faults as none_found}
use Rattle.image_model.proofs.Kept.{bytes_same}
use Rattle.place_words.specs.Different.{is_among, AllWithin}
use Rattle.place_words.proofs.Counting.{among_times}
use Rattle.point_model.specs.Laws.{MayTake, IsPlannedFor}
use Rattle.point_model.specs.NodePlan.{block_of_place}
use Rattle.point_model.proofs.FilePlaces.{file_places}
use Rattle.point_model.proofs.Placed.{Comes, old as of_old, new as of_new, comes}
use Rattle.point_model.proofs.Places.{all_file_blocks}
use Rattle.state_laws.specs.Files.{zero_block}
use Rattle.state_laws.proofs.Bytes.{block_length}
use Rattle.state_laws.proofs.FilesNumbered.{HasFile, file_block as bytes_of_file}
use Rattle.state_laws.proofs.HeldBytes.{block_spot, held_is}
use Rattle.state_laws.proofs.PointBytes.{after_held}
use Rattle.tree_model.specs.declared.report.Report.{Report}
use Rattle.volume_model.specs.Machine.{Machine, Rules, block_at, bytes_numbered, held}
use Rattle.volume_model.specs.Places.{Spot, Places, spot_cmp, spot_eq, has_spot, spots_of, blocks_of as blocks_in_places, is_block}
use Rattle.volume_model.specs.Point.{placed_after, fresh_in}
use Rattle.volume_model.proofs.PlacesTold.{tie_is}

-- a block of 4,096 bytes is its first 4,096 bytes
pub block_whole : (bytes : List ℕ) → length bytes ≡ 4096 → as_block bytes ≡ bytes
block_whole bytes long = take_at bytes (replicate 4096 0) 4096 long

-- ---- spots that are found, or not

not_there : (spot : Spot) (es : Places) → find spot_cmp spot es ≡ None → has_spot (spots_of es) spot ≡ false
not_there spot [] none = refl
not_there spot (e ∷ es) none = by (spot_eq e.0 spot) (sym (ap (λ (t : Bool). cond t (Some e.1) (find spot_cmp spot es)) (tie_is spot e.0)) ∙ none) (not_there spot es)
  where
    by : (t : Bool) → cond t (Some e.1) (find spot_cmp spot es) ≡ None → (find spot_cmp spot es ≡ None → has_spot (spots_of es) spot ≡ false) → (t || has_spot (spots_of es) spot) ≡ false
    by true none more = cc
    by false none more = more none

-- a block that is staged
record IsStaged (blocks : Entries Block) (spot : Spot) : Type 0 where
  block : Block
  found : find spot_cmp spot blocks ≡ Some block

is_there : (spot : Spot) (es : Entries Block) → has_spot (map (λ e. e.0) es) spot ≡ true → IsStaged es spot
is_there spot [] is = cc
is_there spot (e ∷ es) is = by (spot_eq e.0 spot) (ap (λ (t : Bool). cond t (Some e.1) (find spot_cmp spot es)) (tie_is spot e.0)) is (is_there spot es)
  where
    by : (t : Bool) → find spot_cmp spot (e ∷ es) ≡ cond t (Some e.1) (find spot_cmp spot es) → (t || has_spot (map (λ e. e.0) es) spot) ≡ true → (has_spot (map (λ e. e.0) es) spot ≡ true → IsStaged es spot) → IsStaged (e ∷ es) spot
    by true found is more = record { block = e.1; found = found }
    by false found is more = let rest = more is in record { block = rest.block; found = found ∙ rest.found }

-- ---- live blocks

pub in_area : (g : Layout) (bs : List ℕ) → AllWithin (area_start g) g.blocks bs → (b : ℕ) → is_among bs b ≡ true → is_in_area g b ≡ true
in_area g [] all b e = cc
in_area g (c ∷ cs) all b e = by (nat_eq c b) refl e (in_area g cs all.2 b)
  where
    within : (low high k : ℕ) → low ≤ k → k < high → (nat_le low k && nat_lt k high) ≡ true
    within low high k le lt =
        let first : nat_le low k ≡ true = grind (arith, nat_tests) in
        let second : nat_lt k high ≡ true = grind (arith, nat_tests) in
        (λ i. first i && nat_lt k high) ∙ second

    by : (t : Bool) → nat_eq c b ≡ t → (t || is_among cs b) ≡ true → (is_among cs b ≡ true → is_in_area g b ≡ true) → is_in_area g b ≡ true
    by true is e more = let same : c ≡ b = eqb-true c b is in subst (λ (k : ℕ). is_in_area g k ≡ true) same (within (area_start g) g.blocks c all.0 all.1)
    by false is e more = more e

pub area_counted : (g : Layout) (b : ℕ) → is_in_area g b ≡ true → b < 1024 * count_blocks g
area_counted g b is = let lt : b < g.blocks = less (area_start g) g.blocks b is in omega (arith, lt)
  where
    less : (low high k : ℕ) → (nat_le low k && nat_lt k high) ≡ true → k < high
    less low high k is = by (nat_le low k) is
      where
        by : (t : Bool) → (t && nat_lt k high) ≡ true → k < high
        by true e = grind (arith, nat_tests)
        by false e = cc

-- Each block of a file of an image that stands for something is live.
module _ (old : List Block) (sound : (b : ℕ) → b < 1024 * count_blocks (layout_in old) → get_or (seen old).kept b 0 ≡ pointers_to b (seen old).met) (none : NoFaults (seen old).met)
    (within : AllWithin (area_start (layout_in old)) (layout_in old).blocks (files (seen old).met)) where
  file_live : (b : ℕ) → is_among (files (seen old).met) b ≡ true → IsLive old b
  file_live b among =
      let area = in_area (layout_in old) (files (seen old).met) within b among in
      counted b area (positive _ _ _ _ (sound b (area_counted (layout_in old) b area)) (split_none (seen old).met b none) (among_times b (files (seen old).met) among))
    where
      positive : (kept pointers meta file : ℕ) → kept ≡ pointers → pointers ≡ meta + file → 1 ≤ file → 0 < kept
      positive kept pointers meta file e f le = omega (arith, e, f, le)

module _ (r : Rules) (old new : List Block) (o : Overlay) (m : Machine) (report : Report) (may : MayTake r old o m report) (plan : IsPlannedFor r old new o m report)
    (old_bytes : (spot : Spot) (block : ℕ) → find spot_cmp spot m.stored_places ≡ Some block → as_block (blocks_in old block) ≡ block_at m.stored_tree spot) where
  abbrev placed : Places
  placed = placed_after r m (fresh_in report)

  -- a block of the last point is as it was
  kept_bytes : (block : ℕ) → is_block m.stored_places block ≡ true → blocks_in new block ≡ blocks_in old block
  kept_bytes block is =
      let among : is_among (files (seen old).met) block ≡ true = subst (λ (bs : List ℕ). is_among bs block ≡ true) (ap blocks_in_places may.stands.shows.places ∙ sym (all_file_blocks old)) is in
      bytes_same old new block (plan.live block (file_live old may.stands.sound.counts (none_found (layout_in old) (seen old).met (seen old).met may.stands.sound.pointers)
      (files_within (layout_in old) (seen old).met (seen old).met may.stands.sound.pointers) block among))

  -- the block of each place has the bytes of the place now
  pub placed_bytes : (spot : Spot) (block : ℕ) → find spot_cmp spot placed ≡ Some block → as_block (blocks_in new block) ≡ block_at m.tree spot
  placed_bytes spot block found = by (comes r m report may.coherent may.is_report spot block found)
    where
      same_held : (x y : List ℕ) → held m block ≡ Some x → held m block ≡ Some y → x ≡ y
      same_held x y e f = let both : Some x ≡ Some y = sym e ∙ f in cc

      by : Comes m report spot block → as_block (blocks_in new block) ≡ block_at m.tree spot
      by (of_old has stored) =
          let at = block_spot m.stored_places block may.coherent.whole.stored_in_order stored in
          let was = held_is m may.coherent.whole.stored_in_order may.coherent.mountable.same at.spot block at.found in
          ap as_block (kept_bytes block stored) ∙ old_bytes at.spot block at.found ∙ same_held _ _ was has
      by (of_new dirty fresh) =
          let staged = is_there spot o.blocks (subst (λ (ss : List Spot). has_spot ss spot ≡ true) (sym may.holds.dirty) dirty) in
          ap as_block (plan.written spot block staged.block found fresh staged.found ∙ may.holds.bytes spot staged.block staged.found) ∙ block_whole (block_at m.tree spot) (block_length (bytes_numbered spot.0 m.tree) spot.1)

  -- a place that has none reads as zeros
  pub hole_bytes : (spot : Spot) → find spot_cmp spot placed ≡ None → block_at m.tree spot ≡ zero_block
  hole_bytes spot none = may.coherent.holes spot (sym (after_held r m report may.is_report spot) ∙ not_there spot placed none)

  -- so each planned file stands
  pub file_stands : (n size height ptr : ℕ) (bytes : List ℕ) → plan.inode n ≡ File size height ptr → HasFile m.tree n bytes → FileStands (blocks_in new) bytes height ptr
  unfolding zero_block
  file_stands n size height ptr bytes is file place lt = stands (block_below (blocks_in new) height ptr place) (sym (ap (λ (x : Inode). some_block (block_of_place new x place)) is) ∙ file_places r old new o m report may plan n place size height ptr is)
    where
      is_file : block_at m.tree (n, place) ≡ file_block bytes place
      is_file = bytes_of_file m.tree (n, place) bytes may.coherent.tree file

      stands : (block : ℕ) → some_block block ≡ find spot_cmp (n, place) placed → PlaceStands (blocks_in new) block (file_block bytes place)
      stands block found = record {
        hole = λ e. sym is_file ∙ hole_bytes (n, place) (sym found ∙ ap (λ (t : Bool). cond t None (Some block)) e);
        spelled = λ e. placed_bytes (n, place) block (sym found ∙ ap (λ (t : Bool). cond t None (Some block)) e) ∙ is_file;
      }
