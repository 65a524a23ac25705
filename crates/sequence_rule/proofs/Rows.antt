-- Rows for dirty blocks.
use Rattle.std.proofs.Common.{◌≡◌, ℕ, zero, suc, ◌+◌, ◌<◌, ◌≤◌, Bool, IsTrue, List, [], ◌∷◌, ◌++◌, length, take, slice_index_or, refl, sym, ap, subst, ◌∙◌, arith, append_assoc, append-nil}
use Rattle.std.specs.List.{AllZip}
use Rattle.vol_numbers.specs.declared.block.Block.{Block}
use Rattle.volume_model.specs.Cache.{CacheList}
use Rattle.sequence_rule.specs.Matched.{IsRowOf, AreRowsOf}
use Rattle.sequence_rule.specs.Matches.{block_matches}
use Rattle.place_words.specs.Rising.{Rising, AllUnder}
use Rattle.place_words.proofs.Rising.{rising_less}
use Rattle.sequence_rule.specs.Runs.{DirtyBlock, blocks_from, dirty_blocks, places_of, dirty_places, AreRuns}
use Rattle.sequence_rule.specs.declared.dirty.DirtyRun.{DirtyRun}
use Rattle.sequence_rule.specs.declared.matched.PlaceMatches.{PlaceMatches}

-- one block more
pub blocks_more : (place : ℕ) (bs : List Block) (i : ℕ) (d : Block) → i < length bs → blocks_from place (take (i + 1) bs) ≡ blocks_from place (take i bs) ++ (place + i, slice_index_or bs i d) ∷ []
blocks_more place [] i d less = absurd (omega arith)
blocks_more place (b ∷ bs) zero d less = let same : place ≡ place + 0 = omega arith in ap (λ (n : ℕ). (n, b) ∷ []) same
blocks_more place (b ∷ bs) (suc i) d less =
    let next : suc i + 1 ≡ suc (i + 1) = omega arith in
    let at : (place + 1) + i ≡ place + suc i = omega arith in
    rw next (ap (λ (es : List DirtyBlock). (place, b) ∷ es) (blocks_more (place + 1) bs i d (omega arith) ∙ ap (λ (n : ℕ). blocks_from (place + 1) (take i bs) ++ (n, slice_index_or bs i d) ∷ []) at))

-- one run more
pub runs_more : (rs : List DirtyRun) (i : ℕ) (d : DirtyRun) → i < length rs → dirty_blocks (take (i + 1) rs) ≡ dirty_blocks (take i rs) ++ blocks_from (slice_index_or rs i d).first (slice_index_or rs i d).blocks
runs_more [] i d less = absurd (omega arith)
runs_more (r ∷ rs) zero d less = append-nil (blocks_from r.first r.blocks)
runs_more (r ∷ rs) (suc i) d less =
    let next : suc i + 1 ≡ suc (i + 1) = omega arith in
    rw next (ap (λ (es : List DirtyBlock). blocks_from r.first r.blocks ++ es) (runs_more rs i d (omega arith))
    ∙ sym (append_assoc (blocks_from r.first r.blocks) (dirty_blocks (take i rs)) (blocks_from (slice_index_or rs i d).first (slice_index_or rs i d).blocks)))

-- ---- rows

pub zip_more : {A B : Type 0} (R : A → B → Type 0) (xs : List A) (ys : List B) (x : A) (y : B) → AllZip R xs ys → R x y → AllZip R (xs ++ x ∷ []) (ys ++ y ∷ [])
zip_more R [] [] x y all own = (own, tt)
zip_more R [] (w ∷ ws) x y all own = absurd all
zip_more R (v ∷ vs) [] x y all own = absurd all
zip_more R (v ∷ vs) (w ∷ ws) x y all own = (all.0, zip_more R vs ws x y all.1 own)

-- where the disk holds what it held
pub row_stays : (tells : Bool) (cache : CacheList) (old new : List Block) (e : DirtyBlock) (r : PlaceMatches) → (IsTrue tells → old ≡ new) → IsRowOf tells cache old e r → IsRowOf tells cache new e r
row_stays tells cache old new e r same row = record {
  place = row.place;
  cached = row.cached;
  matches = λ told at. row.matches told at ∙ ap (λ (contents : List Block). block_matches cache contents e.1 at) (same told);
}

-- the rows of a run with those of one block more, which was read off a slice that is the run's
pub run_more : (tells : Bool) (cache : CacheList) (contents : List Block) (dirty : List DirtyBlock) (place : ℕ) (slice blocks : List Block) (n : ℕ) (d : Block) (rows new : List PlaceMatches) (row : PlaceMatches)
    → slice ≡ blocks → n < length slice → new ≡ rows ++ row ∷ []
    → IsRowOf tells cache contents (place + n, slice_index_or slice n d) row
    → AreRowsOf tells cache contents (dirty ++ blocks_from place (take n blocks)) rows
    → AreRowsOf tells cache contents (dirty ++ blocks_from place (take (n + 1) blocks)) new
run_more tells cache contents dirty place slice blocks n d rows new row same less pushed own are =
    let before : List DirtyBlock = blocks_from place (take n blocks) in
    let next : DirtyBlock = (place + n, slice_index_or slice n d) in
    let more : blocks_from place (take (n + 1) blocks) ≡ before ++ next ∷ [] =
    ap (λ (bs : List Block). blocks_from place (take (n + 1) bs)) (sym same) ∙ blocks_more place slice n d less ∙ ap (λ (bs : List Block). blocks_from place (take n bs) ++ next ∷ []) same in
    let both = zip_more (IsRowOf tells cache contents) (dirty ++ before) rows next row are own in
    subst (λ (es : List DirtyBlock). AreRowsOf tells cache contents es new) (append_assoc dirty before (next ∷ []) ∙ ap (λ (es : List DirtyBlock). dirty ++ es) (sym more))
    (subst (λ (rs : List PlaceMatches). AreRowsOf tells cache contents ((dirty ++ before) ++ next ∷ []) rs) (sym pushed) both)

pub rows_stay : (tells : Bool) (cache : CacheList) (old new : List Block) (es : List DirtyBlock) (rs : List PlaceMatches) → (IsTrue tells → old ≡ new) → AreRowsOf tells cache old es rs → AreRowsOf tells cache new es rs
rows_stay tells cache old new [] [] same all = tt
rows_stay tells cache old new [] (r ∷ rs) same all = absurd all
rows_stay tells cache old new (e ∷ es) [] same all = absurd all
rows_stay tells cache old new (e ∷ es) (r ∷ rs) same all = (row_stays tells cache old new e r same all.0, rows_stay tells cache old new es rs same all.1)

-- the rows of the runs so far with those of one run more, which was read off a slice that is theirs
pub all_more : (tells : Bool) (cache : CacheList) (contents now : List Block) (slice runs : List DirtyRun) (i : ℕ) (run : DirtyRun) (rows new : List PlaceMatches)
    → slice ≡ runs → i < length slice → run ≡ slice_index_or slice i run → (IsTrue tells → now ≡ contents)
    → AreRowsOf tells cache contents (dirty_blocks (take i runs)) rows
    → ((dirty : List DirtyBlock) → AreRowsOf tells cache now dirty rows → AreRowsOf tells cache now (dirty ++ blocks_from run.first run.blocks) new)
    → AreRowsOf tells cache contents (dirty_blocks (take (i + 1) runs)) new
all_more tells cache contents now slice runs i run rows new same less read stays are more =
    let so_far : List DirtyBlock = dirty_blocks (take i runs) in
    let less_too = subst (λ (rs : List DirtyRun). i < length rs) same less in
    let read_too = subst (λ (rs : List DirtyRun). run ≡ slice_index_or rs i run) same read in
    let before = rows_stay tells cache contents now so_far rows (λ told. sym (stays told)) are in
    let after = rows_stay tells cache now contents (so_far ++ blocks_from run.first run.blocks) new stays (more so_far before) in
    let next : dirty_blocks (take (i + 1) runs) ≡ so_far ++ blocks_from run.first run.blocks =
    runs_more runs i run less_too ∙ ap (λ (r : DirtyRun). so_far ++ blocks_from r.first r.blocks) (sym read_too) in
    subst (λ (es : List DirtyBlock). AreRowsOf tells cache contents es new) (sym next) after

-- ---- runs

pub run_below : (from : ℕ) (rs : List DirtyRun) (i : ℕ) (d : DirtyRun) → AreRuns from rs → i < length rs → (slice_index_or rs i d).first + length (slice_index_or rs i d).blocks ≤ 1048576
run_below from [] i d are less = absurd (omega arith)
run_below from (r ∷ rs) zero d are less = are.1.1.0
run_below from (r ∷ rs) (suc i) d are less = run_below (r.first + length r.blocks + 1) rs i d are.1.1.1 (omega arith)

-- their places rise
from_rise : (place low : ℕ) (bs : List Block) (rest : List ℕ) → low ≤ place → Rising (place + length bs) rest → Rising low (places_of (blocks_from place bs) ++ rest)
from_rise place low [] rest le rise = rising_less low (place + 0) (omega arith) rest rise
from_rise place low (b ∷ bs) rest le rise =
    let next : place + suc (length bs) ≡ (place + 1) + length bs = omega arith in
    (le, from_rise (place + 1) (place + 1) bs rest (omega arith) (subst (λ (n : ℕ). Rising n rest) next rise))

places_append : (es fs : List DirtyBlock) → places_of (es ++ fs) ≡ places_of es ++ places_of fs
places_append [] fs = refl
places_append (e ∷ es) fs = ap (λ (ns : List ℕ). e.0 ∷ ns) (places_append es fs)

pub runs_rise : (from low : ℕ) (rs : List DirtyRun) → low ≤ from → AreRuns from rs → Rising low (dirty_places rs)
runs_rise from low [] le are = tt
runs_rise from low (r ∷ rs) le are =
    let rest = runs_rise (r.first + length r.blocks + 1) (r.first + length r.blocks) rs (omega arith) are.1.1.1 in
    subst (λ (ns : List ℕ). Rising low ns) (sym (places_append (blocks_from r.first r.blocks) (dirty_blocks rs)))
    (from_rise r.first low r.blocks (dirty_places rs) (omega (arith, le, are.0)) rest)

-- and are below the limit
from_under : (place : ℕ) (bs : List Block) (rest : List ℕ) → place + length bs ≤ 1048576 → AllUnder 1048576 rest → AllUnder 1048576 (places_of (blocks_from place bs) ++ rest)
from_under place [] rest le under = under
from_under place (b ∷ bs) rest le under = (omega arith, from_under (place + 1) bs rest (omega arith) under)

pub runs_under : (from : ℕ) (rs : List DirtyRun) → AreRuns from rs → AllUnder 1048576 (dirty_places rs)
runs_under from [] are = tt
runs_under from (r ∷ rs) are =
    subst (λ (ns : List ℕ). AllUnder 1048576 ns) (sym (places_append (blocks_from r.first r.blocks) (dirty_blocks rs)))
    (from_under r.first r.blocks (dirty_places rs) are.1.1.0 (runs_under (r.first + length r.blocks + 1) rs are.1.1.1))
