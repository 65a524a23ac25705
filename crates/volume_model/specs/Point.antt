-- Consistency points: each is a function of the state and of the fresh blocks that were chosen.
use Rattle.std.specs.Prelude.{◌≡◌, ℕ, ◌+◌, ◌^◌, ◌%◌, Bool, true, not, ◌&&◌, List, [], ◌∷◌, ◌++◌, length, filter, map, nat_eq, nat_le, nat_lt, Option, Some, None}
use Rattle.std.specs.List.{list_all, flat_map}
use Rattle.std.specs.FinMap.{find}
use Rattle.vol_numbers.specs.Layout.{area_start}
use Rattle.tree_model.specs.Tree.{Tree}
use Rattle.tree_model.specs.declared.report.Line.{Line}
use Rattle.tree_model.specs.declared.report.Report.{Report}
use Rattle.place_words.specs.Different.{different}
use Rattle.volume_model.specs.Cache.{CacheList, use_block}
use Rattle.volume_model.specs.Lines.{share_line, lines_places, fresh_lines, in_order, line_blocks, fresh_only, share_only}
use Rattle.volume_model.specs.Machine.{Machine, Rules, at_point, block_at, free_of}
use Rattle.volume_model.specs.Places.{Spot, Places, spot_cmp, has_spot, spots_of, blocks_of, is_block, all_put}
use Rattle.volume_model.specs.Sharing.{numbers_of, selected}

-- of each file the sequences that are shared, one line each
abbrev pub share_lines : Rules → Machine → List Line
share_lines r m = flat_map (λ number. map (share_line number) (selected r m number)) (numbers_of m.dirty)

-- the places that get a fresh block: those that are dirty and not shared
abbrev pub fresh_spots : Machine → Places → List Spot
fresh_spots m shares = filter (λ spot. not (has_spot (spots_of shares) spot)) m.dirty

abbrev pub placed_at : List Spot → List ℕ → Places
placed_at [] blocks = []
placed_at (spot ∷ spots) [] = []
placed_at (spot ∷ spots) (block ∷ blocks) = (spot, block) ∷ placed_at spots blocks

-- ---- the state after

-- the places after a point: what was kept, what is shared, and the fresh blocks in the order of their places
abbrev pub placed_after : Rules → Machine → List ℕ → Places
placed_after r m fresh =
    let shares = lines_places (share_lines r m) in
    all_put (placed_at (fresh_spots m shares) fresh) (all_put shares m.kept)

-- a disk block with these bytes is used, where there is one
abbrev pub use_found : Rules → List ℕ → Option ℕ → CacheList → CacheList
use_found r bytes None pairs = pairs
use_found r bytes (Some block) pairs = use_block r.capacity pairs (r.fingerprint bytes) block

-- each of these places is used, with the block that it has now
abbrev pub all_used : Rules → Tree → Places → List Spot → CacheList → CacheList
all_used r tree placed [] pairs = pairs
all_used r tree placed (s ∷ ss) pairs = all_used r tree placed ss (use_found r (block_at tree s) (find spot_cmp s placed) pairs)

-- The cache list forgets the blocks that no place has any more, and then each place that was dirty is used.
abbrev pub cache_after : Rules → Machine → Places → CacheList
cache_after r m placed = all_used r m.tree placed m.dirty (filter (λ p. is_block placed p.1) m.cache)

-- the number of the next point: behind the greatest u64 comes 0
abbrev pub next_point : Machine → ℕ
next_point m = (m.point + 1) % 2 ^ 64

-- the state after a point at which the places that aren't shared got these blocks, in order
abbrev pub after_point : Rules → Machine → List ℕ → Machine
after_point r m fresh =
    let placed = placed_after r m fresh in
    at_point m.layout m.tree placed (next_point m) (cache_after r m placed)

-- ---- the report

abbrev pub lines_of : Rules → Machine → List ℕ → List Line
lines_of r m fresh =
    let shares = share_lines r m in
    in_order (shares ++ fresh_lines (placed_at (fresh_spots m (lines_places shares)) fresh))

abbrev pub report_of : Rules → Machine → List ℕ → Report
report_of r m fresh =
    let lines = lines_of r m fresh in
    record {
      number = next_point m;
      fresh = line_blocks (fresh_only lines);
      shared = line_blocks (share_only lines);
      free = free_of (after_point r m fresh);
      lines = lines;
    }

-- a block of the area that no place had at the last point
abbrev pub is_unused : Machine → ℕ → Bool
is_unused m block = nat_le (area_start m.layout) block && nat_lt block m.layout.blocks && not (is_block m.stored_places block)

-- as many as there are places for them, all different, and unused
abbrev pub may_be_fresh : Rules → Machine → List ℕ → Bool
may_be_fresh r m fresh =
    nat_eq (length fresh) (length (fresh_spots m (lines_places (share_lines r m)))) && nat_eq (different fresh) (length fresh) && list_all (is_unused m) fresh

-- the fresh blocks that a report tells of, by place
abbrev pub fresh_in : Report → List ℕ
fresh_in report = blocks_of (lines_places (fresh_only report.lines))

-- This report is of a point: it is the one that its own fresh blocks make, and they may be fresh.
pub record IsPoint (r : Rules) (m : Machine) (report : Report) : Type 0 where
  pub may : may_be_fresh r m (fresh_in report) ≡ true
  pub is : report ≡ report_of r m (fresh_in report)
