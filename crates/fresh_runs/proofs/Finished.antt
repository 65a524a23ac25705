-- What holds when all dirty places have their blocks.
use Rattle.std.proofs.Common.{◌≡◌, ◌≤◌, ℕ, ◌+◌, true, List, length, map, refl, sym, ap, subst, ◌∙◌, arith}
use Rattle.std.specs.FinMap.{is_sorted}
use Rattle.vol_numbers.specs.declared.runs.Change.{Change}
use Rattle.place_words.specs.Different.{times}
use Rattle.run_allocator.specs.Runs.{Ascends}
use Rattle.tree_model.specs.declared.report.Line.{Line}
use Rattle.volume_model.specs.Lines.{fresh_lines, lines_places}
use Rattle.volume_model.specs.Places.{Spot, Places, spot_cmp, spots_of, blocks_of}
use Rattle.volume_model.specs.Point.{placed_at}
use Rattle.volume_model.proofs.LineLaws.{placed_blocks}
use Rattle.volume_model.proofs.PointSpace.{placed_spots}
use Rattle.dirty_store.specs.Entries.{Entries}
use Rattle.fresh_runs.specs.Fresh.{AreNumbersOf, IsPartedInto, blocks_in, run_lengths, taken_for}
use Rattle.fresh_runs.specs.Inside.{ArePlaced, spots_by}
use Rattle.fresh_runs.proofs.Numbering.{lengths_by}
use Rattle.fresh_runs.proofs.Parting.{parted_for}
use Rattle.fresh_runs.proofs.Spots.{spots_all}
use Rattle.fresh_runs.proofs.Stretches.{stretches_are}

pub record AllArePlaced (spots : List Spot) (free numbers : List ℕ) (lines : List Line) (rest : List ℕ) : Type 0 where
  pub places : spots_of (lines_places lines) ≡ spots
  pub longest : lines ≡ fresh_lines (lines_places lines)
  pub by_rule : blocks_in lines ≡ taken_for free (run_lengths spots numbers)
  pub parted : IsPartedInto free (blocks_in lines) rest

pub all_placed : {T : Type 0} (es : Entries T) (free numbers : List ℕ) (lines : List Line) (rest : List ℕ) (each : List (List Change)) → is_sorted spot_cmp es ≡ true → AreNumbersOf (map (λ e. e.0) es) numbers
    → Ascends 1 free → length (map (λ e. e.0) es) ≤ length free → ArePlaced (map (λ e. e.0) es) free numbers lines rest each → AllArePlaced (map (λ e. e.0) es) free numbers lines rest
all_placed es free numbers lines rest each sorted are up enough placed =
    let ss = map (λ e. e.0) es in
    let all : spots_by ss numbers ≡ ss = spots_all es numbers sorted are in
    let whole = ap (λ (xs : List Spot). length xs) all in
    let lens = run_lengths ss numbers in
    let parted = parted_for free lens up (omega (arith, lengths_by ss numbers, whole, enough)) in
    let long : length (taken_for free lens) ≡ length ss = omega (arith, parted.many, lengths_by ss numbers, whole) in
    let places : lines_places lines ≡ placed_at ss (taken_for free lens) = placed.places ∙ ap (λ (xs : List Spot). placed_at xs (taken_for free lens)) all in
    let blocks : blocks_in lines ≡ taken_for free lens = ap blocks_of places ∙ placed_blocks ss (taken_for free lens) long in
    record {
      places = ap spots_of places ∙ placed_spots ss (taken_for free lens) long;
      longest = stretches_are lines placed.stretches;
      by_rule = blocks;
      parted = λ b. (λ i. times b (blocks i) + times b (placed.left i)) ∙ parted.parted b;
    }
