-- The places after a point, and the blocks that they have.
use Rattle.std.proofs.Common.{◌≡◌, ℕ, true, not, List, [], ◌∷◌, Some, None, refl, sym, ap, subst, ◌∙◌}
use Rattle.std.specs.Prelude.{Option}
use Rattle.std.specs.FinMap.{find}
use Rattle.place_words.specs.Different.{is_among}
use Rattle.state_laws.specs.States.{IsCoherent}
use Rattle.state_laws.specs.Files.{HasPlace}
use Rattle.state_laws.proofs.HeldBytes.{AllEntries, found_entry, found_spot, held_is}
use Rattle.state_laws.proofs.PointBytes.{after_held, held_after}
use Rattle.tree_model.specs.declared.report.Report.{Report}
use Rattle.volume_model.specs.Cache.{is_cached}
use Rattle.volume_model.specs.Lines.{lines_places}
use Rattle.volume_model.specs.Machine.{Machine, Rules, block_at, held}
use Rattle.volume_model.specs.Places.{Spot, Places, spot_cmp, has_spot, spots_of, is_block}
use Rattle.volume_model.specs.Point.{share_lines, fresh_spots, placed_after, fresh_in}
use Rattle.volume_model.specs.ReportLaws.{IsReport, fresh_places}
use Rattle.volume_model.proofs.Cached.{found_block}
use Rattle.volume_model.proofs.LineLaws.{placed_blocks}
use Rattle.volume_model.proofs.Order.{first_of}
use Rattle.volume_model.proofs.PlacesTold.{or_else, looked_up, long}
use Rattle.volume_model.proofs.PointSpace.{left_has, placed_spots}
use Rattle.volume_model.proofs.SharedPlaces.{AreShared, share_shared}

-- The block of a place after the point: one of the last point, which held the bytes of the place; or a fresh one, and the place is dirty.
pub data Comes (m : Machine) (report : Report) (spot : Spot) (block : ℕ) : Type 0 where
  old : held m block ≡ Some (block_at m.tree spot) → is_block m.stored_places block ≡ true → Comes m report spot block
  new : has_spot m.dirty spot ≡ true → is_among (fresh_in report) block ≡ true → Comes m report spot block

shared_entries : (m : Machine) (es : Places) → AreShared m es → AllEntries (λ (s : Spot) (b : ℕ). is_cached m.cache b ≡ true) es
shared_entries m [] all = tt
shared_entries m (e ∷ es) all = (all.1, shared_entries m es all.2)

module _ (r : Rules) (m : Machine) (report : Report) (coherent : IsCoherent r m) (is : IsReport r m report) where
  abbrev placed : Places
  placed = placed_after r m (fresh_in report)

  abbrev fresh : Places
  fresh = fresh_places r m (fresh_in report)

  of_new : (spot : Spot) (block : ℕ) → find spot_cmp spot fresh ≡ Some block → Comes m report spot block
  of_new spot block found =
      let spots = fresh_spots m (lines_places (share_lines r m)) in
      let there : has_spot spots spot ≡ true = subst (λ (ss : List Spot). has_spot ss spot ≡ true) (placed_spots spots (fresh_in report) (long r m report is)) (found_spot fresh spot block found) in
      new
      (first_of (has_spot m.dirty spot) _ (sym (left_has (λ (s : Spot). not (has_spot (spots_of (lines_places (share_lines r m))) s)) m.dirty spot.0 spot.1) ∙ there))
      (subst (λ (bs : List ℕ). is_among bs block ≡ true) (placed_blocks spots (fresh_in report) (long r m report is)) (found_block spot fresh block found))

  of_shared : (spot : Spot) (block : ℕ) → find spot_cmp spot placed ≡ Some block → find spot_cmp spot (lines_places (share_lines r m)) ≡ Some block → Comes m report spot block
  of_shared spot block after found =
      let cached = found_entry (λ (s : Spot) (b : ℕ). is_cached m.cache b ≡ true) (lines_places (share_lines r m)) spot block (shared_entries m (lines_places (share_lines r m)) (share_shared r m is.positive is.whole)) found in
      old (held_after r m report is coherent.mountable.same coherent.unchanged spot block after cached) (is.whole.cached block cached)

  of_kept : (spot : Spot) (block : ℕ) → find spot_cmp spot m.kept ≡ Some block → Comes m report spot block
  of_kept spot block found =
      let stored = is.whole.kept_is_stored spot block found in
      old (held_is m is.whole.stored_in_order coherent.mountable.same spot block stored ∙ ap Some (sym (coherent.unchanged spot (found_spot m.kept spot block found)))) (found_block spot m.stored_places block stored)

  pub comes : (spot : Spot) (block : ℕ) → find spot_cmp spot placed ≡ Some block → Comes m report spot block
  comes spot block found = by (find spot_cmp spot fresh) (find spot_cmp spot (lines_places (share_lines r m))) (find spot_cmp spot m.kept) refl refl refl (sym (looked_up r m report is spot) ∙ found)
    where
      by : (a b c : Option ℕ) → find spot_cmp spot fresh ≡ a → find spot_cmp spot (lines_places (share_lines r m)) ≡ b → find spot_cmp spot m.kept ≡ c → or_else a (or_else b c) ≡ Some block → Comes m report spot block
      by (Some x) b c is_a is_b is_c e = of_new spot block (is_a ∙ e)
      by None (Some x) c is_a is_b is_c e = of_shared spot block found (is_b ∙ e)
      by None None c is_a is_b is_c e = of_kept spot block (is_c ∙ e)

  -- a place that has a block is one of a file
  pub in_file : (spot : Spot) (block : ℕ) → find spot_cmp spot placed ≡ Some block → HasPlace m.tree spot
  in_file spot block found = coherent.in_files spot (sym (after_held r m report is spot) ∙ found_spot placed spot block found)
