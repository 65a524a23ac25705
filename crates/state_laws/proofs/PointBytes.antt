-- After a point, places with one block have the same bytes.
use Rattle.std.proofs.Common.{◌≡◌, ℕ, zero, suc, ◌+◌, ◌<◌, ◌≤◌, Bool, true, false, List, [], ◌∷◌, ◌++◌, map, Some, None, refl, sym, ap, subst, ◌∙◌, arith}
use Rattle.std.specs.Prelude.{◌||◌, Option, All}
use Rattle.std.specs.FinMap.{find}
use Rattle.std.proofs.lemmas.List.Concat.{flat_map-cons}
use Rattle.std.proofs.lemmas.List.Elements.{All-head, All-tail}
use Rattle.place_words.specs.Different.{span, is_among, Distinct}
use Rattle.tree_model.specs.declared.report.Line.{Line}
use Rattle.tree_model.specs.declared.report.Report.{Report}
use Rattle.volume_model.specs.Cache.{is_cached}
use Rattle.volume_model.specs.Lines.{line_places, lines_places}
use Rattle.volume_model.specs.Machine.{Machine, Rules, block_at, held}
use Rattle.volume_model.specs.Places.{Spot, Places, spot_cmp, has_spot, spots_of, blocks_of, is_block, unplaced}
use Rattle.volume_model.specs.Point.{share_lines, fresh_spots, placed_after, fresh_in}
use Rattle.volume_model.specs.ReportLaws.{IsReport, HasEqualBytes, fresh_places}
use Rattle.volume_model.proofs.Cached.{found_block}
use Rattle.volume_model.proofs.LineLaws.{fresh_are_unused, placed_blocks}
use Rattle.volume_model.proofs.PlacesTold.{or_else, looked_up, long}
use Rattle.volume_model.proofs.PointSpace.{after_has, all_put_has, zero_spots}
use Rattle.volume_model.proofs.SharedBytes.{shares_equal}
use Rattle.state_laws.specs.Files.{HasSameBytes}
use Rattle.state_laws.specs.States.{is_held, KeptIsUnchanged}
use Rattle.state_laws.proofs.HeldBytes.{AllEntries, found_entry, found_spot, held_is, all_different, one_spot}

-- ---- what is shared has the bytes of its block

-- the block is cached, and held the bytes of the place
abbrev Matches : Machine → Spot → ℕ → Type 0
Matches m spot block = (is_cached m.cache block ≡ true) × (held m block ≡ Some (block_at m.tree spot))

span_entries : (Q : Spot → ℕ → Type 0) (f : ℕ → Spot × ℕ) (from n : ℕ) → ((k : ℕ) → from ≤ k → k < from + n → Q (f k).0 (f k).1) → AllEntries Q (map f (span from n))
span_entries Q f from zero each = tt
span_entries Q f from (suc n) each = (each from (omega arith) (omega arith), span_entries Q f (from + 1) n (λ k least less. each k (omega (arith, least)) (omega (arith, less))))

line_entries : (m : Machine) (l : Line) → HasEqualBytes m l → AllEntries (Matches m) (line_places l)
line_entries m l same = span_entries (Matches m) (λ (k : ℕ). ((l.number, l.place + k), l.block + k)) 0 l.length (λ k least less. same k (omega (arith, less)))

entries_append : (Q : Spot → ℕ → Type 0) (ps qs : Places) → AllEntries Q ps → AllEntries Q qs → AllEntries Q (ps ++ qs)
entries_append Q [] qs a b = b
entries_append Q (p ∷ ps) qs a b = (a.0, entries_append Q ps qs a.1 b)

lines_entries : (m : Machine) (ls : List Line) → All (HasEqualBytes m) ls → AllEntries (Matches m) (lines_places ls)
lines_entries m [] all = tt
lines_entries m (l ∷ ls) all =
    subst (AllEntries (Matches m)) (sym (flat_map-cons line_places l ls))
    (entries_append (Matches m) (line_places l) (lines_places ls) (line_entries m l (All-head (HasEqualBytes m) l ls all)) (lines_entries m ls (All-tail (HasEqualBytes m) l ls all)))

-- ---- where the block of a place comes from

module _ (r : Rules) (m : Machine) (report : Report) (is : IsReport r m report) (same : HasSameBytes m.stored_tree m.stored_places) (unchanged : KeptIsUnchanged m) where
  abbrev after : Places
  after = placed_after r m (fresh_in report)

  abbrev fresh : Places
  fresh = fresh_places r m (fresh_in report)

  -- it is a block of the last point, which held the bytes of the place; or it is a fresh one
  data Comes (spot : Spot) (block : ℕ) : Type 0 where
    old : held m block ≡ Some (block_at m.tree spot) → is_block m.stored_places block ≡ true → Comes spot block
    new : find spot_cmp spot fresh ≡ Some block → is_block m.stored_places block ≡ false → Comes spot block

  of_fresh : blocks_of fresh ≡ fresh_in report
  of_fresh = placed_blocks (fresh_spots m (lines_places (share_lines r m))) (fresh_in report) (long r m report is)

  of_new : (spot : Spot) (block : ℕ) → find spot_cmp spot fresh ≡ Some block → Comes spot block
  of_new spot block found =
      let among : is_among (fresh_in report) block ≡ true = subst (λ (bs : List ℕ). is_among bs block ≡ true) of_fresh (found_block spot fresh block found) in
      new found (fresh_are_unused.unused r m report block is.point among)

  of_shared : (spot : Spot) (block : ℕ) → find spot_cmp spot (lines_places (share_lines r m)) ≡ Some block → Comes spot block
  of_shared spot block found =
      let matches = found_entry (Matches m) (lines_places (share_lines r m)) spot block (lines_entries m (share_lines r m) (shares_equal r m is.positive is.whole)) found in
      old matches.1 (is.whole.cached block matches.0)

  of_kept : (spot : Spot) (block : ℕ) → find spot_cmp spot m.kept ≡ Some block → Comes spot block
  of_kept spot block found =
      let stored = is.whole.kept_is_stored spot block found in
      old (held_is m is.whole.stored_in_order same spot block stored ∙ ap Some (sym (unchanged spot (found_spot m.kept spot block found)))) (found_block spot m.stored_places block stored)

  comes : (spot : Spot) (block : ℕ) → find spot_cmp spot after ≡ Some block → Comes spot block
  comes spot block found = by (find spot_cmp spot fresh) (find spot_cmp spot (lines_places (share_lines r m))) (find spot_cmp spot m.kept) refl refl refl (sym (looked_up r m report is spot) ∙ found)
    where
      by : (a b c : Option ℕ) → find spot_cmp spot fresh ≡ a → find spot_cmp spot (lines_places (share_lines r m)) ≡ b → find spot_cmp spot m.kept ≡ c → or_else a (or_else b c) ≡ Some block → Comes spot block
      by (Some x) b c is_a is_b is_c e = of_new spot block (is_a ∙ e)
      by None (Some x) c is_a is_b is_c e = of_shared spot block (is_b ∙ e)
      by None None c is_a is_b is_c e = of_kept spot block (is_c ∙ e)

  once : Distinct (blocks_of fresh)
  once = subst Distinct (sym of_fresh) (all_different (fresh_in report) (fresh_are_unused.once r m report is.point))

  pub same_after : HasSameBytes m.tree after
  same_after a b block found also = by (comes a block found) (comes b block also)
    where
      same_held : (x y : List ℕ) → held m block ≡ Some x → held m block ≡ Some y → x ≡ y
      same_held x y e f = let both : Some x ≡ Some y = sym e ∙ f in cc

      by : Comes a block → Comes b block → block_at m.tree a ≡ block_at m.tree b
      by (old x p) (old y q) = same_held (block_at m.tree a) (block_at m.tree b) x y
      by (old x p) (new y q) = let never : true ≡ false = sym p ∙ q in cc
      by (new x p) (old y q) = let never : true ≡ false = sym q ∙ p in cc
      by (new x p) (new y q) = ap (block_at m.tree) (one_spot fresh a b block once x y)

  -- a block that was cached before held the bytes of each place that has it now
  pub held_after : (spot : Spot) (block : ℕ) → find spot_cmp spot after ≡ Some block → is_cached m.cache block ≡ true → held m block ≡ Some (block_at m.tree spot)
  held_after spot block found cached = by (comes spot block found)
    where
      by : Comes spot block → held m block ≡ Some (block_at m.tree spot)
      by (old x p) = x
      by (new x p) = let never : true ≡ false = sym (is.whole.cached block cached) ∙ p in cc

-- ---- which places there are

pub after_held : (r : Rules) (m : Machine) (report : Report) → IsReport r m report → (spot : Spot) → has_spot (spots_of (placed_after r m (fresh_in report))) spot ≡ is_held m spot
after_held r m report is spot =
    after_has r m (fresh_in report) is.positive is.whole (long r m report is) spot.0 spot.1
    ∙ all_put_has (unplaced m.dirty) m.kept spot.0 spot.1
    ∙ ap (λ (ss : List Spot). has_spot ss spot || has_spot (spots_of m.kept) spot) (zero_spots m.dirty)
    ∙ turn (has_spot m.dirty spot) (has_spot (spots_of m.kept) spot)
  where
    turn : (a b : Bool) → (a || b) ≡ (b || a)
    turn true true = refl
    turn true false = refl
    turn false true = refl
    turn false false = refl
