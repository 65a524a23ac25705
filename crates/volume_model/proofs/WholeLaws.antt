-- A volume that was mounted is whole, and each answer leaves it so.
use Rattle.std.proofs.Common.{◌≡◌, ℕ, Bool, true, false, not, cond, List, [], ◌∷◌, ◌++◌, filter, Some, None, refl, sym, ap, subst, ◌∙◌, append_assoc, append-nil, arith}
use Rattle.std.specs.Prelude.{◌||◌, ◌&&◌, nat_eq, Option}
use Rattle.std.specs.declared.cmp.Ordering.{Ordering}
use Rattle.std.specs.declared.cmp.Ordering.TheVariants.{Less, Equal, Greater}
use Rattle.std.specs.FinMap.{find}
use Rattle.std.specs.FinMap.Entries.{find-where_key}
use Rattle.std.proofs.lemmas.Bool.Decides.{nat_tests}
use Rattle.tree_model.specs.declared.command.Command.{Command}
use Rattle.tree_model.specs.declared.report.Report.{Report}
use Rattle.tree_model.specs.Step.{is_change}
use Rattle.tree_model.specs.Touched.{touched}
use Rattle.volume_model.specs.Done.{is_cut, cut_by, done, all_done}
use Rattle.volume_model.specs.Laws.{IsAlwaysWhole, MountedStores}
use Rattle.volume_model.specs.Legal.{is_done, when_answered}
use Rattle.volume_model.specs.Lines.{lines_places}
use Rattle.volume_model.specs.Machine.{Machine, Rules, stored, at_point}
use Rattle.volume_model.specs.Places.{Spot, Places, spot_cmp, spot_eq, spots_of, has_spot, is_block, InOrder, by_order, with_spot, with_spots, all_put}
use Rattle.volume_model.specs.Point.{after_point, placed_after, placed_at, fresh_spots, share_lines, fresh_in}
use Rattle.volume_model.specs.Whole.{IsWhole}
use Rattle.volume_model.proofs.Cached.{or_same, or_later, cache_after_blocks}
use Rattle.volume_model.proofs.Order.{second_of, spot_tie, filter_in_order, filter_spots_in_order, with_spots_in_order, all_put_in_order}

-- ---- a command that is done

-- neither cut off nor touched
abbrev stays : Machine → Command → Spot → Bool
stays m command spot = not (is_cut (cut_by m.tree command) spot) && not (has_spot (touched m.tree command) spot)

-- not cut off
abbrev left : Machine → Command → Spot → Bool
left m command spot = not (is_cut (cut_by m.tree command) spot)

is_not : (b : Bool) → not b ≡ true → b ≡ false
is_not true e = cc
is_not false e = refl

where_stays : (test : Spot → Bool) (placed : Places) (spot : Spot) (block : ℕ) → find spot_cmp spot (filter (λ (e : Spot × ℕ). test e.0) placed) ≡ Some block → find spot_cmp spot placed ≡ Some block
where_stays test placed spot block e =
    by (test spot) (sym (find-where_key spot_cmp test spot (λ x tie. ap test (sym (spot_tie spot x tie))) placed) ∙ e)
  where
    by : (t : Bool) → cond t (find spot_cmp spot placed) None ≡ Some block → find spot_cmp spot placed ≡ Some block
    by true e = e
    by false e = cc

pub same_spot : (a b : Spot) → spot_eq a b ≡ true → a ≡ b
same_spot a b e =
    let x : a.0 ≡ b.0 = grind (arith, nat_tests) in
    let y : a.1 ≡ b.1 = grind (arith, nat_tests) in
    λ i. (x i, y i)

blocks_before : (test : Spot → Bool) (placed : Places) (b : ℕ) → is_block (filter (λ (e : Spot × ℕ). test e.0) placed) b ≡ true → is_block placed b ≡ true
blocks_before test [] b e = e
blocks_before test (p ∷ ps) b e = by (test p.0) e (blocks_before test ps b)
  where
    by : (t : Bool) → is_block (cond t (p ∷ filter (λ (e : Spot × ℕ). test e.0) ps) (filter (λ (e : Spot × ℕ). test e.0) ps)) b ≡ true
        → (is_block (filter (λ (e : Spot × ℕ). test e.0) ps) b ≡ true → is_block ps b ≡ true) → (nat_eq p.1 b || is_block ps b) ≡ true
    by true e more = or_same (nat_eq p.1 b) _ _ more e
    by false e more = or_later (nat_eq p.1 b) _ (more e)

-- a spot of those that stay was one before, and passes
passes : (test : Spot → Bool) (placed : Places) (spot : Spot) → has_spot (spots_of (filter (λ (e : Spot × ℕ). test e.0) placed)) spot ≡ true → (has_spot (spots_of placed) spot ≡ true) × (test spot ≡ true)
passes test [] spot e = cc
passes test (p ∷ ps) spot e = by (test p.0) refl e (passes test ps spot)
  where
    here : (u : Bool) → spot_eq p.0 spot ≡ u → test p.0 ≡ true → (u || has_spot (spots_of (filter (λ (e : Spot × ℕ). test e.0) ps)) spot) ≡ true
        → (has_spot (spots_of (filter (λ (e : Spot × ℕ). test e.0) ps)) spot ≡ true → (has_spot (spots_of ps) spot ≡ true) × (test spot ≡ true)) → ((u || has_spot (spots_of ps) spot) ≡ true) × (test spot ≡ true)
    here true same is e more = (refl, subst (λ (s : Spot). test s ≡ true) (same_spot p.0 spot same) is)
    here false same is e more = more e

    by : (t : Bool) → test p.0 ≡ t → has_spot (spots_of (cond t (p ∷ filter (λ (e : Spot × ℕ). test e.0) ps) (filter (λ (e : Spot × ℕ). test e.0) ps))) spot ≡ true
        → (has_spot (spots_of (filter (λ (e : Spot × ℕ). test e.0) ps)) spot ≡ true → (has_spot (spots_of ps) spot ≡ true) × (test spot ≡ true)) → ((spot_eq p.0 spot || has_spot (spots_of ps) spot) ≡ true) × (test spot ≡ true)
    by true is e more = here (spot_eq p.0 spot) refl is e more
    by false is e more = let found = more e in (or_later (spot_eq p.0 spot) _ found.0, found.1)

or_none : (a b : Bool) → a ≡ false → b ≡ false → (a || b) ≡ false
or_none true b e f = cc
or_none false b e f = f

pub or_first_none : (a b : Bool) → (a || b) ≡ false → a ≡ false
or_first_none true b e = cc
or_first_none false b e = refl

pub or_second_none : (a b : Bool) → (a || b) ≡ false → b ≡ false
or_second_none true b e = cc
or_second_none false b e = e

with_spot_none : (s : Spot) (spots : List Spot) (spot : Spot) → spot_eq s spot ≡ false → has_spot spots spot ≡ false → has_spot (with_spot s spots) spot ≡ false
with_spot_none s [] spot apart none = or_none (spot_eq s spot) false apart refl
with_spot_none s (t ∷ ts) spot apart none = by (spot_cmp s t) (with_spot_none s ts spot apart (or_second_none (spot_eq t spot) _ none))
  where
    by : (o : Ordering) → has_spot (with_spot s ts) spot ≡ false → has_spot (by_order o s t ts (with_spot s ts)) spot ≡ false
    by Less more = or_none (spot_eq s spot) _ apart none
    by Equal more = none
    by Greater more = or_none (spot_eq t spot) _ (or_first_none (spot_eq t spot) _ none) more

with_spots_none : (new spots : List Spot) (spot : Spot) → has_spot new spot ≡ false → has_spot spots spot ≡ false → has_spot (with_spots new spots) spot ≡ false
with_spots_none [] spots spot apart none = none
with_spots_none (s ∷ ss) spots spot apart none =
    with_spots_none ss (with_spot s spots) spot (or_second_none (spot_eq s spot) _ apart) (with_spot_none s spots spot (or_first_none (spot_eq s spot) _ apart) none)

filter_none : (test : Spot → Bool) (spots : List Spot) (spot : Spot) → has_spot spots spot ≡ false → has_spot (filter test spots) spot ≡ false
filter_none test [] spot none = refl
filter_none test (s ∷ ss) spot none = by (test s) (filter_none test ss spot (or_second_none (spot_eq s spot) _ none))
  where
    by : (t : Bool) → has_spot (filter test ss) spot ≡ false → has_spot (cond t (s ∷ filter test ss) (filter test ss)) spot ≡ false
    by true more = or_none (spot_eq s spot) _ (or_first_none (spot_eq s spot) _ none) more
    by false more = more

pub done_whole : (m : Machine) (command : Command) → IsWhole m → IsWhole (done m command)
done_whole m command whole = record {
  stored_in_order = whole.stored_in_order;
  kept_in_order = filter_in_order (stays m command) m.kept whole.kept_in_order;
  dirty_in_order = with_spots_in_order (touched m.tree command) (filter (left m command) m.dirty) (filter_spots_in_order (left m command) m.dirty whole.dirty_in_order);
  kept_is_stored = λ spot block e. whole.kept_is_stored spot block (where_stays (stays m command) m.kept spot block e);
  kept_blocks = λ block e. whole.kept_blocks block (blocks_before (stays m command) m.kept block e);
  apart = λ spot e.
      let kept = passes (stays m command) m.kept spot e in
      let untouched = is_not _ (second_of (not (is_cut (cut_by m.tree command) spot)) _ kept.1) in
      with_spots_none (touched m.tree command) (filter (left m command) m.dirty) spot untouched (filter_none (left m command) m.dirty spot (whole.apart spot kept.0));
  cached = whole.cached;
}

all_whole : (commands : List Command) (m : Machine) → IsWhole m → IsWhole (all_done m commands)
all_whole [] m whole = whole
all_whole (command ∷ commands) m whole = all_whole commands (done m command) (done_whole m command whole)

-- ---- points

pub point_whole : (r : Rules) (m : Machine) (fresh : List ℕ) → IsWhole m → IsWhole (after_point r m fresh)
point_whole r m fresh whole = record {
  stored_in_order = placed_in_order;
  kept_in_order = placed_in_order;
  dirty_in_order = refl;
  kept_is_stored = λ spot block e. e;
  kept_blocks = λ block e. e;
  apart = λ spot e. refl;
  cached = cache_after_blocks r m (placed_after r m fresh);
}
  where
    placed_in_order : InOrder (placed_after r m fresh)
    placed_in_order =
        let shares = lines_places (share_lines r m) in
        all_put_in_order (placed_at (fresh_spots m shares) fresh) (all_put shares m.kept) (all_put_in_order shares m.kept whole.kept_in_order)

answered_whole : (r : Rules) (m : Machine) (report : Option Report) → IsWhole m → IsWhole (when_answered r m report)
answered_whole r m None whole = whole
answered_whole r m (Some report) whole = point_whole r m (fresh_in report) whole

then_whole : (t : Bool) (m : Machine) (command : Command) → IsWhole m → IsWhole (cond t (done m command) m)
then_whole true m command whole = done_whole m command whole
then_whole false m command whole = whole

pub always_whole : IsAlwaysWhole
always_whole = record {
  at_first = λ s ordered. all_whole s.records (at_point s.layout s.tree s.places s.point []) (record {
    stored_in_order = ordered;
    kept_in_order = ordered;
    dirty_in_order = refl;
    kept_is_stored = λ spot block e. e;
    kept_blocks = λ block e. e;
    apart = λ spot e. refl;
    cached = λ block e. cc;
  });
  later = λ r m command answer whole. then_whole (is_change command && is_done answer.reply) (when_answered r m answer.report) command (answered_whole r m answer.report whole);
}

-- ---- what a mounted volume stores

stored_after : (commands : List Command) (m : Machine) → stored (all_done m commands) ≡ record { layout = m.layout; tree = m.stored_tree; places = m.stored_places; records = m.records ++ commands; point = m.point }
stored_after [] m = λ i. record { layout = m.layout; tree = m.stored_tree; places = m.stored_places; records = sym (append-nil m.records) i; point = m.point }
stored_after (command ∷ commands) m =
    stored_after commands (done m command)
    ∙ (λ i. record { layout = m.layout; tree = m.stored_tree; places = m.stored_places; records = append_assoc m.records (command ∷ []) commands i; point = m.point })

pub mounted_stores : MountedStores
mounted_stores s = stored_after s.records (at_point s.layout s.tree s.places s.point [])
