-- After a point each place of a line has its block, and each place that wasn't dirty what was kept of it.
use Rattle.std.proofs.Common.{◌≡◌, ℕ, zero, suc, ◌+◌, ◌<◌, ◌≤◌, Bool, true, false, not, cond, List, [], ◌∷◌, ◌++◌, length, map, Some, None, refl, sym, ap, subst, ◌∙◌, arith}
use Rattle.std.specs.Prelude.{◌&&◌, nat_eq, Option, All}
use Rattle.std.specs.declared.cmp.Ordering.{Ordering}
use Rattle.std.specs.declared.cmp.Ordering.TheVariants.{Less, Equal, Greater}
use Rattle.std.specs.Ordering.{is_eq, eq_by_cmp}
use Rattle.std.specs.Cmp.{tied_itself}
use Rattle.std.specs.FinMap.{find, put}
use Rattle.std.specs.FinMap.Entries.{find-put}
use Rattle.std.proofs.lemmas.List.Elements.{All-nil, All-cons, All-head, All-tail, All-append, All-weaker}
use Rattle.std.proofs.lemmas.Bool.Decides.{nat_tests}
use Rattle.place_words.specs.Different.{span}
use Rattle.tree_model.specs.declared.report.Line.{Line}
use Rattle.tree_model.specs.declared.report.Report.{Report}
use Rattle.volume_model.specs.Lines.{line_places, lines_places, fresh_lines, comes_first, with_line, in_order}
use Rattle.volume_model.specs.Machine.{Machine, Rules}
use Rattle.volume_model.specs.Places.{Spot, Places, spot_cmp, spot_eq, has_spot, spots_of, all_put}
use Rattle.volume_model.specs.Point.{share_lines, fresh_spots, placed_after, fresh_in}
use Rattle.volume_model.specs.ReportLaws.{IsReport, has_place, lines_with, AreApart, HasItsBlocks, PlacesAreTold, fresh_places}
use Rattle.volume_model.proofs.LineCounts.{one_if, spot_times, line_times, lines_times, some_times, no_times, share_once, fresh_times, are_apart}
use Rattle.volume_model.proofs.LineLaws.{lines_cons, lines_places-fresh_lines}
use Rattle.volume_model.proofs.Order.{spot_total, spot_tie}
use Rattle.volume_model.proofs.PointSpace.{shared_has, left_has, placed_spots, long_as}
use Rattle.volume_model.proofs.SharedPlaces.{share_shared}
use Rattle.volume_model.proofs.WholeLaws.{same_spot, or_first_none, or_second_none}

-- ---- look-ups

abbrev pub or_else : Option ℕ → Option ℕ → Option ℕ
or_else None later = later
or_else (Some block) later = Some block

itself : (a : Spot) → spot_eq a a ≡ true
itself a = grind (arith, nat_tests)

tied : (o : Ordering) → is_eq o ≡ true → o ≡ Equal
tied Less e = cc
tied Equal e = refl
tied Greater e = cc

pub same_by_cmp : (a b : Spot) → eq_by_cmp spot_cmp a b ≡ true → a ≡ b
same_by_cmp a b e = spot_tie a b (tied (spot_cmp a b) e)

cmp_itself : (a : Spot) → eq_by_cmp spot_cmp a a ≡ true
cmp_itself a = ap is_eq (tied_itself spot_total a)

pub tie_is : (a b : Spot) → eq_by_cmp spot_cmp a b ≡ spot_eq b a
tie_is a b = by (eq_by_cmp spot_cmp a b) (spot_eq b a) refl refl
  where
    by : (t u : Bool) → eq_by_cmp spot_cmp a b ≡ t → spot_eq b a ≡ u → t ≡ u
    by true true e f = refl
    by false false e f = refl
    by true false e f = let own : spot_eq b a ≡ true = subst (λ (x : Spot). spot_eq x a ≡ true) (same_by_cmp a b e) (itself a) in sym own ∙ f
    by false true e f = let own : eq_by_cmp spot_cmp a b ≡ true = subst (λ (x : Spot). eq_by_cmp spot_cmp a x ≡ true) (sym (same_spot b a f)) (cmp_itself a) in sym e ∙ own

pub find_none : (spot : Spot) (es : Places) → has_spot (spots_of es) spot ≡ false → find spot_cmp spot es ≡ None
find_none spot [] none = refl
find_none spot (e ∷ es) none =
    ap (λ (t : Bool). cond t (Some e.1) (find spot_cmp spot es)) (tie_is spot e.0 ∙ or_first_none (spot_eq e.0 spot) _ none) ∙ find_none spot es (or_second_none (spot_eq e.0 spot) _ none)

none_there : (spots : List Spot) (spot : Spot) → spot_times spots spot ≡ 0 → has_spot spots spot ≡ false
none_there spots spot e = by (has_spot spots spot) refl
  where
    by : (t : Bool) → has_spot spots spot ≡ t → t ≡ false
    by true has = absurd (omega (arith, e, some_times spots spot has))
    by false has = refl

-- of spots that stand there once
find_all_put : (spot : Spot) (es placed : Places) → spot_times (spots_of es) spot ≤ 1 → find spot_cmp spot (all_put es placed) ≡ or_else (find spot_cmp spot es) (find spot_cmp spot placed)
find_all_put spot [] placed once = refl
find_all_put spot (e ∷ es) placed once = by (spot_eq e.0 spot) refl once (find_all_put spot es (put spot_cmp e.0 e.1 placed))
  where
    new : (t : Bool) → spot_eq e.0 spot ≡ t → find spot_cmp spot (put spot_cmp e.0 e.1 placed) ≡ cond t (Some e.1) (find spot_cmp spot placed)
    new t is = find-put spot_cmp spot_total spot e.0 e.1 placed ∙ ap (λ (t : Bool). cond t (Some e.1) (find spot_cmp spot placed)) (tie_is spot e.0 ∙ is)

    first : (t : Bool) → spot_eq e.0 spot ≡ t → cond t (Some e.1) (find spot_cmp spot es) ≡ find spot_cmp spot (e ∷ es)
    first t is = ap (λ (t : Bool). cond t (Some e.1) (find spot_cmp spot es)) (sym (tie_is spot e.0 ∙ is))

    by : (t : Bool) → spot_eq e.0 spot ≡ t → one_if t + spot_times (spots_of es) spot ≤ 1
        → (spot_times (spots_of es) spot ≤ 1 → find spot_cmp spot (all_put es (put spot_cmp e.0 e.1 placed)) ≡ or_else (find spot_cmp spot es) (find spot_cmp spot (put spot_cmp e.0 e.1 placed)))
        → find spot_cmp spot (all_put es (put spot_cmp e.0 e.1 placed)) ≡ or_else (find spot_cmp spot (e ∷ es)) (find spot_cmp spot placed)
    by true is once more =
        let gone : find spot_cmp spot es ≡ None = find_none spot es (none_there (spots_of es) spot (omega (arith, once))) in
        more (omega (arith, once)) ∙ ap (λ (o : Option ℕ). or_else o (find spot_cmp spot (put spot_cmp e.0 e.1 placed))) gone ∙ new true is ∙ ap (λ (o : Option ℕ). or_else o (find spot_cmp spot placed)) (first true is)
    by false is once more =
        more (omega (arith, once)) ∙ ap (or_else (find spot_cmp spot es)) (new false is) ∙ ap (λ (o : Option ℕ). or_else o (find spot_cmp spot placed)) (first false is)

find_append : (spot : Spot) (ps qs : Places) → find spot_cmp spot (ps ++ qs) ≡ or_else (find spot_cmp spot ps) (find spot_cmp spot qs)
find_append spot [] qs = refl
find_append spot (p ∷ ps) qs = by (eq_by_cmp spot_cmp spot p.0) (find_append spot ps qs)
  where
    by : (t : Bool) → find spot_cmp spot (ps ++ qs) ≡ or_else (find spot_cmp spot ps) (find spot_cmp spot qs)
        → cond t (Some p.1) (find spot_cmp spot (ps ++ qs)) ≡ or_else (cond t (Some p.1) (find spot_cmp spot ps)) (find spot_cmp spot qs)
    by true more = refl
    by false more = more

-- ---- the places of lines

span_find : (n p d j from len : ℕ) → from ≤ j → j < from + len → find spot_cmp (n, p + j) (map (λ (k : ℕ). ((n, p + k), d + k)) (span from len)) ≡ Some (d + j)
span_find n p d j from zero least less = absurd (omega (arith, least, less))
span_find n p d j from (suc len) least less = by (nat_eq from j) refl (span_find n p d j (from + 1) len)
  where
    rest : Option ℕ
    rest = find spot_cmp (n, p + j) (map (λ (k : ℕ). ((n, p + k), d + k)) (span (from + 1) len))

    here : spot_eq (n, p + from) (n, p + j) ≡ nat_eq from j
    here = same n p from j
      where
        same : (n p a b : ℕ) → spot_eq (n, p + a) (n, p + b) ≡ nat_eq a b
        same n p a b = grind (arith, nat_tests)

    by : (t : Bool) → nat_eq from j ≡ t → (from + 1 ≤ j → j < from + 1 + len → find spot_cmp (n, p + j) (map (λ (k : ℕ). ((n, p + k), d + k)) (span (from + 1) len)) ≡ Some (d + j))
        → cond (eq_by_cmp spot_cmp (n, p + j) (n, p + from)) (Some (d + from)) (find spot_cmp (n, p + j) (map (λ (k : ℕ). ((n, p + k), d + k)) (span (from + 1) len))) ≡ Some (d + j)
    by true is more =
        let own : from ≡ j = grind (arith, nat_tests) in
        ap (λ (t : Bool). cond t (Some (d + from)) rest) (tie_is (n, p + j) (n, p + from) ∙ here ∙ is) ∙ ap (λ (k : ℕ). Some (d + k)) own
    by false is more =
        let apart : from + 1 ≤ j = grind (arith, nat_tests) in
        ap (λ (t : Bool). cond t (Some (d + from)) rest) (tie_is (n, p + j) (n, p + from) ∙ here ∙ is) ∙ more apart (omega (arith, less))

line_find : (l : Line) (k : ℕ) → k < l.length → find spot_cmp (l.number, l.place + k) (line_places l) ≡ Some (l.block + k)
line_find l k less = span_find l.number l.place l.block k 0 l.length (omega arith) (omega (arith, less))

in_line : (l : Line) (k : ℕ) → k < l.length → has_place l (l.number, l.place + k) ≡ true
in_line l k less = grind (arith, nat_tests)

-- what a line has, lines have that stand apart
behind_line : (l : Line) (ls : List Line) (m : Line) → AreApart (l ∷ ls) → ((k : ℕ) → k < m.length → 1 ≤ lines_with ls (m.number, m.place + k)) → HasItsBlocks (lines_places ls) m → HasItsBlocks (lines_places (l ∷ ls)) m
behind_line l ls m apart within told k less =
    ap (find spot_cmp (m.number, m.place + k)) (lines_cons l ls) ∙ find_append (m.number, m.place + k) (line_places l) (lines_places ls)
    ∙ ap (λ (o : Option ℕ). or_else o (find spot_cmp (m.number, m.place + k) (lines_places ls))) (by (has_place l (m.number, m.place + k)) refl) ∙ told k less
  where
    by : (t : Bool) → has_place l (m.number, m.place + k) ≡ t → find spot_cmp (m.number, m.place + k) (line_places l) ≡ None
    by true is = absurd (omega (arith, apart.0 (m.number, m.place + k) is, within k less))
    by false is = find_none (m.number, m.place + k) (line_places l) (none_there (spots_of (line_places l)) (m.number, m.place + k) (line_times l (m.number, m.place + k) ∙ ap one_if is))

first_line : (l : Line) (ls : List Line) → HasItsBlocks (lines_places (l ∷ ls)) l
first_line l ls k less =
    ap (find spot_cmp (l.number, l.place + k)) (lines_cons l ls) ∙ find_append (l.number, l.place + k) (line_places l) (lines_places ls)
    ∙ ap (λ (o : Option ℕ). or_else o (find spot_cmp (l.number, l.place + k) (lines_places ls))) (line_find l k less)

-- each place of these is in one of those
abbrev Within : List Line → Line → Type 0
Within ls m = (k : ℕ) → k < m.length → 1 ≤ lines_with ls (m.number, m.place + k)

within_later : (l : Line) (ls : List Line) (m : Line) → Within ls m → Within (l ∷ ls) m
within_later l ls m within k less = omega (arith, within k less)

within_first : (l : Line) (ls : List Line) → Within (l ∷ ls) l
within_first l ls k less = subst (λ (t : Bool). 1 ≤ one_if t + lines_with ls (l.number, l.place + k)) (sym (in_line l k less)) (omega arith)

-- the places of a line are among these, and have its blocks there
abbrev Told : List Line → Line → Type 0
Told ls m = Within ls m × HasItsBlocks (lines_places ls) m

all_told : (ls : List Line) → AreApart ls → All (Told ls) ls
all_told [] apart = All-nil (Told [])
all_told (l ∷ ls) apart =
    All-cons (Told (l ∷ ls)) l ls (within_first l ls, first_line l ls)
    (All-weaker (Told ls) (Told (l ∷ ls)) (λ m told. (within_later l ls m told.0, behind_line l ls m apart told.0 told.1)) ls (all_told ls apart.1))

-- ---- lines in order

all_with : (Q : Line → Type 0) (l : Line) (ls : List Line) → Q l → All Q ls → All Q (with_line l ls)
all_with Q l [] own all = All-cons Q l [] own (All-nil Q)
all_with Q l (m ∷ ms) own all = by (comes_first l m) (all_with Q l ms own (All-tail Q m ms all))
  where
    by : (t : Bool) → All Q (with_line l ms) → All Q (cond t (l ∷ m ∷ ms) (m ∷ with_line l ms))
    by true more = All-cons Q l (m ∷ ms) own all
    by false more = All-cons Q m (with_line l ms) (All-head Q m ms all) more

all_in_order : (Q : Line → Type 0) (ls : List Line) → All Q ls → All Q (in_order ls)
all_in_order Q [] all = all
all_in_order Q (l ∷ ls) all = all_with Q l (in_order ls) (All-head Q l ls all) (all_in_order Q ls (All-tail Q l ls all))

-- ---- the places after the point

module _ (r : Rules) (m : Machine) (report : Report) (is : IsReport r m report) where
  abbrev pub shares : Places
  shares = lines_places (share_lines r m)

  abbrev pub new : Places
  new = fresh_places r m (fresh_in report)

  pub long : length (fresh_in report) ≡ length (fresh_spots m shares)
  long = long_as r m (fresh_in report) is.point.may

  new_spots : (spot : Spot) → has_spot (spots_of new) spot ≡ (has_spot m.dirty spot && not (has_spot (spots_of shares) spot))
  new_spots spot = ap (λ (ss : List Spot). has_spot ss spot) (placed_spots (fresh_spots m shares) (fresh_in report) long) ∙ left_has (λ (s : Spot). not (has_spot (spots_of shares) s)) m.dirty spot.0 spot.1

  new_lines : (spot : Spot) → lines_with (fresh_lines new) spot ≤ 1
  new_lines spot = by (has_spot (spots_of shares) spot) (has_spot m.dirty spot) (fresh_times r m (fresh_in report) spot is.whole.dirty_in_order long)
    where
      by : (s d : Bool) → lines_with (fresh_lines new) spot ≡ cond (not s) (cond d 1 0) 0 → lines_with (fresh_lines new) spot ≤ 1
      by true d e = omega (arith, e)
      by false true e = omega (arith, e)
      by false false e = omega (arith, e)

  new_once : (spot : Spot) → spot_times (spots_of new) spot ≤ 1
  new_once spot =
      let counted = ap (λ (es : Places). spot_times (spots_of es) spot) (lines_places-fresh_lines new) in
      omega (arith, counted, lines_times (fresh_lines new) spot, new_lines spot)

  shares_once : (spot : Spot) → spot_times (spots_of shares) spot ≤ 1
  shares_once spot = omega (arith, lines_times (share_lines r m) spot, share_once r m spot is.positive is.whole.dirty_in_order)

  pub looked_up : (spot : Spot) → find spot_cmp spot (placed_after r m (fresh_in report)) ≡ or_else (find spot_cmp spot new) (or_else (find spot_cmp spot shares) (find spot_cmp spot m.kept))
  looked_up spot = find_all_put spot new (all_put shares m.kept) (new_once spot) ∙ ap (or_else (find spot_cmp spot new)) (find_all_put spot shares m.kept (shares_once spot))

  not_new : (spot : Spot) → (has_spot m.dirty spot && not (has_spot (spots_of shares) spot)) ≡ false → find spot_cmp spot new ≡ None
  not_new spot none = find_none spot new (new_spots spot ∙ none)

  shared_told : (l : Line) → Told (share_lines r m) l → HasItsBlocks (placed_after r m (fresh_in report)) l
  shared_told l told k less =
      looked_up spot ∙ ap (λ (o : Option ℕ). or_else o (or_else (find spot_cmp spot shares) (find spot_cmp spot m.kept))) (by (has_spot (spots_of shares) spot) refl)
      ∙ ap (λ (o : Option ℕ). or_else o (find spot_cmp spot m.kept)) (told.1 k less)
    where
      spot : Spot
      spot = (l.number, l.place + k)

      none : (d : Bool) → (d && not true) ≡ false
      none true = refl
      none false = refl

      by : (t : Bool) → has_spot (spots_of shares) (l.number, l.place + k) ≡ t → find spot_cmp (l.number, l.place + k) new ≡ None
      by true has = not_new (l.number, l.place + k) (ap (λ (t : Bool). has_spot m.dirty (l.number, l.place + k) && not t) has ∙ none (has_spot m.dirty (l.number, l.place + k)))
      by false has = absurd (omega (arith, lines_times (share_lines r m) (l.number, l.place + k), no_times (spots_of shares) (l.number, l.place + k) has, told.0 k less))

  fresh_told : (l : Line) → Told (fresh_lines new) l → HasItsBlocks (placed_after r m (fresh_in report)) l
  fresh_told l told k less =
      let spot : Spot = (l.number, l.place + k) in
      looked_up spot ∙ ap (λ (o : Option ℕ). or_else o (or_else (find spot_cmp spot shares) (find spot_cmp spot m.kept))) (ap (find spot_cmp spot) (sym (lines_places-fresh_lines new)) ∙ told.1 k less)

  lines_told : All (HasItsBlocks (placed_after r m (fresh_in report))) report.lines
  lines_told =
      let Q : Line → Type 0 = HasItsBlocks (placed_after r m (fresh_in report)) in
      let shared = All-weaker (Told (share_lines r m)) Q shared_told (share_lines r m) (all_told (share_lines r m) (are_apart (share_lines r m) (λ spot. share_once r m spot is.positive is.whole.dirty_in_order))) in
      let fresh = All-weaker (Told (fresh_lines new)) Q fresh_told (fresh_lines new) (all_told (fresh_lines new) (are_apart (fresh_lines new) new_lines)) in
      subst (All Q) (sym (ap (λ (p : Report). p.lines) is.point.is)) (all_in_order Q (share_lines r m ++ fresh_lines new) (All-append Q (share_lines r m) (fresh_lines new) shared fresh))

  others_told : (spot : Spot) → has_spot m.dirty spot ≡ false → find spot_cmp spot (placed_after r m (fresh_in report)) ≡ find spot_cmp spot m.kept
  others_told spot clean =
      looked_up spot ∙ (λ i. or_else (not_new spot (ap (λ (t : Bool). t && not (has_spot (spots_of shares) spot)) clean) i) (or_else (find spot_cmp spot shares) (find spot_cmp spot m.kept)))
      ∙ ap (λ (o : Option ℕ). or_else o (find spot_cmp spot m.kept)) (by (has_spot (spots_of shares) spot) refl)
    where
      by : (t : Bool) → has_spot (spots_of shares) spot ≡ t → find spot_cmp spot shares ≡ None
      by true has = let dirty : true ≡ false = sym (shared_has m shares spot.0 spot.1 (share_shared r m is.positive is.whole) has) ∙ clean in cc
      by false has = find_none spot shares has

pub places_are_told : PlacesAreTold
places_are_told = record { lines = lines_told; others = others_told }
