-- A dirty place is in one line of a report, and no other place is in any.
use Rattle.std.proofs.Common.{◌≡◌, ℕ, zero, suc, ◌+◌, ◌-◌, ◌<◌, ◌≤◌, Bool, true, false, not, cond, List, [], ◌∷◌, ◌++◌, length, map, filter, refl, sym, ap, subst, ◌∙◌, arith}
use Rattle.std.specs.Prelude.{◌||◌, ◌&&◌, nat_eq, nat_le, nat_lt}
use Rattle.std.specs.List.{flat_map}
use Rattle.std.proofs.lemmas.List.Concat.{flat_map-cons}
use Rattle.std.specs.Ordering.{is_lt}
use Rattle.std.specs.FinMap.Entries.{below_all}
use Rattle.std.proofs.lemmas.Bool.Decides.{nat_tests}
use Rattle.place_words.specs.Different.{span, is_among, Distinct}
use Rattle.tree_model.specs.declared.report.Line.{Line}
use Rattle.tree_model.specs.declared.report.Report.{Report}
use Rattle.volume_model.specs.declared.sequence.Sequence.{Sequence}
use Rattle.volume_model.specs.Lines.{share_line, line_places, lines_places, fresh_lines, comes_first, with_line, in_order}
use Rattle.volume_model.specs.Machine.{Machine, Rules}
use Rattle.volume_model.specs.Places.{Spot, Places, spot_cmp, spot_eq, has_spot, spots_of, unplaced, InOrder}
use Rattle.volume_model.specs.Point.{share_lines, fresh_spots, lines_of, fresh_in}
use Rattle.volume_model.specs.ReportLaws.{has_place, lines_with, EachPlaceOnce, AreApart, LinesAreApart, fresh_places}
use Rattle.volume_model.specs.Selection.{Matching, IsSequence, covers, without, Picks, in_place, by_place}
use Rattle.volume_model.specs.Sharing.{selected, numbers_of, matches, dirty_places}
use Rattle.volume_model.proofs.Cached.{or_same, or_later, none_more}
use Rattle.volume_model.proofs.LineLaws.{lines_cons, lines_places-fresh_lines}
use Rattle.volume_model.proofs.Order.{first_of, second_of, spot_less}
use Rattle.volume_model.proofs.SharedPlaces.{fewer, share_shared}
use Rattle.volume_model.proofs.SharingLaws.{selected_is}
use Rattle.volume_model.proofs.PointSpace.{shared_has, placed_spots, long_as}
use Rattle.volume_model.proofs.WholeLaws.{same_spot, or_first_none, or_second_none}

-- 1 where it holds, and else 0
abbrev pub one_if : Bool → ℕ
one_if t = cond t 1 0

-- how often a spot is among these
abbrev pub spot_times : List Spot → Spot → ℕ
spot_times [] spot = 0
spot_times (s ∷ ss) spot = cond (spot_eq s spot) 1 0 + spot_times ss spot

-- ---- lines by their places

times_append : (xs ys : List Spot) (spot : Spot) → spot_times (xs ++ ys) spot ≡ spot_times xs spot + spot_times ys spot
times_append [] ys spot = omega arith
times_append (x ∷ xs) ys spot = omega (arith, times_append xs ys spot)

spots_append : (xs ys : Places) → spots_of (xs ++ ys) ≡ spots_of xs ++ spots_of ys
spots_append [] ys = refl
spots_append (x ∷ xs) ys = ap (λ (ss : List Spot). x.0 ∷ ss) (spots_append xs ys)

-- none of a line without places, and of a line with one more in front this one or one of the others
none_here : (n p from a b : ℕ) → one_if (nat_eq n a && nat_le (p + from) b && nat_lt b (p + from + 0)) ≡ 0
none_here n p from a b = grind (arith, nat_tests)

one_here : (n p from len a b c : ℕ) → c ≡ cond (nat_eq n a && nat_le (p + (from + 1)) b && nat_lt b (p + (from + 1) + len)) 1 0
    → cond (nat_eq n a && nat_eq (p + from) b) 1 0 + c ≡ cond (nat_eq n a && nat_le (p + from) b && nat_lt b (p + from + suc len)) 1 0
one_here n p from len a b c e = grind (arith, nat_tests)

span_times : (n p d from len : ℕ) (spot : Spot)
    → spot_times (spots_of (map (λ (k : ℕ). ((n, p + k), d + k)) (span from len))) spot ≡ cond (nat_eq n spot.0 && nat_le (p + from) spot.1 && nat_lt spot.1 (p + from + len)) 1 0
span_times n p d from zero spot = sym (none_here n p from spot.0 spot.1)
span_times n p d from (suc len) spot = one_here n p from len spot.0 spot.1 _ (span_times n p d (from + 1) len spot)

from_first : (n p len a b : ℕ) → one_if (nat_eq n a && nat_le (p + 0) b && nat_lt b (p + 0 + len)) ≡ one_if (nat_eq n a && nat_le p b && nat_lt b (p + len))
from_first n p len a b = grind (arith, nat_tests)

pub line_times : (l : Line) (spot : Spot) → spot_times (spots_of (line_places l)) spot ≡ cond (has_place l spot) 1 0
line_times l spot = span_times l.number l.place l.block 0 l.length spot ∙ from_first l.number l.place l.length spot.0 spot.1

pub lines_times : (ls : List Line) (spot : Spot) → spot_times (spots_of (lines_places ls)) spot ≡ lines_with ls spot
lines_times [] spot = refl
lines_times (l ∷ ls) spot =
    let places = ap (λ (es : Places). spot_times (spots_of es) spot) (lines_cons l ls) in
    let apart = ap (λ (ss : List Spot). spot_times ss spot) (spots_append (line_places l) (lines_places ls)) in
    omega (arith, places, apart, times_append (spots_of (line_places l)) (spots_of (lines_places ls)) spot, line_times l spot, lines_times ls spot)

-- ---- lines in another order

with_append : (ls ms : List Line) (spot : Spot) → lines_with (ls ++ ms) spot ≡ lines_with ls spot + lines_with ms spot
with_append [] ms spot = omega arith
with_append (l ∷ ls) ms spot = omega (arith, with_append ls ms spot)

with_line_times : (l : Line) (ls : List Line) (spot : Spot) → lines_with (with_line l ls) spot ≡ lines_with (l ∷ ls) spot
with_line_times l [] spot = refl
with_line_times l (m ∷ ms) spot = by (comes_first l m) (with_line_times l ms spot)
  where
    by : (t : Bool) → lines_with (with_line l ms) spot ≡ lines_with (l ∷ ms) spot → lines_with (cond t (l ∷ m ∷ ms) (m ∷ with_line l ms)) spot ≡ lines_with (l ∷ m ∷ ms) spot
    by true more = refl
    by false more = omega (arith, more)

in_order_times : (ls : List Line) (spot : Spot) → lines_with (in_order ls) spot ≡ lines_with ls spot
in_order_times [] spot = refl
in_order_times (l ∷ ls) spot = omega (arith, with_line_times l (in_order ls) spot, in_order_times ls spot)

-- ---- spots in order stand there once

pub no_times : (spots : List Spot) (spot : Spot) → has_spot spots spot ≡ false → spot_times spots spot ≡ 0
no_times [] spot none = refl
no_times (s ∷ ss) spot none = by (spot_eq s spot) none (no_times ss spot)
  where
    by : (t : Bool) → (t || has_spot ss spot) ≡ false → (has_spot ss spot ≡ false → spot_times ss spot ≡ 0) → cond t 1 0 + spot_times ss spot ≡ 0
    by true e more = cc
    by false e more = omega (arith, more e)

pub some_times : (spots : List Spot) (spot : Spot) → has_spot spots spot ≡ true → 1 ≤ spot_times spots spot
some_times [] spot e = cc
some_times (s ∷ ss) spot e = by (spot_eq s spot) e (some_times ss spot)
  where
    by : (t : Bool) → (t || has_spot ss spot) ≡ true → (has_spot ss spot ≡ true → 1 ≤ spot_times ss spot) → 1 ≤ cond t 1 0 + spot_times ss spot
    by true e more = omega arith
    by false e more = omega (arith, more e)

apart_by_order : (a b : Spot) → is_lt (spot_cmp a b) ≡ true → spot_eq b a ≡ false
apart_by_order a b less = let before = spot_less a b less in grind (arith, nat_tests)

none_behind : (s : Spot) (spots : List Spot) → below_all spot_cmp s (unplaced spots) ≡ true → has_spot spots s ≡ false
none_behind s [] below = refl
none_behind s (t ∷ ts) below =
    let here = apart_by_order s t (first_of _ _ below) in
    ap (λ (u : Bool). u || has_spot ts s) here ∙ none_behind s ts (second_of _ _ below)

ordered_times : (spots : List Spot) (spot : Spot) → InOrder (unplaced spots) → spot_times spots spot ≡ cond (has_spot spots spot) 1 0
ordered_times [] spot ordered = refl
ordered_times (s ∷ ss) spot ordered = by (spot_eq s spot) refl (ordered_times ss spot (second_of _ _ ordered))
  where
    by : (t : Bool) → spot_eq s spot ≡ t → spot_times ss spot ≡ cond (has_spot ss spot) 1 0 → cond t 1 0 + spot_times ss spot ≡ cond (t || has_spot ss spot) 1 0
    by true is more =
        let none : has_spot ss spot ≡ false = subst (λ (x : Spot). has_spot ss x ≡ false) (same_spot s spot is) (none_behind s ss (first_of _ _ ordered)) in
        omega (arith, no_times ss spot none)
    by false is more = omega (arith, more)

left_times : (test : Spot → Bool) (spots : List Spot) (spot : Spot) → spot_times (filter test spots) spot ≡ cond (test spot) (spot_times spots spot) 0
left_times test [] spot = by (test spot)
  where
    by : (t : Bool) → ◌≡◌ {A = ℕ} 0 (cond t 0 0)
    by true = refl
    by false = refl
left_times test (s ∷ ss) spot = by (spot_eq s spot) refl (left_times test ss spot)
  where
    there : (t : Bool) → test spot ≡ t → spot_times (filter test ss) spot ≡ cond t (spot_times ss spot) 0
        → spot_times (cond t (s ∷ filter test ss) (filter test ss)) spot ≡ cond t (cond (spot_eq s spot) 1 0 + spot_times ss spot) 0
    there true e more = ap (λ (n : ℕ). cond (spot_eq s spot) 1 0 + n) more
    there false e more = more

    skipped : (t u : Bool) → spot_eq s spot ≡ false → spot_times (filter test ss) spot ≡ cond u (spot_times ss spot) 0
        → spot_times (cond t (s ∷ filter test ss) (filter test ss)) spot ≡ cond u (spot_times ss spot) 0
    skipped true u apart more = ap (λ (t : Bool). cond t 1 0 + spot_times (filter test ss) spot) apart ∙ no_more (spot_times (filter test ss) spot) ∙ more
      where
        no_more : (n : ℕ) → 0 + n ≡ n
        no_more n = omega arith
    skipped false u apart more = more

    none_more : (u : Bool) (n : ℕ) → cond u n 0 ≡ cond u (0 + n) 0
    none_more true n = omega arith
    none_more false n = refl

    by : (t : Bool) → spot_eq s spot ≡ t → spot_times (filter test ss) spot ≡ cond (test spot) (spot_times ss spot) 0
        → spot_times (filter test (s ∷ ss)) spot ≡ cond (test spot) (cond t 1 0 + spot_times ss spot) 0
    by true is more =
        ap (λ (x : Spot). spot_times (cond (test x) (s ∷ filter test ss) (filter test ss)) spot) (same_spot s spot is) ∙ there (test spot) refl more
        ∙ ap (λ (t : Bool). cond (test spot) (cond t 1 0 + spot_times ss spot) 0) is
    by false is more = skipped (test s) (test spot) is more ∙ none_more (test spot) (spot_times ss spot)

-- ---- each place is in one sequence at most

abbrev covering : List Sequence → ℕ → ℕ
covering [] place = 0
covering (q ∷ qs) place = cond (covers q place) 1 0 + covering qs place

covered_in : (matches : Matching) (places : List ℕ) (q : Sequence) (place : ℕ) → IsSequence matches places q → covers q place ≡ true → is_among places place ≡ true
covered_in matches places q place is covered =
    let from : q.first ≤ place = low q.first place (first_of _ _ covered) in
    let below : place < q.first + q.length = high place (q.first + q.length) (second_of (nat_le q.first place) _ covered) in
    let at = is.1 (place - q.first) (omega (arith, below, from)) in
    subst (λ (p : ℕ). is_among places p ≡ true) (omega (arith, from)) (first_of _ _ at)
  where
    low : (a b : ℕ) → nat_le a b ≡ true → a ≤ b
    low a b e = grind (arith, nat_tests)

    high : (a b : ℕ) → nat_lt a b ≡ true → a < b
    high a b e = grind (arith, nat_tests)

taken_out : (q : Sequence) (places : List ℕ) (place : ℕ) → covers q place ≡ true → is_among (without places q) place ≡ false
taken_out q [] place covered = refl
taken_out q (p ∷ ps) place covered = by (covers q p) refl (taken_out q ps place covered)
  where
    by : (t : Bool) → covers q p ≡ t → is_among (without ps q) place ≡ false → is_among (cond (not t) (p ∷ without ps q) (without ps q)) place ≡ false
    by true is more = more
    by false is more = here (nat_eq p place) refl
      where
        here : (u : Bool) → nat_eq p place ≡ u → (u || is_among (without ps q) place) ≡ false
        here true same = let own : p ≡ place = grind (arith, nat_tests) in let no : true ≡ false = sym (subst (λ (n : ℕ). covers q n ≡ true) (sym own) covered) ∙ is in cc
        here false same = more

picked_none : (matches : Matching) (threshold : ℕ) (places : List ℕ) (qs : List Sequence) (place : ℕ) → Picks matches threshold places qs → is_among places place ≡ false → covering qs place ≡ 0
picked_none matches threshold places [] place picks none = refl
picked_none matches threshold places (q ∷ qs) place picks none =
    let here : covers q place ≡ false = none_more (covers q place) (is_among places place) (covered_in matches places q place picks.0.sequence) none in
    let later = picked_none matches threshold (without places q) qs place picks.1 (none_more _ (is_among places place) (fewer q places place) none) in
    ap (λ (t : Bool). cond t 1 0 + covering qs place) here ∙ omega (arith, later)

picked_once : (matches : Matching) (threshold : ℕ) (places : List ℕ) (qs : List Sequence) (place : ℕ) → Picks matches threshold places qs → covering qs place ≤ 1
picked_once matches threshold places [] place picks = omega arith
picked_once matches threshold places (q ∷ qs) place picks = by (covers q place) refl (picked_once matches threshold (without places q) qs place picks.1)
  where
    by : (t : Bool) → covers q place ≡ t → covering qs place ≤ 1 → cond t 1 0 + covering qs place ≤ 1
    by true is more = omega (arith, picked_none matches threshold (without places q) qs place picks.1 (taken_out q places place is))
    by false is more = omega (arith, more)

in_place_covering : (q : Sequence) (ps : List Sequence) (place : ℕ) → covering (in_place q ps) place ≡ covering (q ∷ ps) place
in_place_covering q [] place = refl
in_place_covering q (p ∷ ps) place = by (nat_le q.first p.first) (in_place_covering q ps place)
  where
    by : (t : Bool) → covering (in_place q ps) place ≡ covering (q ∷ ps) place → covering (cond t (q ∷ p ∷ ps) (p ∷ in_place q ps)) place ≡ covering (q ∷ p ∷ ps) place
    by true more = refl
    by false more = omega (arith, more)

by_place_covering : (qs : List Sequence) (place : ℕ) → covering (by_place qs) place ≡ covering qs place
by_place_covering [] place = refl
by_place_covering (q ∷ qs) place = omega (arith, in_place_covering q (by_place qs) place, by_place_covering qs place)

selected_once : (r : Rules) (m : Machine) (number place : ℕ) → 0 < r.threshold → InOrder (unplaced m.dirty) → covering (selected r m number) place ≤ 1
selected_once r m number place positive ordered =
    let s = selected_is r m number positive ordered in
    let sorted = ap (λ (qs : List Sequence). covering qs place) s.sorted in
    omega (arith, sorted, by_place_covering s.picked place, picked_once (matches m number) r.threshold (dirty_places m number) s.picked place s.one_by_one)

-- ---- and in one share line at most

of_number : (number : ℕ) (qs : List Sequence) (spot : Spot) → lines_with (map (share_line number) qs) spot ≡ cond (nat_eq number spot.0) (covering qs spot.1) 0
of_number number [] spot = by (nat_eq number spot.0)
  where
    by : (t : Bool) → ◌≡◌ {A = ℕ} 0 (cond t 0 0)
    by true = refl
    by false = refl
of_number number (q ∷ qs) spot = by (nat_eq number spot.0) (nat_le q.first spot.1) (nat_lt spot.1 (q.first + q.length)) (of_number number qs spot)
  where
    by : (t u v : Bool) → lines_with (map (share_line number) qs) spot ≡ cond t (covering qs spot.1) 0
        → cond (t && u && v) 1 0 + lines_with (map (share_line number) qs) spot ≡ cond t (cond (u && v) 1 0 + covering qs spot.1) 0
    by true true true more = omega (arith, more)
    by true true false more = omega (arith, more)
    by true false v more = omega (arith, more)
    by false u v more = omega (arith, more)

-- at most one of these, and of one number alone
abbrev OfNumber : (ℕ → List Line) → Spot → Type 0
OfNumber f spot = (n : ℕ) → (lines_with (f n) spot ≤ 1) × (nat_eq n spot.0 ≡ false → lines_with (f n) spot ≡ 0)

numbers_none : (f : ℕ → List Line) (spot : Spot) → OfNumber f spot → (ns : List ℕ) → is_among ns spot.0 ≡ false → lines_with (flat_map f ns) spot ≡ 0
numbers_none f spot each [] none = refl
numbers_none f spot each (n ∷ ns) none =
    let apart = ap (λ (ls : List Line). lines_with ls spot) (flat_map-cons f n ns) in
    let here = (each n).1 (or_first_none (nat_eq n spot.0) _ none) in
    omega (arith, apart, with_append (f n) (flat_map f ns) spot, here, numbers_none f spot each ns (or_second_none (nat_eq n spot.0) _ none))

numbers_once : (f : ℕ → List Line) (spot : Spot) → OfNumber f spot → (ns : List ℕ) → Distinct ns → lines_with (flat_map f ns) spot ≤ 1
numbers_once f spot each [] once = omega arith
numbers_once f spot each (n ∷ ns) once = by (nat_eq n spot.0) refl (numbers_once f spot each ns once.1)
  where
    apart : lines_with (flat_map f (n ∷ ns)) spot ≡ lines_with (f n) spot + lines_with (flat_map f ns) spot
    apart = ap (λ (ls : List Line). lines_with ls spot) (flat_map-cons f n ns) ∙ with_append (f n) (flat_map f ns) spot

    by : (t : Bool) → nat_eq n spot.0 ≡ t → lines_with (flat_map f ns) spot ≤ 1 → lines_with (flat_map f (n ∷ ns)) spot ≤ 1
    by true is more =
        let own : n ≡ spot.0 = grind (arith, nat_tests) in
        let none = numbers_none f spot each ns (subst (λ (k : ℕ). is_among ns k ≡ false) own once.0) in
        omega (arith, apart, (each n).0, none)
    by false is more = omega (arith, apart, (each n).1 is, more)

filter_among : (test : ℕ → Bool) (ns : List ℕ) (n : ℕ) → is_among (filter test ns) n ≡ true → is_among ns n ≡ true
filter_among test [] n e = e
filter_among test (k ∷ ks) n e = by (test k) e (filter_among test ks n)
  where
    by : (t : Bool) → is_among (cond t (k ∷ filter test ks) (filter test ks)) n ≡ true → (is_among (filter test ks) n ≡ true → is_among ks n ≡ true) → (nat_eq k n || is_among ks n) ≡ true
    by true e more = or_same (nat_eq k n) _ _ more e
    by false e more = or_later (nat_eq k n) _ (more e)

filter_distinct : (test : ℕ → Bool) (ns : List ℕ) → Distinct ns → Distinct (filter test ns)
filter_distinct test [] once = tt
filter_distinct test (n ∷ ns) once = by (test n) (filter_distinct test ns once.1)
  where
    by : (t : Bool) → Distinct (filter test ns) → Distinct (cond t (n ∷ filter test ns) (filter test ns))
    by true more = (none_more _ _ (filter_among test ns n) once.0, more)
    by false more = more

left_out : (n : ℕ) (ns : List ℕ) → is_among (filter (λ k. not (nat_eq k n)) ns) n ≡ false
left_out n [] = refl
left_out n (k ∷ ks) = by (nat_eq k n) refl (left_out n ks)
  where
    by : (t : Bool) → nat_eq k n ≡ t → is_among (filter (λ k. not (nat_eq k n)) ks) n ≡ false → is_among (cond (not t) (k ∷ filter (λ k. not (nat_eq k n)) ks) (filter (λ k. not (nat_eq k n)) ks)) n ≡ false
    by true is more = more
    by false is more = ap (λ (t : Bool). t || is_among (filter (λ k. not (nat_eq k n)) ks) n) is ∙ more

numbers_distinct : (spots : List Spot) → Distinct (numbers_of spots)
numbers_distinct [] = tt
numbers_distinct (s ∷ ss) = (left_out s.0 (numbers_of ss), filter_distinct (λ n. not (nat_eq n s.0)) (numbers_of ss) (numbers_distinct ss))

pub share_once : (r : Rules) (m : Machine) (spot : Spot) → 0 < r.threshold → InOrder (unplaced m.dirty) → lines_with (share_lines r m) spot ≤ 1
share_once r m spot positive ordered = numbers_once f spot each (numbers_of m.dirty) (numbers_distinct m.dirty)
  where
    f : ℕ → List Line
    f number = map (share_line number) (selected r m number)

    by : (n : ℕ) (t : Bool) (c : ℕ) → c ≤ 1 → nat_eq n spot.0 ≡ t → lines_with (f n) spot ≡ cond t c 0 → (lines_with (f n) spot ≤ 1) × (nat_eq n spot.0 ≡ false → lines_with (f n) spot ≡ 0)
    by n true c one is e = (omega (arith, e, one), λ apart. cc)
    by n false c one is e = (omega (arith, e), λ apart. e)

    each : OfNumber f spot
    each n = by n (nat_eq n spot.0) (covering (selected r m n) spot.1) (selected_once r m n spot.1 positive ordered) refl (of_number n (selected r m n) spot)

-- ---- every place

pub fresh_times : (r : Rules) (m : Machine) (fresh : List ℕ) (spot : Spot) → InOrder (unplaced m.dirty) → length fresh ≡ length (fresh_spots m (lines_places (share_lines r m)))
    → lines_with (fresh_lines (fresh_places r m fresh)) spot ≡ cond (not (has_spot (spots_of (lines_places (share_lines r m))) spot)) (cond (has_spot m.dirty spot) 1 0) 0
fresh_times r m fresh spot ordered long =
    let shares = lines_places (share_lines r m) in
    let spots = fresh_spots m shares in
    sym (lines_times (fresh_lines (fresh_places r m fresh)) spot)
    ∙ ap (λ (es : Places). spot_times (spots_of es) spot) (lines_places-fresh_lines (fresh_places r m fresh))
    ∙ ap (λ (ss : List Spot). spot_times ss spot) (placed_spots spots fresh long)
    ∙ left_times (λ (s : Spot). not (has_spot (spots_of shares) s)) m.dirty spot
    ∙ ap (λ (n : ℕ). cond (not (has_spot (spots_of shares) spot)) n 0) (ordered_times m.dirty spot ordered)

pub each_place_once : EachPlaceOnce
each_place_once r m report is spot =
    let shares = share_lines r m in
    let fresh = fresh_in report in
    let lines : lines_with report.lines spot ≡ lines_with (lines_of r m fresh) spot = ap (λ (p : Report). lines_with p.lines spot) is.point.is in
    let apart = in_order_times (shares ++ fresh_lines (fresh_places r m fresh)) spot ∙ with_append shares (fresh_lines (fresh_places r m fresh)) spot in
    let new = fresh_times r m fresh spot is.whole.dirty_in_order (long_as r m fresh is.point.may) in
    lines ∙ apart ∙ by (has_spot (spots_of (lines_places shares)) spot) (has_spot m.dirty spot) refl refl new
  where
    shares : Places
    shares = lines_places (share_lines r m)

    count : spot_times (spots_of shares) spot ≡ lines_with (share_lines r m) spot
    count = lines_times (share_lines r m) spot

    by : (s d : Bool) → has_spot (spots_of shares) spot ≡ s → has_spot m.dirty spot ≡ d → lines_with (fresh_lines (fresh_places r m (fresh_in report))) spot ≡ cond (not s) (cond d 1 0) 0
        → lines_with (share_lines r m) spot + lines_with (fresh_lines (fresh_places r m (fresh_in report))) spot ≡ cond d 1 0
    by true true shared dirty new = omega (arith, new, count, some_times (spots_of shares) spot shared, share_once r m spot is.positive is.whole.dirty_in_order)
    by true false shared dirty new = let no : true ≡ false = sym (shared_has m shares spot.0 spot.1 (share_shared r m is.positive is.whole) shared) ∙ dirty in cc
    by false d shared dirty new = omega (arith, new, count, no_times (spots_of shares) spot shared)

-- ---- so no two lines share one

pub are_apart : (ls : List Line) → ((spot : Spot) → lines_with ls spot ≤ 1) → AreApart ls
are_apart [] once = tt
are_apart (l ∷ ls) once = (λ spot has. here (has_place l spot) spot has (once spot), are_apart ls (λ spot. rest (has_place l spot) spot (once spot)))
  where
    here : (t : Bool) (spot : Spot) → t ≡ true → cond t 1 0 + lines_with ls spot ≤ 1 → lines_with ls spot ≡ 0
    here true spot has one = omega (arith, one)
    here false spot has one = cc

    rest : (t : Bool) (spot : Spot) → cond t 1 0 + lines_with ls spot ≤ 1 → lines_with ls spot ≤ 1
    rest true spot one = omega (arith, one)
    rest false spot one = omega (arith, one)

pub lines_are_apart : LinesAreApart
lines_are_apart r m report is = are_apart report.lines (λ spot. by (has_spot m.dirty spot) spot (each_place_once r m report is spot))
  where
    by : (d : Bool) (spot : Spot) → lines_with report.lines spot ≡ cond d 1 0 → lines_with report.lines spot ≤ 1
    by true spot e = omega (arith, e)
    by false spot e = omega (arith, e)
