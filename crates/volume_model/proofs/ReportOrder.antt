-- The lines of a report are the share lines and the fresh lines, in order.
use Rattle.std.proofs.Common.{◌≡◌, ℕ, ◌+◌, ◌<◌, ◌≤◌, Bool, true, false, not, cond, List, [], ◌∷◌, ◌++◌, map, filter, refl, sym, ap, subst, ◌∙◌, arith}
use Rattle.std.specs.Prelude.{nat_eq, nat_le}
use Rattle.std.specs.List.{flat_map}
use Rattle.std.proofs.lemmas.List.Concat.{flat_map-cons}
use Rattle.std.specs.FinMap.Entries.{below_all}
use Rattle.std.proofs.lemmas.Bool.Decides.{nat_tests}
use Rattle.tree_model.specs.declared.report.Line.{Line}
use Rattle.tree_model.specs.declared.report.Report.{Report}
use Rattle.volume_model.specs.declared.sequence.Sequence.{Sequence}
use Rattle.volume_model.specs.Lines.{share_line, goes_on, fresh_line, with_fresh, fresh_lines, fresh_only, share_only, comes_first}
use Rattle.volume_model.specs.Machine.{Machine, Rules}
use Rattle.volume_model.specs.Places.{Spot, Places, spot_cmp, unplaced, InOrder}
use Rattle.volume_model.specs.Point.{share_lines, lines_of, fresh_in}
use Rattle.volume_model.specs.ReportLaws.{IsReport, AreApart, StandInOrder, ReportLinesAre, fresh_places}
use Rattle.volume_model.specs.Selection.{Matching, in_place, by_place}
use Rattle.volume_model.specs.Sharing.{numbers_of, selected, matches, dirty_places}
use Rattle.volume_model.specs.Whole.{IsWhole}
use Rattle.volume_model.proofs.LineCounts.{lines_are_apart}
use Rattle.volume_model.proofs.LineLaws.{AllFresh, all_fresh, fresh_in_order, already, none_shared, fresh_in_lines, fresh_only-lines_of}
use Rattle.volume_model.proofs.LineOrder.{AllLong, long_append, in_order_stand, FirstOf, AreSorted, shares_stay, only_one}
use Rattle.volume_model.proofs.Order.{first_of, second_of, spot_less}
use Rattle.volume_model.proofs.SharedPlaces.{AllIn, selected_in}
use Rattle.volume_model.proofs.SharingLaws.{selected_is}

-- ---- the sequences of a file are by place

abbrev FromAll : ℕ → List Sequence → Type 0
FromAll n [] = Unit {0}
FromAll n (q ∷ qs) = (n ≤ q.first) × FromAll n qs

abbrev ByPlace : List Sequence → Type 0
ByPlace [] = Unit {0}
ByPlace (q ∷ qs) = FromAll q.first qs × ByPlace qs

from_lower : (n m : ℕ) (qs : List Sequence) → n ≤ m → FromAll m qs → FromAll n qs
from_lower n m [] le all = tt
from_lower n m (q ∷ qs) le all = (omega (arith, le, all.0), from_lower n m qs le all.1)

from_in_place : (n : ℕ) (q : Sequence) (ps : List Sequence) → n ≤ q.first → FromAll n ps → FromAll n (in_place q ps)
from_in_place n q [] own all = (own, tt)
from_in_place n q (p ∷ ps) own all = by (nat_le q.first p.first) (from_in_place n q ps own all.1)
  where
    by : (t : Bool) → FromAll n (in_place q ps) → FromAll n (cond t (q ∷ p ∷ ps) (p ∷ in_place q ps))
    by true more = (own, all)
    by false more = (all.0, more)

in_place_by_place : (q : Sequence) (ps : List Sequence) → ByPlace ps → ByPlace (in_place q ps)
in_place_by_place q [] ordered = (tt, tt)
in_place_by_place q (p ∷ ps) ordered = by (nat_le q.first p.first) refl (in_place_by_place q ps ordered.1)
  where
    by : (t : Bool) → nat_le q.first p.first ≡ t → ByPlace (in_place q ps) → ByPlace (cond t (q ∷ p ∷ ps) (p ∷ in_place q ps))
    by true is more = let le : q.first ≤ p.first = grind (arith, nat_tests) in ((le, from_lower q.first p.first ps le ordered.0), ordered)
    by false is more = let le : p.first ≤ q.first = grind (arith, nat_tests) in (from_in_place p.first q ps le ordered.0, more)

by_place_is : (qs : List Sequence) → ByPlace (by_place qs)
by_place_is [] = tt
by_place_is (q ∷ qs) = in_place_by_place q (by_place qs) (by_place_is qs)

selected_by_place : (r : Rules) (m : Machine) (number : ℕ) → 0 < r.threshold → InOrder (unplaced m.dirty) → ByPlace (selected r m number)
selected_by_place r m number positive ordered = let s = selected_is r m number positive ordered in subst ByPlace (sym s.sorted) (by_place_is s.picked)

comes : (number : ℕ) (q p : Sequence) → q.first ≤ p.first → comes_first (share_line number q) (share_line number p) ≡ true
comes number q p le = grind (arith, nat_tests)

first_of_number : (number : ℕ) (q : Sequence) (qs : List Sequence) → FromAll q.first qs → FirstOf (share_line number q) (map (share_line number) qs)
first_of_number number q [] all = tt
first_of_number number q (p ∷ ps) all = (comes number q p all.0, first_of_number number q ps all.1)

sorted_number : (number : ℕ) (qs : List Sequence) → ByPlace qs → AreSorted (map (share_line number) qs)
sorted_number number [] ordered = tt
sorted_number number (q ∷ qs) ordered = (first_of_number number q qs ordered.0, sorted_number number qs ordered.1)

-- ---- and the files are by number

abbrev AllAbove : ℕ → List ℕ → Type 0
AllAbove n [] = Unit {0}
AllAbove n (k ∷ ks) = (n < k) × AllAbove n ks

abbrev NumbersRise : List ℕ → Type 0
NumbersRise [] = Unit {0}
NumbersRise (n ∷ ns) = AllAbove n ns × NumbersRise ns

abbrev AllFrom : ℕ → List ℕ → Type 0
AllFrom n [] = Unit {0}
AllFrom n (k ∷ ks) = (n ≤ k) × AllFrom n ks

filter_from : (n : ℕ) (test : ℕ → Bool) (ks : List ℕ) → AllFrom n ks → AllFrom n (filter test ks)
filter_from n test [] all = tt
filter_from n test (k ∷ ks) all = by (test k) (filter_from n test ks all.1)
  where
    by : (t : Bool) → AllFrom n (filter test ks) → AllFrom n (cond t (k ∷ filter test ks) (filter test ks))
    by true more = (all.0, more)
    by false more = more

filter_above : (n : ℕ) (test : ℕ → Bool) (ks : List ℕ) → AllAbove n ks → AllAbove n (filter test ks)
filter_above n test [] all = tt
filter_above n test (k ∷ ks) all = by (test k) (filter_above n test ks all.1)
  where
    by : (t : Bool) → AllAbove n (filter test ks) → AllAbove n (cond t (k ∷ filter test ks) (filter test ks))
    by true more = (all.0, more)
    by false more = more

filter_rise : (test : ℕ → Bool) (ns : List ℕ) → NumbersRise ns → NumbersRise (filter test ns)
filter_rise test [] rise = tt
filter_rise test (n ∷ ns) rise = by (test n) (filter_rise test ns rise.1)
  where
    by : (t : Bool) → NumbersRise (filter test ns) → NumbersRise (cond t (n ∷ filter test ns) (filter test ns))
    by true more = (filter_above n test ns rise.0, more)
    by false more = more

others_above : (n : ℕ) (ks : List ℕ) → AllFrom n ks → AllAbove n (filter (λ k. not (nat_eq k n)) ks)
others_above n [] all = tt
others_above n (k ∷ ks) all = by (nat_eq k n) refl (others_above n ks all.1)
  where
    by : (t : Bool) → nat_eq k n ≡ t → AllAbove n (filter (λ k. not (nat_eq k n)) ks) → AllAbove n (cond (not t) (k ∷ filter (λ k. not (nat_eq k n)) ks) (filter (λ k. not (nat_eq k n)) ks))
    by true is more = more
    by false is more = let le : n ≤ k = all.0 in (grind (arith, nat_tests), more)

numbers_from : (s : Spot) (spots : List Spot) → below_all spot_cmp s (unplaced spots) ≡ true → AllFrom s.0 (numbers_of spots)
numbers_from s [] below = tt
numbers_from s (t ∷ ts) below =
    (le, filter_from s.0 (λ k. not (nat_eq k t.0)) (numbers_of ts) (numbers_from s ts (second_of _ _ below)))
  where
    le : s.0 ≤ t.0
    le = let before = spot_less s t (first_of _ _ below) in grind (arith, nat_tests)

numbers_rise : (spots : List Spot) → InOrder (unplaced spots) → NumbersRise (numbers_of spots)
numbers_rise [] ordered = tt
numbers_rise (s ∷ ss) ordered =
    (others_above s.0 (numbers_of ss) (numbers_from s ss (first_of _ _ ordered)), filter_rise (λ k. not (nat_eq k s.0)) (numbers_of ss) (numbers_rise ss (second_of _ _ ordered)))

abbrev LinesAbove : ℕ → List Line → Type 0
LinesAbove n [] = Unit {0}
LinesAbove n (l ∷ ls) = (n < l.number) × LinesAbove n ls

above_append : (n : ℕ) (ls ms : List Line) → LinesAbove n ls → LinesAbove n ms → LinesAbove n (ls ++ ms)
above_append n [] ms a b = b
above_append n (l ∷ ls) ms a b = (a.0, above_append n ls ms a.1 b)

number_above : (n number : ℕ) (qs : List Sequence) → n < number → LinesAbove n (map (share_line number) qs)
number_above n number [] less = tt
number_above n number (q ∷ qs) less = (less, number_above n number qs less)

numbers_above : (g : ℕ → List Sequence) (n : ℕ) (ns : List ℕ) → AllAbove n ns → LinesAbove n (flat_map (λ number. map (share_line number) (g number)) ns)
numbers_above g n [] all = tt
numbers_above g n (k ∷ ks) all =
    subst (LinesAbove n) (sym (flat_map-cons (λ number. map (share_line number) (g number)) k ks))
    (above_append n (map (share_line k) (g k)) (flat_map (λ number. map (share_line number) (g number)) ks) (number_above n k (g k) all.0) (numbers_above g n ks all.1))

earlier : (l m : Line) → l.number < m.number → comes_first l m ≡ true
earlier l m less = grind (arith, nat_tests)

first_of_above : (l : Line) (ls : List Line) → LinesAbove l.number ls → FirstOf l ls
first_of_above l [] all = tt
first_of_above l (m ∷ ms) all = (earlier l m all.0, first_of_above l ms all.1)

first_append : (l : Line) (ls ms : List Line) → FirstOf l ls → FirstOf l ms → FirstOf l (ls ++ ms)
first_append l [] ms a b = b
first_append l (n ∷ ns) ms a b = (a.0, first_append l ns ms a.1 b)

number_append : (number : ℕ) (qs : List Sequence) (ms : List Line) → AreSorted (map (share_line number) qs) → LinesAbove number ms → AreSorted ms → AreSorted (map (share_line number) qs ++ ms)
number_append number [] ms sorted above rest = rest
number_append number (q ∷ qs) ms sorted above rest =
    (first_append (share_line number q) (map (share_line number) qs) ms sorted.0 (first_of_above (share_line number q) ms above), number_append number qs ms sorted.1 above rest)

numbers_sorted : (g : ℕ → List Sequence) → ((n : ℕ) → ByPlace (g n)) → (ns : List ℕ) → NumbersRise ns → AreSorted (flat_map (λ number. map (share_line number) (g number)) ns)
numbers_sorted g each [] rise = tt
numbers_sorted g each (n ∷ ns) rise =
    subst AreSorted (sym (flat_map-cons (λ number. map (share_line number) (g number)) n ns))
    (number_append n (g n) (flat_map (λ number. map (share_line number) (g number)) ns) (sorted_number n (g n) (each n)) (numbers_above g n ns rise.0) (numbers_sorted g each ns rise.1))

shares_sorted : (r : Rules) (m : Machine) → 0 < r.threshold → InOrder (unplaced m.dirty) → AreSorted (share_lines r m)
shares_sorted r m positive ordered = numbers_sorted (selected r m) (λ n. selected_by_place r m n positive ordered) (numbers_of m.dirty) (numbers_rise m.dirty ordered)

-- ---- each line has a place

with_fresh_long : (e : Spot × ℕ) (ls : List Line) → AllLong ls → AllLong (with_fresh e ls)
with_fresh_long e [] all = (omega arith, tt)
with_fresh_long e (l ∷ ls) all = by (goes_on e l)
  where
    by : (t : Bool) → AllLong (cond t (fresh_line e (l.length + 1) ∷ ls) (fresh_line e 1 ∷ l ∷ ls))
    by true = (omega arith, all.1)
    by false = (omega arith, all)

fresh_long : (placed : Places) → AllLong (fresh_lines placed)
fresh_long [] = tt
fresh_long (e ∷ es) = with_fresh_long e (fresh_lines es) (fresh_long es)

number_long : (matches : Matching) (places : List ℕ) (number : ℕ) (qs : List Sequence) → AllIn matches places qs → AllLong (map (share_line number) qs)
number_long matches places number [] all = tt
number_long matches places number (q ∷ qs) all = (all.0.0, number_long matches places number qs all.1)

numbers_long : (r : Rules) (m : Machine) → 0 < r.threshold → IsWhole m → (ns : List ℕ) → AllLong (flat_map (λ number. map (share_line number) (selected r m number)) ns)
numbers_long r m positive whole [] = tt
numbers_long r m positive whole (n ∷ ns) =
    subst AllLong (sym (flat_map-cons (λ number. map (share_line number) (selected r m number)) n ns))
    (long_append (map (share_line n) (selected r m n)) (flat_map (λ number. map (share_line number) (selected r m number)) ns)
    (number_long (matches m n) (dirty_places m n) n (selected r m n) (selected_in r m n positive whole))
    (numbers_long r m positive whole ns))

-- ---- the report

no_shares : (ls : List Line) → AllFresh ls → share_only ls ≡ []
no_shares [] all = refl
no_shares (l ∷ ls) all = ap (λ (t : Bool). cond (not t) (l ∷ share_only ls) (share_only ls)) all.0 ∙ no_shares ls all.1

share_only-lines_of : (r : Rules) (m : Machine) (fresh : List ℕ) → 0 < r.threshold → InOrder (unplaced m.dirty) → share_only (lines_of r m fresh) ≡ share_lines r m
share_only-lines_of r m fresh positive ordered =
    let placed = fresh_places r m fresh in
    let lines = already (fresh_lines placed) (fresh_in_order placed (fresh_in_lines r m fresh ordered)) in
    shares_stay (share_lines r m) (fresh_lines placed) (shares_sorted r m positive ordered) (none_shared r m (numbers_of m.dirty)) (ap share_only lines ∙ no_shares (fresh_lines placed) (all_fresh placed))

lines_stand : (r : Rules) (m : Machine) (report : Report) → IsReport r m report → StandInOrder report.lines
lines_stand r m report is =
    let fresh = fresh_in report in
    let lines = ap (λ (p : Report). p.lines) is.point.is in
    let long = long_append (share_lines r m) (fresh_lines (fresh_places r m fresh)) (numbers_long r m is.positive is.whole (numbers_of m.dirty)) (fresh_long (fresh_places r m fresh)) in
    let apart = subst AreApart lines (lines_are_apart r m report is) in
    subst StandInOrder (sym lines) (in_order_stand (share_lines r m ++ fresh_lines (fresh_places r m fresh)) apart long)

pub report_lines_are : ReportLinesAre
report_lines_are = record {
  ordered = lines_stand;
  shares = λ r m report is. ap (λ (p : Report). share_only p.lines) is.point.is ∙ share_only-lines_of r m (fresh_in report) is.positive is.whole.dirty_in_order;
  fresh = λ r m report is. ap (λ (p : Report). fresh_only p.lines) is.point.is ∙ fresh_only-lines_of r m (fresh_in report) is.whole.dirty_in_order;
  only = only_one;
}
