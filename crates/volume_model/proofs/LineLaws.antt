-- The lines of a report tell of the places and of the fresh blocks that it was made with.
use Rattle.std.proofs.Common.{◌≡◌, ℕ, zero, suc, ◌+◌, ◌<◌, ◌≤◌, Bool, true, false, not, cond, List, [], ◌∷◌, ◌++◌, length, map, refl, sym, ap, subst, ◌∙◌, arith, add-zero, add-one}
use Rattle.std.specs.Prelude.{◌||◌, ◌&&◌, nat_eq, nat_lt, nat_le}
use Rattle.std.specs.List.{flat_map, list_all}
use Rattle.std.proofs.lemmas.List.Concat.{flat_map-cons}
use Rattle.std.specs.Ordering.{is_lt}
use Rattle.std.specs.FinMap.Entries.{below_all}
use Rattle.std.proofs.lemmas.Bool.Decides.{nat_tests}
use Rattle.vol_numbers.specs.Layout.{area_start}
use Rattle.tree_model.specs.declared.report.Line.{Line}
use Rattle.tree_model.specs.declared.report.Report.{Report}
use Rattle.place_words.specs.Different.{span, different, is_among}
use Rattle.volume_model.specs.declared.sequence.Sequence.{Sequence}
use Rattle.volume_model.specs.Laws.{AreLongest, FreshLinesAre, FreshAreUnused, PointsExist, OnePoint}
use Rattle.volume_model.specs.Lines.{share_line, line_places, lines_places, goes_on, fresh_line, with_fresh, fresh_lines, is_fresh, fresh_only, comes_first, with_line, in_order}
use Rattle.volume_model.specs.Machine.{Machine, Rules}
use Rattle.volume_model.specs.Places.{Spot, Places, spot_cmp, spots_of, has_spot, blocks_of, InOrder, unplaced}
use Rattle.volume_model.specs.Point.{IsPoint, share_lines, fresh_spots, placed_at, lines_of, report_of, is_unused, may_be_fresh, fresh_in}
use Rattle.volume_model.specs.Sharing.{numbers_of, selected}
use Rattle.volume_model.proofs.Order.{first_of, second_of, spot_less, filter_spots_in_order}

-- ---- the places of fresh lines

shifted : {A : Type 0} (f g : ℕ → A) → ((k : ℕ) → f (k + 1) ≡ g k) → (from n : ℕ) → map f (span (from + 1) n) ≡ map g (span from n)
shifted f g same from zero = refl
shifted f g same from (suc n) = λ i. same from i ∷ shifted f g same (from + 1) n i

one_more : (e : Spot × ℕ) (n : ℕ) (g : ℕ → Spot × ℕ) → ((k : ℕ) → ((e.0.0, e.0.1 + (k + 1)), e.1 + (k + 1)) ≡ g k) → line_places (fresh_line e (n + 1)) ≡ e ∷ map g (span 0 n)
one_more e n g same =
    ap (λ (m : ℕ). map (λ (k : ℕ). ((e.0.0, e.0.1 + k), e.1 + k)) (span 0 m)) (add-one n)
    ∙ (λ i. ((e.0.0, add-zero e.0.1 i), add-zero e.1 i) ∷ shifted (λ (k : ℕ). ((e.0.0, e.0.1 + k), e.1 + k)) g same 0 n i)

one_place : (e : Spot × ℕ) → line_places (fresh_line e 1) ≡ e ∷ []
one_place e = λ i. ((e.0.0, add-zero e.0.1 i), add-zero e.1 i) ∷ []

pub lines_cons : (l : Line) (ls : List Line) → lines_places (l ∷ ls) ≡ line_places l ++ lines_places ls
lines_cons l ls = flat_map-cons line_places l ls

with_fresh_places : (e : Spot × ℕ) (ls : List Line) → lines_places (with_fresh e ls) ≡ e ∷ lines_places ls
with_fresh_places e [] = lines_cons (fresh_line e 1) [] ∙ (λ i. one_place e i ++ [])
with_fresh_places e (l ∷ ls) = by (goes_on e l) refl
  where
    by : (t : Bool) → goes_on e l ≡ t → lines_places (cond t (fresh_line e (l.length + 1) ∷ ls) (fresh_line e 1 ∷ l ∷ ls)) ≡ e ∷ lines_places (l ∷ ls)
    by true on =
        let number : e.0.0 ≡ l.number = grind (arith, nat_tests) in
        let place : e.0.1 + 1 ≡ l.place = grind (arith, nat_tests) in
        let block : e.1 + 1 ≡ l.block = grind (arith, nat_tests) in
        let same : (k : ℕ) → ((e.0.0, e.0.1 + (k + 1)), e.1 + (k + 1)) ≡ ((l.number, l.place + k), l.block + k) =
        λ k. (let p : e.0.1 + (k + 1) ≡ l.place + k = omega (arith, place) in let b : e.1 + (k + 1) ≡ l.block + k = omega (arith, block) in λ i. ((number i, p i), b i)) in
        lines_cons (fresh_line e (l.length + 1)) ls
        ∙ ap (λ (es : Places). es ++ lines_places ls) (one_more e l.length (λ (k : ℕ). ((l.number, l.place + k), l.block + k)) same)
        ∙ ap (λ (es : Places). e ∷ es) (sym (lines_cons l ls))
    by false off = lines_cons (fresh_line e 1) (l ∷ ls) ∙ ap (λ (es : Places). es ++ lines_places (l ∷ ls)) (one_place e)

pub lines_places-fresh_lines : (placed : Places) → lines_places (fresh_lines placed) ≡ placed
lines_places-fresh_lines [] = refl
lines_places-fresh_lines (e ∷ es) = with_fresh_places e (fresh_lines es) ∙ ap (λ (es : Places). e ∷ es) (lines_places-fresh_lines es)

longer : (e : Spot × ℕ) (l : Line) (ls : List Line) → goes_on e l ≡ true → AreLongest (l ∷ ls) → AreLongest (fresh_line e (l.length + 1) ∷ ls)
longer e l [] on are = tt
longer e l (next ∷ ls) on are = let apart = are.0 in (grind (arith, nat_tests), are.1)

with_fresh_longest : (e : Spot × ℕ) (ls : List Line) → AreLongest ls → AreLongest (with_fresh e ls)
with_fresh_longest e [] are = tt
with_fresh_longest e (l ∷ ls) are = by (goes_on e l) refl
  where
    by : (t : Bool) → goes_on e l ≡ t → AreLongest (cond t (fresh_line e (l.length + 1) ∷ ls) (fresh_line e 1 ∷ l ∷ ls))
    by true on = longer e l ls on are
    by false off = (off, are)

fresh_longest : (placed : Places) → AreLongest (fresh_lines placed)
fresh_longest [] = tt
fresh_longest (e ∷ es) = with_fresh_longest e (fresh_lines es) (fresh_longest es)

pub fresh_lines_are : FreshLinesAre
fresh_lines_are = record { places = lines_places-fresh_lines; longest = fresh_longest }

-- ---- fresh lines are fresh, and in order

abbrev pub AllFresh : List Line → Type 0
AllFresh [] = Unit {0}
AllFresh (l ∷ ls) = (is_fresh l ≡ true) × AllFresh ls

with_fresh_fresh : (e : Spot × ℕ) (ls : List Line) → AllFresh ls → AllFresh (with_fresh e ls)
with_fresh_fresh e [] all = (refl, tt)
with_fresh_fresh e (l ∷ ls) all = by (goes_on e l)
  where
    by : (t : Bool) → AllFresh (cond t (fresh_line e (l.length + 1) ∷ ls) (fresh_line e 1 ∷ l ∷ ls))
    by true = (refl, all.1)
    by false = (refl, all)

pub all_fresh : (placed : Places) → AllFresh (fresh_lines placed)
all_fresh [] = tt
all_fresh (e ∷ es) = with_fresh_fresh e (fresh_lines es) (all_fresh es)

only_fresh : (ls : List Line) → AllFresh ls → fresh_only ls ≡ ls
only_fresh [] all = refl
only_fresh (l ∷ ls) all = ap (λ (t : Bool). cond t (l ∷ fresh_only ls) (fresh_only ls)) all.0 ∙ ap (λ (ms : List Line). l ∷ ms) (only_fresh ls all.1)

-- each comes first of itself and the next
abbrev pub AreInOrder : List Line → Type 0
AreInOrder [] = Unit {0}
AreInOrder (l ∷ []) = Unit {0}
AreInOrder (l ∷ next ∷ ls) = (comes_first l next ≡ true) × AreInOrder (next ∷ ls)

in_front : (l : Line) (ls : List Line) → AreInOrder (l ∷ ls) → with_line l ls ≡ l ∷ ls
in_front l [] ordered = refl
in_front l (m ∷ ms) ordered = ap (λ (t : Bool). cond t (l ∷ m ∷ ms) (m ∷ with_line l ms)) ordered.0

rest_in_order : (l : Line) (ls : List Line) → AreInOrder (l ∷ ls) → AreInOrder ls
rest_in_order l [] ordered = tt
rest_in_order l (m ∷ ms) ordered = ordered.1

pub already : (ls : List Line) → AreInOrder ls → in_order ls ≡ ls
already [] ordered = refl
already (l ∷ ls) ordered = ap (with_line l) (already ls (rest_in_order l ls ordered)) ∙ in_front l ls ordered

-- the first line, if there is one, is of a spot behind this one
abbrev Behind : Spot → List Line → Type 0
Behind s [] = Unit {0}
Behind s (l ∷ ls) = (nat_lt s.0 l.number || (nat_eq s.0 l.number && nat_lt s.1 l.place)) ≡ true

behind_next : (e : Spot × ℕ) (l : Line) (ls : List Line) → goes_on e l ≡ true → AreInOrder (l ∷ ls) → AreInOrder (fresh_line e (l.length + 1) ∷ ls)
behind_next e l [] on ordered = tt
behind_next e l (m ∷ ms) on ordered = let first = ordered.0 in (grind (arith, nat_tests), ordered.1)

with_fresh_in_order : (e : Spot × ℕ) (ls : List Line) → Behind e.0 ls → AreInOrder ls → AreInOrder (with_fresh e ls)
with_fresh_in_order e [] behind ordered = tt
with_fresh_in_order e (l ∷ ls) behind ordered = by (goes_on e l) refl
  where
    by : (t : Bool) → goes_on e l ≡ t → AreInOrder (cond t (fresh_line e (l.length + 1) ∷ ls) (fresh_line e 1 ∷ l ∷ ls))
    by true on = behind_next e l ls on ordered
    by false off = (grind (arith, nat_tests), ordered)

behind_with : (s : Spot) (e : Spot × ℕ) (ls : List Line) → is_lt (spot_cmp s e.0) ≡ true → Behind s (with_fresh e ls)
behind_with s e [] less = spot_less s e.0 less
behind_with s e (l ∷ ls) less = by (goes_on e l)
  where
    by : (t : Bool) → Behind s (cond t (fresh_line e (l.length + 1) ∷ ls) (fresh_line e 1 ∷ l ∷ ls))
    by true = spot_less s e.0 less
    by false = spot_less s e.0 less

behind_first : (s : Spot) (placed : Places) → below_all spot_cmp s placed ≡ true → Behind s (fresh_lines placed)
behind_first s [] below = tt
behind_first s (e ∷ es) below = behind_with s e (fresh_lines es) (first_of _ _ below)

pub fresh_in_order : (placed : Places) → InOrder placed → AreInOrder (fresh_lines placed)
fresh_in_order [] ordered = tt
fresh_in_order (e ∷ es) ordered =
    with_fresh_in_order e (fresh_lines es) (behind_first e.0 es (first_of _ _ ordered)) (fresh_in_order es (second_of _ _ ordered))

-- ---- share lines are passed over

abbrev pub NoneFresh : List Line → Type 0
NoneFresh [] = Unit {0}
NoneFresh (l ∷ ls) = (is_fresh l ≡ false) × NoneFresh ls

none_append : (ls ms : List Line) → NoneFresh ls → NoneFresh ms → NoneFresh (ls ++ ms)
none_append [] ms a b = b
none_append (l ∷ ls) ms a b = (a.0, none_append ls ms a.1 b)

none_of : (number : ℕ) (qs : List Sequence) → NoneFresh (map (share_line number) qs)
none_of number [] = tt
none_of number (q ∷ qs) = (refl, none_of number qs)

pub none_shared : (r : Rules) (m : Machine) (numbers : List ℕ) → NoneFresh (flat_map (λ number. map (share_line number) (selected r m number)) numbers)
none_shared r m [] = tt
none_shared r m (n ∷ ns) =
    subst (λ (ls : List Line). NoneFresh ls) (sym (flat_map-cons (λ number. map (share_line number) (selected r m number)) n ns))
    (none_append (map (share_line n) (selected r m n)) (flat_map (λ number. map (share_line number) (selected r m number)) ns) (none_of n (selected r m n)) (none_shared r m ns))

passed_over : (l : Line) (ms : List Line) → is_fresh l ≡ false → fresh_only (with_line l ms) ≡ fresh_only ms
passed_over l [] none = ap (λ (t : Bool). cond t (l ∷ []) []) none
passed_over l (m ∷ ms) none = by (comes_first l m) (passed_over l ms none)
  where
    by : (t : Bool) → fresh_only (with_line l ms) ≡ fresh_only ms → fresh_only (cond t (l ∷ m ∷ ms) (m ∷ with_line l ms)) ≡ fresh_only (m ∷ ms)
    by true more = ap (λ (t : Bool). cond t (l ∷ fresh_only (m ∷ ms)) (fresh_only (m ∷ ms))) none
    by false more = ap (λ (ls : List Line). cond (is_fresh m) (m ∷ ls) ls) more

all_passed_over : (shares ls : List Line) → NoneFresh shares → fresh_only (in_order (shares ++ ls)) ≡ fresh_only (in_order ls)
all_passed_over [] ls none = refl
all_passed_over (l ∷ shares) ls none = passed_over l (in_order (shares ++ ls)) none.0 ∙ all_passed_over shares ls none.1

-- ---- the fresh blocks of a report

placed_below : (s : Spot) (spots : List Spot) (blocks : List ℕ) → below_all spot_cmp s (unplaced spots) ≡ true → below_all spot_cmp s (placed_at spots blocks) ≡ true
placed_below s [] blocks below = refl
placed_below s (t ∷ ts) [] below = refl
placed_below s (t ∷ ts) (b ∷ bs) below = both (is_lt (spot_cmp s t)) _ (first_of _ _ below) (placed_below s ts bs (second_of _ _ below))
  where
    both : (a b : Bool) → a ≡ true → b ≡ true → (a && b) ≡ true
    both true b e f = f
    both false b e f = cc

pub placed_in_order : (spots : List Spot) (blocks : List ℕ) → InOrder (unplaced spots) → InOrder (placed_at spots blocks)
placed_in_order [] blocks ordered = refl
placed_in_order (s ∷ ss) [] ordered = refl
placed_in_order (s ∷ ss) (b ∷ bs) ordered = both (below_all spot_cmp s (placed_at ss bs)) _ (placed_below s ss bs (first_of _ _ ordered)) (placed_in_order ss bs (second_of _ _ ordered))
  where
    both : (a b : Bool) → a ≡ true → b ≡ true → (a && b) ≡ true
    both true b e f = f
    both false b e f = cc

pub placed_blocks : (spots : List Spot) (blocks : List ℕ) → length blocks ≡ length spots → blocks_of (placed_at spots blocks) ≡ blocks
placed_blocks [] [] e = refl
placed_blocks [] (b ∷ bs) e = absurd (omega (arith, e))
placed_blocks (s ∷ ss) [] e = absurd (omega (arith, e))
placed_blocks (s ∷ ss) (b ∷ bs) e = ap (λ (blocks : List ℕ). b ∷ blocks) (placed_blocks ss bs (omega (arith, e)))

-- which of the dirty places get fresh blocks
abbrev pub spots_for : Rules → Machine → List Spot
spots_for r m = fresh_spots m (lines_places (share_lines r m))

pub fresh_in_lines : (r : Rules) (m : Machine) (fresh : List ℕ) → InOrder (unplaced m.dirty) → InOrder (placed_at (spots_for r m) fresh)
fresh_in_lines r m fresh ordered =
    placed_in_order (spots_for r m) fresh (filter_spots_in_order (λ (s : Spot). not (has_spot (spots_of (lines_places (share_lines r m))) s)) m.dirty ordered)

pub fresh_only-lines_of : (r : Rules) (m : Machine) (fresh : List ℕ) → InOrder (unplaced m.dirty) → fresh_only (lines_of r m fresh) ≡ fresh_lines (placed_at (spots_for r m) fresh)
fresh_only-lines_of r m fresh ordered =
    let placed = placed_at (spots_for r m) fresh in
    let lines = fresh_in_order placed (fresh_in_lines r m fresh ordered) in
    all_passed_over (share_lines r m) (fresh_lines placed) (none_shared r m (numbers_of m.dirty)) ∙ ap fresh_only (already (fresh_lines placed) lines) ∙ only_fresh (fresh_lines placed) (all_fresh placed)

fresh_told_of : (r : Rules) (m : Machine) (fresh : List ℕ) → InOrder (unplaced m.dirty) → length fresh ≡ length (spots_for r m) → fresh_in (report_of r m fresh) ≡ fresh
fresh_told_of r m fresh ordered long =
    ap (λ (ls : List Line). blocks_of (lines_places ls)) (fresh_only-lines_of r m fresh ordered)
    ∙ ap blocks_of (lines_places-fresh_lines (placed_at (spots_for r m) fresh))
    ∙ placed_blocks (spots_for r m) fresh long

pub points_exist : PointsExist
points_exist r m fresh ordered may =
    let long : length fresh ≡ length (spots_for r m) = same (length fresh) (length (spots_for r m)) (first_of _ _ (first_of _ _ may)) in
    let told = fresh_told_of r m fresh ordered long in
    (record { may = subst (λ (blocks : List ℕ). may_be_fresh r m blocks ≡ true) (sym told) may; is = ap (report_of r m) (sym told) }, told)
  where
    same : (a b : ℕ) → nat_eq a b ≡ true → a ≡ b
    same a b e = grind (arith, nat_tests)

pub one_point : OnePoint
one_point r m p q a b same = a.is ∙ ap (report_of r m) same ∙ sym b.is

-- ---- fresh blocks are unused ones

all_pass : (test : ℕ → Bool) (ns : List ℕ) (n : ℕ) → list_all test ns ≡ true → is_among ns n ≡ true → test n ≡ true
all_pass test [] n all among = cc
all_pass test (k ∷ ks) n all among = by (nat_eq k n) refl among (all_pass test ks n (second_of (test k) _ all))
  where
    by : (t : Bool) → nat_eq k n ≡ t → (t || is_among ks n) ≡ true → (is_among ks n ≡ true → test n ≡ true) → test n ≡ true
    by true is e more = let here : k ≡ n = grind (arith, nat_tests) in subst (λ (j : ℕ). test j ≡ true) here (first_of (test k) _ all)
    by false is e more = more e

is_not : (b : Bool) → not b ≡ true → b ≡ false
is_not true e = cc
is_not false e = refl

unused : (r : Rules) (m : Machine) (report : Report) (block : ℕ) → IsPoint r m report → is_among (fresh_in report) block ≡ true → is_unused m block ≡ true
unused r m report block point among = all_pass (is_unused m) (fresh_in report) block (second_of _ _ point.may) among

pub fresh_are_unused : FreshAreUnused
fresh_are_unused = record {
  once = λ r m report point. same (different (fresh_in report)) (length (fresh_in report)) (second_of _ _ (first_of _ _ point.may));
  in_area = λ r m report block point among.
      let is = first_of _ _ (unused r m report block point among) in
      (least (area_start m.layout) block (first_of _ _ is), less block m.layout.blocks (second_of _ _ is));
  unused = λ r m report block point among. is_not _ (second_of _ _ (unused r m report block point among));
}
  where
    same : (a b : ℕ) → nat_eq a b ≡ true → a ≡ b
    same a b e = grind (arith, nat_tests)

    least : (a b : ℕ) → nat_le a b ≡ true → a ≤ b
    least a b e = grind (arith, nat_tests)

    less : (a b : ℕ) → nat_lt a b ≡ true → a < b
    less a b e = grind (arith, nat_tests)
