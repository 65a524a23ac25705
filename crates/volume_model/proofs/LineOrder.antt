-- Lines in order: what `in_order` makes of lines, and that it has no choice.
use Rattle.std.proofs.Common.{◌≡◌, ◌+◌, ◌<◌, Bool, true, false, not, cond, List, [], ◌∷◌, ◌++◌, refl, sym, ap, subst, ◌∙◌, arith}
use Rattle.std.proofs.lemmas.Bool.Decides.{nat_tests}
use Rattle.tree_model.specs.declared.report.Line.{Line}
use Rattle.volume_model.specs.Lines.{is_fresh, fresh_only, share_only, comes_first, with_line, in_order}
use Rattle.volume_model.specs.ReportLaws.{has_place, lines_with, AreApart, stands_before, StandInOrder}
use Rattle.volume_model.proofs.LineCounts.{one_if}
use Rattle.volume_model.proofs.LineLaws.{AreInOrder, NoneFresh}

-- ---- lines are put in order

turned : (a b : Line) → comes_first a b ≡ false → comes_first b a ≡ true
turned a b off = grind (arith, nat_tests)

put_behind : (m l : Line) (ms : List Line) → comes_first m l ≡ true → AreInOrder (m ∷ ms) → AreInOrder (m ∷ with_line l ms)
put_behind m l [] first ordered = (first, tt)
put_behind m l (n ∷ ns) first ordered = by (comes_first l n) refl (λ off. put_behind n l ns (turned l n off) ordered.1)
  where
    by : (t : Bool) → comes_first l n ≡ t → (comes_first l n ≡ false → AreInOrder (n ∷ with_line l ns)) → AreInOrder (m ∷ cond t (l ∷ n ∷ ns) (n ∷ with_line l ns))
    by true on more = (first, (on, ordered.1))
    by false off more = (ordered.0, more off)

with_line_in_order : (l : Line) (ls : List Line) → AreInOrder ls → AreInOrder (with_line l ls)
with_line_in_order l [] ordered = tt
with_line_in_order l (m ∷ ms) ordered = by (comes_first l m) refl
  where
    by : (t : Bool) → comes_first l m ≡ t → AreInOrder (cond t (l ∷ m ∷ ms) (m ∷ with_line l ms))
    by true on = (on, ordered)
    by false off = put_behind m l ms (turned l m off) ordered

in_order_is : (ls : List Line) → AreInOrder (in_order ls)
in_order_is [] = tt
in_order_is (l ∷ ls) = with_line_in_order l (in_order ls) (in_order_is ls)

-- ---- lines that are apart stand before each other

-- each has a place
abbrev pub AllLong : List Line → Type 0
AllLong [] = Unit {0}
AllLong (l ∷ ls) = (0 < l.length) × AllLong ls

pub long_append : (ls ms : List Line) → AllLong ls → AllLong ms → AllLong (ls ++ ms)
long_append [] ms a b = b
long_append (l ∷ ls) ms a b = (a.0, long_append ls ms a.1 b)

with_line_long : (l : Line) (ls : List Line) → 0 < l.length → AllLong ls → AllLong (with_line l ls)
with_line_long l [] own all = (own, tt)
with_line_long l (m ∷ ms) own all = by (comes_first l m) (with_line_long l ms own all.1)
  where
    by : (t : Bool) → AllLong (with_line l ms) → AllLong (cond t (l ∷ m ∷ ms) (m ∷ with_line l ms))
    by true more = (own, all)
    by false more = (all.0, more)

pub in_order_long : (ls : List Line) → AllLong ls → AllLong (in_order ls)
in_order_long [] all = tt
in_order_long (l ∷ ls) all = with_line_long l (in_order ls) all.0 (in_order_long ls all.1)

meet : (l next : Line) → comes_first l next ≡ true → stands_before l next ≡ false → 0 < l.length → has_place l (next.number, next.place) ≡ true
meet l next first not_before long = grind (arith, nat_tests)

begins : (l : Line) → 0 < l.length → has_place l (l.number, l.place) ≡ true
begins l long = grind (arith, nat_tests)

stand : (ls : List Line) → AreInOrder ls → AreApart ls → AllLong ls → StandInOrder ls
stand [] ordered apart long = tt
stand (l ∷ []) ordered apart long = tt
stand (l ∷ next ∷ ls) ordered apart long = (by (stands_before l next) refl, stand (next ∷ ls) ordered.1 apart.1 long.1)
  where
    here : has_place next (next.number, next.place) ≡ true
    here = begins next long.1.0

    by : (t : Bool) → stands_before l next ≡ t → t ≡ true
    by true e = refl
    by false e =
        let none : one_if (has_place next (next.number, next.place)) + lines_with ls (next.number, next.place) ≡ 0 = apart.0 (next.number, next.place) (meet l next ordered.0 e long.0) in
        let one : one_if true + lines_with ls (next.number, next.place) ≡ 0 = subst (λ (t : Bool). one_if t + lines_with ls (next.number, next.place) ≡ 0) here none in
        absurd (omega (arith, one))

pub in_order_stand : (ls : List Line) → AreApart (in_order ls) → AllLong ls → StandInOrder (in_order ls)
in_order_stand ls apart long = stand (in_order ls) (in_order_is ls) apart (in_order_long ls long)

-- ---- which lines share

-- it comes first of itself and each of these
abbrev pub FirstOf : Line → List Line → Type 0
FirstOf l [] = Unit {0}
FirstOf l (m ∷ ms) = (comes_first l m ≡ true) × FirstOf l ms

-- each comes first of itself and all behind it
abbrev pub AreSorted : List Line → Type 0
AreSorted [] = Unit {0}
AreSorted (l ∷ ls) = FirstOf l ls × AreSorted ls

with_share : (a : Line) (ms : List Line) → is_fresh a ≡ false → FirstOf a (share_only ms) → share_only (with_line a ms) ≡ a ∷ share_only ms
with_share a [] is first = ap (λ (t : Bool). cond (not t) (a ∷ []) []) is
with_share a (m ∷ ms) is first = by (comes_first a m) (is_fresh m) refl refl first (with_share a ms is)
  where
    by : (t u : Bool) → comes_first a m ≡ t → is_fresh m ≡ u → FirstOf a (cond (not u) (m ∷ share_only ms) (share_only ms))
        → (FirstOf a (share_only ms) → share_only (with_line a ms) ≡ a ∷ share_only ms)
        → share_only (cond t (a ∷ m ∷ ms) (m ∷ with_line a ms)) ≡ a ∷ cond (not u) (m ∷ share_only ms) (share_only ms)
    by true u on kind first more = (λ i. cond (not (is i)) (a ∷ share_only (m ∷ ms)) (share_only (m ∷ ms))) ∙ (λ i. a ∷ cond (not (kind i)) (m ∷ share_only ms) (share_only ms))
    by false true off kind first more = (λ i. cond (not (kind i)) (m ∷ share_only (with_line a ms)) (share_only (with_line a ms))) ∙ more first
    by false false off kind first more = let apart : true ≡ false = sym first.0 ∙ off in cc

pub shares_stay : (shares ls : List Line) → AreSorted shares → NoneFresh shares → share_only (in_order ls) ≡ [] → share_only (in_order (shares ++ ls)) ≡ shares
shares_stay [] ls sorted none rest = rest
shares_stay (a ∷ bs) ls sorted none rest =
    let more = shares_stay bs ls sorted.1 none.1 rest in
    with_share a (in_order (bs ++ ls)) none.0 (subst (FirstOf a) (sym more) sorted.0) ∙ ap (λ (ms : List Line). a ∷ ms) more

-- ---- only one list in order has given shares and given fresh lines

-- it stands before each of these
abbrev BeforeAll : Line → List Line → Type 0
BeforeAll l [] = Unit {0}
BeforeAll l (m ∷ ms) = (stands_before l m ≡ true) × BeforeAll l ms

before_next : (l m n : Line) → stands_before l m ≡ true → stands_before m n ≡ true → stands_before l n ≡ true
before_next l m n first second = grind (arith, nat_tests)

all_next : (l m : Line) (ls : List Line) → stands_before l m ≡ true → BeforeAll m ls → BeforeAll l ls
all_next l m [] first all = tt
all_next l m (n ∷ ns) first all = (before_next l m n first all.0, all_next l m ns first all.1)

before_all : (l : Line) (ls : List Line) → StandInOrder (l ∷ ls) → BeforeAll l ls
before_all l [] stands = tt
before_all l (m ∷ ms) stands = (stands.0, all_next l m ms stands.0 (before_all m ms stands.1))

stand_rest : (l : Line) (ls : List Line) → StandInOrder (l ∷ ls) → StandInOrder ls
stand_rest l [] stands = tt
stand_rest l (m ∷ ms) stands = stands.1

before_shares : (l : Line) (ls : List Line) → BeforeAll l ls → BeforeAll l (share_only ls)
before_shares l [] all = tt
before_shares l (m ∷ ms) all = by (is_fresh m) (before_shares l ms all.1)
  where
    by : (t : Bool) → BeforeAll l (share_only ms) → BeforeAll l (cond (not t) (m ∷ share_only ms) (share_only ms))
    by true more = more
    by false more = (all.0, more)

before_fresh : (l : Line) (ls : List Line) → BeforeAll l ls → BeforeAll l (fresh_only ls)
before_fresh l [] all = tt
before_fresh l (m ∷ ms) all = by (is_fresh m) (before_fresh l ms all.1)
  where
    by : (t : Bool) → BeforeAll l (fresh_only ms) → BeforeAll l (cond t (m ∷ fresh_only ms) (fresh_only ms))
    by true more = (all.0, more)
    by false more = more

before_with : (l a : Line) (ls : List Line) → stands_before l a ≡ true → BeforeAll l ls → BeforeAll l (with_line a ls)
before_with l a [] own all = (own, tt)
before_with l a (m ∷ ms) own all = by (comes_first a m) (before_with l a ms own all.1)
  where
    by : (t : Bool) → BeforeAll l (with_line a ms) → BeforeAll l (cond t (a ∷ m ∷ ms) (m ∷ with_line a ms))
    by true more = (own, all)
    by false more = (all.0, more)

before_in_order : (l : Line) (ls : List Line) → BeforeAll l ls → BeforeAll l (in_order ls)
before_in_order l [] all = tt
before_in_order l (m ∷ ms) all = before_with l m (in_order ms) all.0 (before_in_order l ms all.1)

comes : (l m : Line) → stands_before l m ≡ true → comes_first l m ≡ true
comes l m before = grind (arith, nat_tests)

comes_not : (l m : Line) → stands_before l m ≡ true → comes_first m l ≡ false
comes_not l m before = grind (arith, nat_tests)

in_front : (l : Line) (ls : List Line) → BeforeAll l ls → with_line l ls ≡ l ∷ ls
in_front l [] all = refl
in_front l (m ∷ ms) all = ap (λ (t : Bool). cond t (l ∷ m ∷ ms) (m ∷ with_line l ms)) (comes l m all.0)

-- a line before all of these stands in front, wherever it is put in
passed : (l : Line) (bs ls : List Line) → BeforeAll l bs → BeforeAll l ls → in_order (bs ++ l ∷ ls) ≡ l ∷ in_order (bs ++ ls)
passed l [] ls before all = in_front l (in_order ls) (before_in_order l ls all)
passed l (a ∷ bs) ls before all =
    ap (with_line a) (passed l bs ls before.1 all) ∙ ap (λ (t : Bool). cond t (a ∷ l ∷ in_order (bs ++ ls)) (l ∷ with_line a (in_order (bs ++ ls)))) (comes_not l a before.0)

pub only_one : (lines : List Line) → StandInOrder lines → lines ≡ in_order (share_only lines ++ fresh_only lines)
only_one [] stands = refl
only_one (l ∷ ls) stands = by (is_fresh l) (only_one ls (stand_rest l ls stands))
  where
    all : BeforeAll l ls
    all = before_all l ls stands

    by : (t : Bool) → ls ≡ in_order (share_only ls ++ fresh_only ls) → l ∷ ls ≡ in_order (cond (not t) (l ∷ share_only ls) (share_only ls) ++ cond t (l ∷ fresh_only ls) (fresh_only ls))
    by true more = ap (λ (ms : List Line). l ∷ ms) more ∙ sym (passed l (share_only ls) (fresh_only ls) (before_shares l ls all) (before_fresh l ls all))
    by false more = sym (in_front l ls all) ∙ ap (with_line l) more
