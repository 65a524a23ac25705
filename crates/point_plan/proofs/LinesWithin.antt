-- Lines of dirty places lie within files and within the disk.
use Rattle.std.proofs.Common.{◌≡◌, ℕ, zero, suc, ◌+◌, ◌<◌, ◌≤◌, Bool, true, false, cond, List, [], ◌∷◌, ◌++◌, map, refl, sym, ap, subst, arith}
use Rattle.std.specs.Prelude.{◌||◌, ◌&&◌, All, nat_eq}
use Rattle.std.proofs.lemmas.Bool.Decides.{nat_tests}
use Rattle.std.proofs.lemmas.List.Concat.{flat_map-cons}
use Rattle.std.proofs.lemmas.List.Elements.{All-nil, All-cons, All-head, All-tail}
use Rattle.place_words.specs.Different.{span}
use Rattle.point_plan.specs.Planning.{IsLineWithin}
use Rattle.tree_model.specs.declared.report.Line.{Line}
use Rattle.volume_model.specs.Lines.{fresh_line, fresh_lines, goes_on, line_places, lines_places, with_fresh}
use Rattle.volume_model.specs.Places.{Places, Spot, blocks_of, has_spot, spot_eq, spots_of}

-- ---- fresh lines have a place each

abbrev AllLong : List Line → Type 0
AllLong [] = Unit {0}
AllLong (l ∷ ls) = (1 ≤ l.length) × AllLong ls

with_fresh_long : (e : Spot × ℕ) (ls : List Line) → AllLong ls → AllLong (with_fresh e ls)
with_fresh_long e [] all = (omega arith, tt)
with_fresh_long e (l ∷ ls) all = by (goes_on e l)
  where
    by : (t : Bool) → AllLong (cond t (fresh_line e (l.length + 1) ∷ ls) (fresh_line e 1 ∷ l ∷ ls))
    by true = (omega arith, all.1)
    by false = (omega arith, all)

all_long : (placed : Places) → AllLong (fresh_lines placed)
all_long [] = tt
all_long (e ∷ es) = with_fresh_long e (fresh_lines es) (all_long es)

-- ---- the last place of a line

all_front : {X : Type 0} (P : X → Type 0) (xs ys : List X) → All P (xs ++ ys) → All P xs
all_front P [] ys all = All-nil P
all_front P (x ∷ xs) ys all = All-cons P x xs (All-head P x (xs ++ ys) all) (all_front P xs ys (All-tail P x (xs ++ ys) all))

all_behind : {X : Type 0} (P : X → Type 0) (xs ys : List X) → All P (xs ++ ys) → All P ys
all_behind P [] ys all = all
all_behind P (x ∷ xs) ys all = all_behind P xs ys (All-tail P x (xs ++ ys) all)

span_last : (P : Spot × ℕ → Type 0) (f : ℕ → Spot × ℕ) (from n : ℕ) → All P (map f (span from (suc n))) → P (f (from + n))
span_last P f from zero all = let e : from ≡ from + zero = omega arith in subst (λ (k : ℕ). P (f k)) e (All-head P (f from) (map f (span (from + 1) zero)) all)
span_last P f from (suc n) all =
    let e : from + 1 + n ≡ from + suc n = omega arith in
    subst (λ (k : ℕ). P (f k)) e (span_last P f (from + 1) n (All-tail P (f from) (map f (span (from + 1) (suc n))) all))

line_last : (P : Spot × ℕ → Type 0) (l : Line) (n : ℕ) → l.length ≡ suc n → All P (line_places l) → P ((l.number, l.place + n), l.block + n)
line_last P l n long all =
    let f : ℕ → Spot × ℕ = λ k. ((l.number, l.place + k), l.block + k) in
    let e : 0 + n ≡ n = omega arith in
    subst (λ (k : ℕ). P (f k)) e (span_last P f 0 n (subst (λ (k : ℕ). All P (map f (span 0 k))) long all))

-- ---- all lines

one_within : (size : ℕ) (l : Line) → 1 ≤ l.length → All (λ (e : Spot × ℕ). (e.0.1 < 1048576) × (e.1 < size)) (line_places l) → IsLineWithin size l
one_within size l long all = by l.length refl long
  where
    by : (n : ℕ) → l.length ≡ n → 1 ≤ n → IsLineWithin size l
    by zero is le = absurd (omega (arith, le))
    by (suc n) is le =
        let last : (l.place + n < 1048576) × (l.block + n < size) = line_last (λ (e : Spot × ℕ). (e.0.1 < 1048576) × (e.1 < size)) l n is all in
        record { places = omega (arith, last.0, is); blocks = omega (arith, last.1, is) }

lines_below : (size : ℕ) (ls : List Line) → AllLong ls → All (λ (e : Spot × ℕ). (e.0.1 < 1048576) × (e.1 < size)) (lines_places ls) → All (IsLineWithin size) ls
lines_below size [] long all = All-nil (IsLineWithin size)
lines_below size (l ∷ ls) long all =
    let parts = subst (All (λ (e : Spot × ℕ). (e.0.1 < 1048576) × (e.1 < size))) (flat_map-cons line_places l ls) all in
    All-cons (IsLineWithin size) l ls (one_within size l long.0 (all_front (λ (e : Spot × ℕ). (e.0.1 < 1048576) × (e.1 < size)) (line_places l) (lines_places ls) parts))
    (lines_below size ls long.1 (all_behind (λ (e : Spot × ℕ). (e.0.1 < 1048576) × (e.1 < size)) (line_places l) (lines_places ls) parts))

-- ---- places are among the spots

either_true : (a b : Bool) → b ≡ true → (a || b) ≡ true
either_true true b e = refl
either_true false b e = e

spot_self : (a : Spot) → spot_eq a a ≡ true
spot_self a =
    let one : nat_eq a.0 a.0 ≡ true = grind (arith, nat_tests) in
    let two : nat_eq a.1 a.1 ≡ true = grind (arith, nat_tests) in
    λ i. one i && two i

places_below : (size : ℕ) (es : Places) → ((spot : Spot) → has_spot (spots_of es) spot ≡ true → spot.1 < 1048576) → All (λ b. b < size) (blocks_of es) → All (λ (e : Spot × ℕ). (e.0.1 < 1048576) × (e.1 < size)) es
places_below size [] near blocks = All-nil (λ (e : Spot × ℕ). (e.0.1 < 1048576) × (e.1 < size))
places_below size (e ∷ es) near blocks =
    All-cons (λ (x : Spot × ℕ). (x.0.1 < 1048576) × (x.1 < size)) e es
    (near e.0 (ap (λ (t : Bool). t || has_spot (spots_of es) e.0) (spot_self e.0)), All-head (λ b. b < size) e.1 (blocks_of es) blocks)
    (places_below size es (λ spot has. near spot (either_true (spot_eq e.0 spot) (has_spot (spots_of es) spot) has)) (All-tail (λ b. b < size) e.1 (blocks_of es) blocks))

-- fresh lines whose places are near and whose blocks are within
pub lines_within : (size : ℕ) (lines : List Line) → lines ≡ fresh_lines (lines_places lines) → ((spot : Spot) → has_spot (spots_of (lines_places lines)) spot ≡ true → spot.1 < 1048576)
    → All (λ b. b < size) (blocks_of (lines_places lines)) → All (IsLineWithin size) lines
lines_within size lines longest near blocks = lines_below size lines (subst AllLong (sym longest) (all_long (lines_places lines))) (places_below size (lines_places lines) near blocks)
