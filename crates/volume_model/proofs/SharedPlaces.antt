-- What a point shares: its places are dirty, and its blocks are cached.
use Rattle.std.proofs.Common.{◌≡◌, ℕ, zero, suc, ◌+◌, ◌<◌, ◌≤◌, Bool, true, false, not, cond, List, [], ◌∷◌, ◌++◌, map, filter, sym, subst, arith}
use Rattle.std.specs.Prelude.{◌||◌, ◌&&◌, nat_eq, nat_le}
use Rattle.std.specs.List.{flat_map}
use Rattle.std.proofs.lemmas.List.Concat.{flat_map-cons}
use Rattle.place_words.specs.Different.{is_among, span}
use Rattle.tree_model.specs.declared.report.Line.{Line}
use Rattle.volume_model.specs.declared.sequence.Sequence.{Sequence}
use Rattle.volume_model.specs.Cache.{is_cached}
use Rattle.volume_model.specs.Lines.{share_line, line_places, lines_places}
use Rattle.volume_model.specs.Machine.{Machine, Rules}
use Rattle.volume_model.specs.Places.{Spot, Places, has_spot}
use Rattle.volume_model.specs.Point.{share_lines}
use Rattle.volume_model.specs.Selection.{Matching, IsSequence, covers, without, Picks, in_place, by_place}
use Rattle.volume_model.specs.Sharing.{selected, numbers_of, matches, dirty_places}
use Rattle.volume_model.specs.Whole.{IsWhole}
use Rattle.volume_model.proofs.Cached.{or_later, or_same}
use Rattle.volume_model.proofs.Order.{first_of, second_of, places_numbered}
use Rattle.volume_model.proofs.SharingLaws.{selected_is, matches_cached}

both_true : (a b : Bool) → a ≡ true → b ≡ true → (a && b) ≡ true
both_true true b e f = f
both_true false b e f = cc

-- ---- each sequence that is selected is one among all dirty places

abbrev pub AllIn : Matching → List ℕ → List Sequence → Type 0
AllIn matches places [] = Unit {0}
AllIn matches places (q ∷ qs) = IsSequence matches places q × AllIn matches places qs

pub fewer : (q : Sequence) (places : List ℕ) (x : ℕ) → is_among (without places q) x ≡ true → is_among places x ≡ true
fewer q [] x e = e
fewer q (p ∷ ps) x e = by (not (covers q p)) e (fewer q ps x)
  where
    by : (t : Bool) → is_among (cond t (p ∷ without ps q) (without ps q)) x ≡ true → (is_among (without ps q) x ≡ true → is_among ps x ≡ true) → (nat_eq p x || is_among ps x) ≡ true
    by true e more = or_same (nat_eq p x) _ _ more e
    by false e more = or_later (nat_eq p x) _ (more e)

wider : (matches : Matching) (ps qs : List ℕ) → ((x : ℕ) → is_among ps x ≡ true → is_among qs x ≡ true) → (s : Sequence) → IsSequence matches ps s → IsSequence matches qs s
wider matches ps qs part s is = (is.0, λ k less. both_true (is_among qs (s.first + k)) _ (part (s.first + k) (first_of _ _ (is.1 k less))) (second_of (is_among ps (s.first + k)) _ (is.1 k less)))

all_wider : (matches : Matching) (ps qs : List ℕ) → ((x : ℕ) → is_among ps x ≡ true → is_among qs x ≡ true) → (ss : List Sequence) → AllIn matches ps ss → AllIn matches qs ss
all_wider matches ps qs part [] all = tt
all_wider matches ps qs part (s ∷ ss) all = (wider matches ps qs part s all.0, all_wider matches ps qs part ss all.1)

picked_in : (matches : Matching) (threshold : ℕ) (places : List ℕ) (qs : List Sequence) → Picks matches threshold places qs → AllIn matches places qs
picked_in matches threshold places [] h = tt
picked_in matches threshold places (q ∷ qs) h = (h.0.sequence, all_wider matches (without places q) places (fewer q places) qs (picked_in matches threshold (without places q) qs h.1))

in_place_in : (matches : Matching) (places : List ℕ) (q : Sequence) (ps : List Sequence) → IsSequence matches places q → AllIn matches places ps → AllIn matches places (in_place q ps)
in_place_in matches places q [] own all = (own, tt)
in_place_in matches places q (p ∷ ps) own all = by (nat_le q.first p.first) (in_place_in matches places q ps own all.1)
  where
    by : (t : Bool) → AllIn matches places (in_place q ps) → AllIn matches places (cond t (q ∷ p ∷ ps) (p ∷ in_place q ps))
    by true more = (own, all)
    by false more = (all.0, more)

by_place_in : (matches : Matching) (places : List ℕ) (qs : List Sequence) → AllIn matches places qs → AllIn matches places (by_place qs)
by_place_in matches places [] all = tt
by_place_in matches places (q ∷ qs) all = in_place_in matches places q (by_place qs) all.0 (by_place_in matches places qs all.1)

pub selected_in : (r : Rules) (m : Machine) (number : ℕ) → 0 < r.threshold → IsWhole m → AllIn (matches m number) (dirty_places m number) (selected r m number)
selected_in r m number positive whole =
    let s = selected_is r m number positive whole.dirty_in_order in
    subst (λ (qs : List Sequence). AllIn (matches m number) (dirty_places m number) qs) (sym s.sorted)
    (by_place_in (matches m number) (dirty_places m number) s.picked (picked_in (matches m number) r.threshold (dirty_places m number) s.picked s.one_by_one))

-- ---- what is shared is dirty, and its blocks are cached

abbrev pub AreShared : Machine → Places → Type 0
AreShared m [] = Unit {0}
AreShared m (e ∷ es) = (has_spot m.dirty e.0 ≡ true) × (is_cached m.cache e.1 ≡ true) × AreShared m es

shared_append : (m : Machine) (ps qs : Places) → AreShared m ps → AreShared m qs → AreShared m (ps ++ qs)
shared_append m [] qs a b = b
shared_append m (p ∷ ps) qs a b = (a.0, a.1, shared_append m ps qs a.2 b)

dirty_has : (number place : ℕ) (spots : List Spot) → is_among (places_numbered number spots) place ≡ true → has_spot spots (number, place) ≡ true
dirty_has number place [] e = cc
dirty_has number place (s ∷ ss) e = by (nat_eq s.0 number) e (dirty_has number place ss)
  where
    by : (t : Bool) → is_among (map (λ (s : Spot). s.1) (cond t (s ∷ filter (λ (s : Spot). nat_eq s.0 number) ss) (filter (λ (s : Spot). nat_eq s.0 number) ss))) place ≡ true
        → (is_among (places_numbered number ss) place ≡ true → has_spot ss (number, place) ≡ true) → ((t && nat_eq s.1 place) || has_spot ss (number, place)) ≡ true
    by true e more = or_same (nat_eq s.1 place) _ _ more e
    by false e more = more e

span_shared : (m : Machine) (f : ℕ → Spot × ℕ) (from n : ℕ) → ((k : ℕ) → from ≤ k → k < from + n → (has_spot m.dirty (f k).0 ≡ true) × (is_cached m.cache (f k).1 ≡ true)) → AreShared m (map f (span from n))
span_shared m f from zero each = tt
span_shared m f from (suc n) each =
    let first = each from (omega arith) (omega arith) in
    (first.0, first.1, span_shared m f (from + 1) n (λ k least less. each k (omega (arith, least)) (omega (arith, less))))

line_shared : (m : Machine) (number : ℕ) (q : Sequence) → IsSequence (matches m number) (dirty_places m number) q → AreShared m (line_places (share_line number q))
line_shared m number q is = span_shared m (λ (k : ℕ). ((number, q.first + k), q.block + k)) 0 q.length (λ k least less.
    let at = is.1 k (omega (arith, less)) in
    (dirty_has number (q.first + k) m.dirty (first_of _ _ at), matches_cached m number (q.first + k) (q.block + k) (second_of (is_among (dirty_places m number) (q.first + k)) _ at)))

lines_shared : (m : Machine) (number : ℕ) (qs : List Sequence) → AllIn (matches m number) (dirty_places m number) qs → AreShared m (lines_places (map (share_line number) qs))
lines_shared m number [] all = tt
lines_shared m number (q ∷ qs) all =
    subst (λ (es : Places). AreShared m es) (sym (flat_map-cons line_places (share_line number q) (map (share_line number) qs)))
    (shared_append m (line_places (share_line number q)) (lines_places (map (share_line number) qs)) (line_shared m number q all.0) (lines_shared m number qs all.1))

lines_append : (m : Machine) (ls ms : List Line) → AreShared m (lines_places ls) → AreShared m (lines_places ms) → AreShared m (lines_places (ls ++ ms))
lines_append m [] ms a b = b
lines_append m (l ∷ ls) ms a b =
    let two = shared_parts m (line_places l) (lines_places ls) (subst (λ (es : Places). AreShared m es) (flat_map-cons line_places l ls) a) in
    subst (λ (es : Places). AreShared m es) (sym (flat_map-cons line_places l (ls ++ ms))) (shared_append m (line_places l) (lines_places (ls ++ ms)) two.0 (lines_append m ls ms two.1 b))
  where
    shared_parts : (m : Machine) (ps qs : Places) → AreShared m (ps ++ qs) → AreShared m ps × AreShared m qs
    shared_parts m [] qs all = (tt, all)
    shared_parts m (p ∷ ps) qs all = let more = shared_parts m ps qs all.2 in ((all.0, all.1, more.0), more.1)

numbers_shared : (r : Rules) (m : Machine) → 0 < r.threshold → IsWhole m → (numbers : List ℕ) → AreShared m (lines_places (flat_map (λ number. map (share_line number) (selected r m number)) numbers))
numbers_shared r m positive whole [] = tt
numbers_shared r m positive whole (n ∷ ns) =
    subst (λ (ls : List Line). AreShared m (lines_places ls)) (sym (flat_map-cons (λ number. map (share_line number) (selected r m number)) n ns))
    (lines_append m (map (share_line n) (selected r m n)) (flat_map (λ number. map (share_line number) (selected r m number)) ns)
    (lines_shared m n (selected r m n) (selected_in r m n positive whole))
    (numbers_shared r m positive whole ns))

pub share_shared : (r : Rules) (m : Machine) → 0 < r.threshold → IsWhole m → AreShared m (lines_places (share_lines r m))
share_shared r m positive whole = numbers_shared r m positive whole (numbers_of m.dirty)
