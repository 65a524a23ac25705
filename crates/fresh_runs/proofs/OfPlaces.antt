-- The changes of a file are its dirty places with the blocks that they have after the point.
use Rattle.std.proofs.Common.{◌≡◌, ◌≤◌, ◌<◌, ℕ, zero, suc, ◌+◌, ◌==◌, Bool, true, false, cond, List, [], ◌∷◌, ◌++◌, length, map, filter, Some, refl, sym, ap, subst, ◌∙◌, arith}
use Rattle.std.specs.Prelude.{◌&&◌, All, nat_eq}
use Rattle.std.specs.FinMap.{find}
use Rattle.std.proofs.lemmas.List.Concat.{flat_map-cons}
use Rattle.std.proofs.lemmas.List.Elements.{All-head, All-tail}
use Rattle.std.proofs.lemmas.Bool.Decides.{nat_tests}
use Rattle.vol_numbers.specs.declared.runs.Change.{Change}
use Rattle.place_words.specs.Different.{span}
use Rattle.block_tree.specs.Edit.{changed_at}
use Rattle.tree_model.specs.declared.report.Line.{Line}
use Rattle.tree_model.specs.declared.report.Report.{Report}
use Rattle.volume_model.specs.Lines.{line_places, lines_places}
use Rattle.volume_model.specs.Machine.{Machine, Rules}
use Rattle.volume_model.specs.Places.{Spot, Places, has_spot, spot_cmp, spot_eq, spots_of}
use Rattle.volume_model.specs.Point.{fresh_in, placed_after}
use Rattle.volume_model.specs.ReportLaws.{HasItsBlocks, IsReport, lines_with}
use Rattle.volume_model.proofs.LineCounts.{each_place_once, lines_times, spot_times}
use Rattle.volume_model.proofs.PlacesTold.{places_are_told}
use Rattle.volume_model.proofs.WholeLaws.{same_spot}
use Rattle.point_model.specs.NodePlan.{AreOfPlaces}
use Rattle.fresh_runs.specs.Fresh.{changes_of}
use Rattle.fresh_runs.specs.Laws.{ChangesAreOfPlaces}
use Rattle.fresh_runs.proofs.Numbering.{changes_cons, one_change}

-- ---- each place of a line has its block

abbrev AllFound : Places → Places → Type 0
AllFound placed [] = Unit {0}
AllFound placed (e ∷ es) = (find spot_cmp e.0 placed ≡ Some e.1) × AllFound placed es

found_append : (placed ps qs : Places) → AllFound placed ps → AllFound placed qs → AllFound placed (ps ++ qs)
found_append placed [] qs one two = two
found_append placed (p ∷ ps) qs one two = (one.0, found_append placed ps qs one.1 two)

found_span : (placed : Places) (number place block from n : ℕ) → ((k : ℕ) → from ≤ k → k < from + n → find spot_cmp (number, place + k) placed ≡ Some (block + k))
    → AllFound placed (map (λ (k : ℕ). ((number, place + k), block + k)) (span from n))
found_span placed number place block from zero each = tt
found_span placed number place block from (suc n) each =
    (each from (omega arith) (omega arith), found_span placed number place block (from + 1) n (λ k low high. each k (omega (arith, low)) (omega (arith, high))))

lines_found : (placed : Places) (ls : List Line) → All (HasItsBlocks placed) ls → AllFound placed (lines_places ls)
lines_found placed [] all = tt
lines_found placed (l ∷ ls) all =
    let own = All-head (HasItsBlocks placed) l ls all in
    subst (AllFound placed) (sym (flat_map-cons line_places l ls))
    (found_append placed (line_places l) (lines_places ls) (found_span placed l.number l.place l.block 0 l.length (λ k low high. own k (omega (arith, high)))) (lines_found placed ls (All-tail (HasItsBlocks placed) l ls all)))

-- ---- what changes make of a map

kept : (es : Places) (n p : ℕ) (old : ℕ → ℕ) → spot_times (spots_of es) (n, p) ≡ 0 → changed_at (changes_of es n) old p ≡ old p
kept [] n p old none = refl
kept (e ∷ es) n p old none = by (nat_eq e.0.0 n) (nat_eq e.0.1 p) refl refl (λ o rest. kept es n p o rest)
  where
    rest_none : spot_times (spots_of es) (n, p) ≡ 0
    rest_none = omega (arith, none)

    by : (t u : Bool) → nat_eq e.0.0 n ≡ t → nat_eq e.0.1 p ≡ u → ((o : ℕ → ℕ) → spot_times (spots_of es) (n, p) ≡ 0 → changed_at (changes_of es n) o p ≡ o p)
        → changed_at (changes_of (e ∷ es) n) old p ≡ old p
    by true true is also later = absurd (let own : spot_eq e.0 (n, p) ≡ true = grind (arith, nat_tests) in let one = ap (λ (t : Bool). cond t 1 0 + spot_times (spots_of es) (n, p)) own in omega (arith, one, none))
    by true false is also later =
        ap (λ (cs : List Change). changed_at cs old p) (changes_cons e es n true is) ∙ later (λ q. cond (q == e.0.1) e.1 (old q)) rest_none
        ∙ ap (λ (t : Bool). cond t e.1 (old p)) (let apart : (p == e.0.1) ≡ false = grind (arith, nat_tests) in apart)
    by false u is also later = ap (λ (cs : List Change). changed_at cs old p) (changes_cons e es n false is) ∙ later old rest_none

found : (placed es : Places) (n p : ℕ) (old : ℕ → ℕ) → AllFound placed es → 1 ≤ spot_times (spots_of es) (n, p) → find spot_cmp (n, p) placed ≡ Some (changed_at (changes_of es n) old p)
found placed [] n p old all some = absurd (omega (arith, some))
found placed (e ∷ es) n p old all some = by (nat_eq e.0.0 n) refl (spot_times (spots_of es) (n, p)) refl (λ o more. found placed es n p o all.1 more)
  where
    after : ℕ → ℕ
    after q = cond (q == e.0.1) e.1 (old q)

    by : (t : Bool) → nat_eq e.0.0 n ≡ t → (k : ℕ) → spot_times (spots_of es) (n, p) ≡ k → ((o : ℕ → ℕ) → 1 ≤ spot_times (spots_of es) (n, p) → find spot_cmp (n, p) placed ≡ Some (changed_at (changes_of es n) o p))
        → find spot_cmp (n, p) placed ≡ Some (changed_at (changes_of (e ∷ es) n) old p)
    by true is zero many later =
        let own : spot_eq e.0 (n, p) ≡ true = is_own (spot_eq e.0 (n, p)) refl in
        let same = same_spot e.0 (n, p) own in
        let here : (p == e.0.1) ≡ true = grind (arith, nat_tests) in
        subst (λ (s : Spot). find spot_cmp s placed ≡ Some e.1) same all.0
        ∙ ap Some (sym (ap (λ (cs : List Change). changed_at cs old p) (changes_cons e es n true is) ∙ kept es n p (λ q. cond (q == e.0.1) e.1 (old q)) many ∙ ap (λ (t : Bool). cond t e.1 (old p)) here))
      where
        is_own : (t : Bool) → spot_eq e.0 (n, p) ≡ t → t ≡ true
        is_own true same = refl
        is_own false same = absurd (let none = ap (λ (t : Bool). cond t 1 0 + spot_times (spots_of es) (n, p)) same in omega (arith, none, many, some))
    by true is (suc k) many later = later (λ q. cond (q == e.0.1) e.1 (old q)) (omega (arith, many)) ∙ ap Some (sym (ap (λ (cs : List Change). changed_at cs old p) (changes_cons e es n true is)))
    by false is k many later =
        let apart : spot_eq e.0 (n, p) ≡ false = grind (arith, nat_tests) in
        let none = ap (λ (t : Bool). cond t 1 0 + spot_times (spots_of es) (n, p)) apart in
        later old (omega (arith, none, some)) ∙ ap Some (sym (ap (λ (cs : List Change). changed_at cs old p) (changes_cons e es n false is)))

pub changes_are_of_places : ChangesAreOfPlaces
changes_are_of_places r m report number is =
    let placed = placed_after r m (fresh_in report) in
    let all = lines_found placed report.lines (places_are_told.lines r m report is) in
    let many : (place : ℕ) → spot_times (spots_of (lines_places report.lines)) (number, place) ≡ cond (has_spot m.dirty (number, place)) 1 0 =
    λ place. lines_times report.lines (number, place) ∙ each_place_once r m report is (number, place) in
    record {
      dirty_places = λ old place has. found placed (lines_places report.lines) number place old all (one_there (many place ∙ ap (λ (t : Bool). cond t 1 0) has));
      other_places = λ old place none. kept (lines_places report.lines) number place old (many place ∙ ap (λ (t : Bool). cond t 1 0) none);
    }
  where
    one_there : {k : ℕ} → k ≡ 1 → 1 ≤ k
    one_there same = omega (arith, same)
