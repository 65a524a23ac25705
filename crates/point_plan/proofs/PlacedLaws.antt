-- The changes that fresh lines make, number by number.
use Rattle.std.proofs.Common.{◌≡◌, ℕ, ◌+◌, ◌<◌, ◌≤◌, Bool, true, false, cond, List, [], ◌∷◌, ◌++◌, map, refl, sym, ap, subst, ◌∙◌, inr, arith}
use Rattle.std.specs.Prelude.{◌||◌, ◌&&◌, nat_eq, All, filter}
use Rattle.std.specs.List.{AllZip, flat_map}
use Rattle.std.proofs.lemmas.Bool.Decides.{nat_tests}
use Rattle.std.proofs.lemmas.List.Concat.{flat_map-cons}
use Rattle.std.proofs.lemmas.List.Elements.{All-nil, All-cons, All-head, All-tail}
use Rattle.vol_numbers.specs.Geometry.{layout_of}
use Rattle.vol_numbers.specs.declared.block.Block.{Block}
use Rattle.vol_numbers.specs.declared.runs.Change.{Change}
use Rattle.block_format.specs.Index.{IsPointer}
use Rattle.block_tree.specs.Notes.{change_blocks}
use Rattle.block_tree.specs.Pages.{LeadInto}
use Rattle.fresh_runs.specs.Fresh.{as_changes, blocks_in as blocks_told, changes_of}
use Rattle.fresh_runs.specs.Laws.{AreFreshLines, fresh_report}
use Rattle.fresh_runs.proofs.OfPlaces.{changes_are_of_places}
use Rattle.place_words.specs.Different.{times, total}
use Rattle.place_words.specs.Rising.{Rising}
use Rattle.point_model.specs.NodePlan.{AreOfPlaces}
use Rattle.point_plan.specs.Free.{free_now}
use Rattle.point_plan.specs.PlanNodes.{AreAllOfPlaces, AreAtDirty}
use Rattle.point_plan.specs.Planning.{SharesNothing}
use Rattle.point_plan.specs.State.{HoldsPoint, IsOfSize}
use Rattle.point_plan.specs.declared.state.PointState.{PointState}
use Rattle.point_plan.proofs.AreaLaws.{all_counted, free_in_area}
use Rattle.point_plan.proofs.GatheredLaws.{lines_reported, lines_told}
use Rattle.point_plan.proofs.Times.{times_append}
use Rattle.tree_model.specs.declared.report.Line.{Line}
use Rattle.volume_model.specs.Lines.{lines_places}
use Rattle.volume_model.specs.Machine.{Machine, Rules}
use Rattle.volume_model.specs.Places.{Places, Spot, blocks_of, has_spot, spot_eq, spots_of}
use Rattle.volume_model.specs.Point.{placed_after}

spot_self : (a : Spot) → spot_eq a a ≡ true
spot_self a =
    let one : nat_eq a.0 a.0 ≡ true = grind (arith, nat_tests) in
    let two : nat_eq a.1 a.1 ≡ true = grind (arith, nat_tests) in
    λ i. one i && two i

zip_map : (P : ℕ → List Change → Type 0) (f : ℕ → List Change) → ((n : ℕ) → P n (f n)) → (ns : List ℕ) → AllZip P ns (map f ns)
zip_map P f each [] = tt
zip_map P f each (n ∷ ns) = (each n, zip_map P f each ns)

-- the changes of a number are at spots of the lines
changes_at : (all : List Spot) (placed : Places) (n : ℕ) → All (λ (e : Spot × ℕ). has_spot all e.0 ≡ true) placed → All (λ (c : Change). has_spot all (n, c.place) ≡ true) (changes_of placed n)
changes_at all [] n each = All-nil (λ (c : Change). has_spot all (n, c.place) ≡ true)
changes_at all (e ∷ es) n each = by (nat_eq e.0.0 n) refl (changes_at all es n (All-tail (λ (x : Spot × ℕ). has_spot all x.0 ≡ true) e es each))
  where
    by : (t : Bool) → nat_eq e.0.0 n ≡ t → All (λ (c : Change). has_spot all (n, c.place) ≡ true) (changes_of es n) → All (λ (c : Change). has_spot all (n, c.place) ≡ true) (as_changes (cond t (e ∷ filter (λ (x : Spot × ℕ). nat_eq x.0.0 n) es) (filter (λ (x : Spot × ℕ). nat_eq x.0.0 n) es)))
    by true is rest =
        let same : e.0.0 ≡ n = grind (arith, nat_tests) in
        All-cons (λ (c : Change). has_spot all (n, c.place) ≡ true) (record { place = e.0.1; block = e.1 }) (changes_of es n)
        (subst (λ (k : ℕ). has_spot all (k, e.0.1) ≡ true) same (All-head (λ (x : Spot × ℕ). has_spot all x.0 ≡ true) e es each)) rest
    by false is rest = rest

-- each spot is among them all
spots_there : (front rest : Places) → All (λ (e : Spot × ℕ). has_spot (spots_of front ++ spots_of rest) e.0 ≡ true) rest
spots_there front [] = All-nil (λ (e : Spot × ℕ). has_spot (spots_of front ++ []) e.0 ≡ true)
spots_there front (e ∷ es) = All-cons (λ (x : Spot × ℕ). has_spot (spots_of front ++ e.0 ∷ spots_of es) x.0 ≡ true) e es (there (spots_of front)) (subst (λ (ss : List Spot). All (λ (x : Spot × ℕ). has_spot ss x.0 ≡ true) es) (moved front) (spots_there (front ++ e ∷ []) es))
  where
    there : (ss : List Spot) → has_spot (ss ++ e.0 ∷ spots_of es) e.0 ≡ true
    there [] = ap (λ (t : Bool). t || has_spot (spots_of es) e.0) (spot_self e.0)
    there (s ∷ ss) = ap (λ (t : Bool). spot_eq s e.0 || t) (there ss) ∙ either (spot_eq s e.0)
      where
        either : (a : Bool) → (a || true) ≡ true
        either true = refl
        either false = refl

    moved : (front : Places) → spots_of (front ++ e ∷ []) ++ spots_of es ≡ spots_of front ++ (e.0 ∷ spots_of es)
    moved [] = refl
    moved (x ∷ xs) = ap (λ (ss : List Spot). x.0 ∷ ss) (moved xs)

pub changes_at_spots : (placed : Places) (n : ℕ) → AreAtDirty (spots_of placed) n (changes_of placed n)
changes_at_spots placed n = changes_at (spots_of placed) placed n (spots_there [] placed)

-- ---- blocks of the changes

changes_lead : (P : ℕ → Type 0) (placed : Places) (n : ℕ) → All P (blocks_of placed) → All (λ (c : Change). P c.block) (changes_of placed n)
changes_lead P [] n all = All-nil (λ (c : Change). P c.block)
changes_lead P (e ∷ es) n all = by (nat_eq e.0.0 n) (changes_lead P es n (All-tail P e.1 (blocks_of es) all))
  where
    by : (t : Bool) → All (λ (c : Change). P c.block) (changes_of es n) → All (λ (c : Change). P c.block) (as_changes (cond t (e ∷ filter (λ (x : Spot × ℕ). nat_eq x.0.0 n) es) (filter (λ (x : Spot × ℕ). nat_eq x.0.0 n) es)))
    by true rest = All-cons (λ (c : Change). P c.block) (record { place = e.0.1; block = e.1 }) (changes_of es n) (All-head P e.1 (blocks_of es) all) rest
    by false rest = rest

all_mapped : (P : List Change → Type 0) (f : ℕ → List Change) → ((n : ℕ) → P (f n)) → (ns : List ℕ) → All P (map f ns)
all_mapped P f each [] = All-nil P
all_mapped P f each (n ∷ ns) = All-cons P (f n) (map f ns) (each n) (all_mapped P f each ns)

module _ (s : PointState) (numbers : List ℕ) (lines : List Line) (left : List ℕ) (changes : List (List Change)) (parted : (b : ℕ) → times b (blocks_told lines) + times b left ≡ times b (free_now s))
    (are : changes ≡ map (changes_of (lines_places lines)) numbers) where
  pub left_point : All (IsPointer (layout_of s.geometry)) left
  left_point = all_counted (IsPointer (layout_of s.geometry)) (free_now s) left (λ b among. inr (free_in_area s b among)) (λ b. omega (arith, parted b))

  pub changes_point : All (LeadInto (layout_of s.geometry)) changes
  changes_point =
      let told : All (IsPointer (layout_of s.geometry)) (blocks_told lines) = all_counted (IsPointer (layout_of s.geometry)) (free_now s) (blocks_told lines) (λ b among. inr (free_in_area s b among)) (λ b. omega (arith, parted b)) in
      subst (λ (cs : List (List Change)). All (LeadInto (layout_of s.geometry)) cs) (sym are)
      (all_mapped (LeadInto (layout_of s.geometry)) (changes_of (lines_places lines)) (λ n. changes_lead (IsPointer (layout_of s.geometry)) (lines_places lines) n told) numbers)

-- the changes of each number are at its dirty places
pub changes_dirty : (dirty : List Spot) (lines : List Line) (changes : List (List Change)) (numbers : List ℕ) → spots_of (lines_places lines) ≡ dirty → changes ≡ map (changes_of (lines_places lines)) numbers → AllZip (AreAtDirty dirty) numbers changes
changes_dirty dirty lines changes numbers spots are =
    subst (λ (cs : List (List Change)). AllZip (AreAtDirty dirty) numbers cs) (sym are)
    (zip_map (AreAtDirty dirty) (changes_of (lines_places lines)) (λ n. subst (λ (ss : List Spot). AreAtDirty ss n (changes_of (lines_places lines) n)) spots (changes_at_spots (lines_places lines) n)) numbers)

-- and lead to the blocks that these have after the point
module _ (r : Rules) (m : Machine) (old : List Block) (blocks : ℕ) (s : PointState) (lines : List Line) (left : List ℕ) (shares : SharesNothing r) (holds : HoldsPoint r m old s) (sized : IsOfSize blocks s)
    (fresh : AreFreshLines m lines) (parted : (b : ℕ) → times b (blocks_told lines) + times b left ≡ times b (free_now s)) where
  pub changes_placed : (numbers : List ℕ) (changes : List (List Change)) → changes ≡ map (changes_of (lines_places lines)) numbers → AreAllOfPlaces m.dirty (placed_after r m (blocks_told lines)) numbers changes
  changes_placed numbers changes are =
      let told = lines_told r m old blocks s lines left shares holds sized fresh parted in
      let reported = lines_reported r m old blocks s lines left shares holds sized fresh parted in
      subst (λ (cs : List (List Change)). AreAllOfPlaces m.dirty (placed_after r m (blocks_told lines)) numbers cs) (sym are)
      (zip_map (AreOfPlaces m.dirty (placed_after r m (blocks_told lines))) (changes_of (lines_places lines))
      (λ n. subst (λ (bs : List ℕ). AreOfPlaces m.dirty (placed_after r m bs) n (changes_of (lines_places lines) n)) told (changes_are_of_places r m (fresh_report r m lines) n reported)) numbers)

-- ---- each block of the lines is that of one change

none_before : (x h least : ℕ) (ns : List ℕ) → x < least → Rising least ns → total (λ n. cond (nat_eq x n) h 0) ns ≡ 0
none_before x h least [] lt rising = refl
none_before x h least (n ∷ ns) lt rising =
    let low = rising.0 in
    let apart : nat_eq x n ≡ false = grind (arith, nat_tests) in
    let here : cond (nat_eq x n) h 0 ≡ 0 = ap (λ (t : Bool). cond t h 0) apart in
    omega (arith, here, none_before x h (n + 1) ns (omega (arith, lt, low)) rising.1)

once_among : (x h least : ℕ) (ns : List ℕ) → Rising least ns → total (λ n. cond (nat_eq x n) h 0) ns ≤ h
once_among x h least [] rising = omega arith
once_among x h least (n ∷ ns) rising = by (nat_eq x n) refl (once_among x h (n + 1) ns rising.1)
  where
    by : (t : Bool) → nat_eq x n ≡ t → total (λ k. cond (nat_eq x k) h 0) ns ≤ h → cond t h 0 + total (λ k. cond (nat_eq x k) h 0) ns ≤ h
    by true is rest = let same : x ≡ n = grind (arith, nat_tests) in let none = none_before x h (n + 1) ns (omega (arith, same)) rising.1 in omega (arith, none)
    by false is rest = omega (arith, rest)

total_sum : (f g k : ℕ → ℕ) (ns : List ℕ) → ((n : ℕ) → k n ≡ f n + g n) → total k ns ≡ total f ns + total g ns
total_sum f g k [] each = refl
total_sum f g k (n ∷ ns) each = omega (arith, each n, total_sum f g k ns each)

-- how often a block is that of a change of a number
abbrev changed : ℕ → Places → ℕ → ℕ
changed b placed n = times b (change_blocks (changes_of placed n))

changed_more : (b : ℕ) (e : Spot × ℕ) (es : Places) (n : ℕ) → changed b (e ∷ es) n ≡ changed b es n + cond (nat_eq e.0.0 n) (cond (nat_eq e.1 b) 1 0) 0
changed_more b e es n = by (nat_eq e.0.0 n)
  where
    by : (t : Bool) → times b (change_blocks (as_changes (cond t (e ∷ filter (λ (x : Spot × ℕ). nat_eq x.0.0 n) es) (filter (λ (x : Spot × ℕ). nat_eq x.0.0 n) es)))) ≡ changed b es n + cond t (cond (nat_eq e.1 b) 1 0) 0
    by true = omega arith
    by false = omega arith

changed_most : (b least : ℕ) (ns : List ℕ) (placed : Places) → Rising least ns → total (changed b placed) ns ≤ times b (blocks_of placed)
changed_most b least ns [] rising = none ns
  where
    none : (xs : List ℕ) → total (changed b []) xs ≤ 0
    none [] = omega arith
    none (x ∷ xs) = omega (arith, none xs)
changed_most b least ns (e ∷ es) rising =
    let hit : ℕ = cond (nat_eq e.1 b) 1 0 in
    let sum : total (changed b (e ∷ es)) ns ≡ total (changed b es) ns + total (λ n. cond (nat_eq e.0.0 n) hit 0) ns = total_sum (changed b es) (λ n. cond (nat_eq e.0.0 n) hit 0) (changed b (e ∷ es)) ns (changed_more b e es) in
    omega (arith, sum, changed_most b least ns es rising, once_among e.0.0 hit least ns rising)

flat_total : (b : ℕ) (f : ℕ → List Change) (ns : List ℕ) → times b (flat_map change_blocks (map f ns)) ≡ total (λ n. times b (change_blocks (f n))) ns
flat_total b f [] = refl
flat_total b f (n ∷ ns) = ap (times b) (flat_map-cons change_blocks (f n) (map f ns)) ∙ times_append b (change_blocks (f n)) (flat_map change_blocks (map f ns)) ∙ ap (λ (k : ℕ). times b (change_blocks (f n)) + k) (flat_total b f ns)

pub changes_used : (lines : List Line) (changes : List (List Change)) (numbers : List ℕ) → Rising 0 numbers → changes ≡ map (changes_of (lines_places lines)) numbers → (b : ℕ) → times b (flat_map change_blocks changes) ≤ times b (blocks_told lines)
changes_used lines changes numbers rising are b =
    let sum : times b (flat_map change_blocks changes) ≡ total (changed b (lines_places lines)) numbers = ap (λ (cs : List (List Change)). times b (flat_map change_blocks cs)) are ∙ flat_total b (changes_of (lines_places lines)) numbers in
    omega (arith, sum, changed_most b 0 numbers (lines_places lines) rising)
