-- A full tree whose places are below its number of blocks is met without a fault.
use Rattle.std.proofs.Common.{◌≡◌, ℕ, zero, suc, ◌+◌, ◌≤◌, Bool, true, false, not, cond, List, [], ◌∷◌, ◌++◌, length, take, map, refl, sym, ap, ◌∙◌, arith}
use Rattle.std.specs.Prelude.{◌==◌, ◌&&◌, nat_lt}
use Rattle.std.specs.List.{list_all}
use Rattle.std.proofs.lemmas.List.{map-append, append-nil, append_assoc}
use Rattle.std.proofs.lemmas.Bool.Decides.{nat_tests}
use Rattle.block_format.specs.Words.{words}
use Rattle.block_tree.specs.Tree.{Blocks, index_at, pairs_from, leaves_pairs, pairs_below, nonzero, indexes_below, IsFull}
use Rattle.block_tree.proofs.Count.{some_pair}
use Rattle.block_tree.proofs.Rise.{places_in, leaf_rises, leaves_rise}
use Rattle.place_words.specs.Rising.{Rising}
use Rattle.image_model.specs.Met.{Met, index, past, empty}
use Rattle.image_model.specs.Walk.{met_at, places_met, empty_met, tops_met, leaves_met, tree_met}
use Rattle.image_model.specs.Nodes.{AllBelow}
use Rattle.image_model.proofs.TreeLaws.{map_cond, some_step}

first_below : (blocks : ℕ) (xs ys : List (ℕ × ℕ)) → AllBelow blocks (xs ++ ys) → AllBelow blocks xs
first_below blocks [] ys all = tt
first_below blocks (x ∷ xs) ys all = (all.0, first_below blocks xs ys all.1)

other_below : (blocks : ℕ) (xs ys : List (ℕ × ℕ)) → AllBelow blocks (xs ++ ys) → AllBelow blocks ys
other_below blocks [] ys all = all
other_below blocks (x ∷ xs) ys all = other_below blocks xs ys all.1

-- where a pair is below, so is the place that they rise from
starts_below : (blocks place : ℕ) (pairs : List (ℕ × ℕ)) → Rising place (places_in pairs) → AllBelow blocks pairs → 1 ≤ length pairs → nat_lt place blocks ≡ true
starts_below blocks place [] rising below some_there = absurd (omega arith)
starts_below blocks place (e ∷ pairs) rising below some_there = let le : place ≤ e.0 = rising.0 in let is : nat_lt e.0 blocks ≡ true = below.0 in grind (arith, nat_tests)

met_by : (t below : Bool) (m : Met) (p : ℕ) → (t ≡ false → below ≡ true) → cond t [] (cond below m (past p) ∷ []) ≡ cond t [] (m ∷ [])
met_by true below m p is = refl
met_by false below m p is = ap (λ (b : Bool). cond b m (past p) ∷ []) (is refl)

one_below : (t : Bool) (blocks place p : ℕ) (rest : List (ℕ × ℕ)) → AllBelow blocks (cond t [] ((place, p) ∷ []) ++ rest) → t ≡ false → nat_lt place blocks ≡ true
one_below true blocks place p rest all is = cc
one_below false blocks place p rest all is = all.0

pub places_spelled : (what : ℕ → ℕ → Met) (blocks place : ℕ) (ps : List ℕ) → AllBelow blocks (pairs_from place ps) → places_met what blocks place ps ≡ map (λ (e : ℕ × ℕ). what e.0 e.1) (pairs_from place ps)
places_spelled what blocks place [] all = refl
places_spelled what blocks place (p ∷ ps) all =
    let here = cond (p == 0) [] ((place, p) ∷ []) in
    let first = met_by (p == 0) (nat_lt place blocks) (what place p) p (one_below (p == 0) blocks place p (pairs_from (place + 1) ps) all) ∙ map_cond what (p == 0) place p in
    let more = places_spelled what blocks (place + 1) ps (other_below blocks here (pairs_from (place + 1) ps) all) in
    (λ i. first i ++ more i) ∙ sym (map-append (λ (e : ℕ × ℕ). what e.0 e.1) here (pairs_from (place + 1) ps))

leaf_step : (t : Bool) (read : Blocks) (what : ℕ → ℕ → Met) (blocks place b : ℕ) → (b == 0) ≡ t → (t ≡ false → list_all (λ p. p == 0) (index_at read b) ≡ false) → AllBelow blocks (pairs_from place (index_at read b))
    → cond t [] (empty_met b (index_at read b) ++ places_met what blocks place (index_at read b)) ≡ map (λ (e : ℕ × ℕ). what e.0 e.1) (pairs_from place (index_at read b))
leaf_step true read what blocks place b is full all = sym (ap (λ (t : Bool). map (λ (e : ℕ × ℕ). what e.0 e.1) (pairs_from place (cond t [] (take 1024 (words (read b)))))) is)
leaf_step false read what blocks place b is full all =
    (λ i. cond (full refl i) (empty b ∷ []) [] ++ places_spelled what blocks place (index_at read b) all i)

-- the index blocks of a list of pointers are full where each is
full_first : (t : Bool) (read : Blocks) (p : ℕ) (ps : List ℕ) → IsFull read (cond (not t) (p ∷ nonzero ps) (nonzero ps)) → (t ≡ false → list_all (λ q. q == 0) (index_at read p) ≡ false) × IsFull read (nonzero ps)
full_first true read p ps full = (λ e. cc, full)
full_first false read p ps full = (λ e. full.0, full.1)

some_there : (t : Bool) (read : Blocks) (blocks place p : ℕ) → (p == 0) ≡ t → (t ≡ false → list_all (λ q. q == 0) (index_at read p) ≡ false) → AllBelow blocks (pairs_from place (index_at read p)) → t ≡ false → nat_lt place blocks ≡ true
some_there t read blocks place p is full all e = starts_below blocks place (pairs_from place (index_at read p)) (leaf_rises place (index_at read p)) all (some_pair place (index_at read p) (full e))

pub leaves_spelled : (read : Blocks) (what : ℕ → ℕ → Met) (blocks place : ℕ) (ps : List ℕ) → IsFull read (nonzero ps) → AllBelow blocks (leaves_pairs read place ps)
    → (tops_met blocks place ps ≡ map index (nonzero ps)) × (leaves_met read what blocks place ps ≡ map (λ (e : ℕ × ℕ). what e.0 e.1) (leaves_pairs read place ps))
leaves_spelled read what blocks place [] full all = (refl, refl)
leaves_spelled read what blocks place (p ∷ ps) full all =
    let here = pairs_from place (index_at read p) in
    let rest = leaves_pairs read (place + 1024) ps in
    let parts = full_first (p == 0) read p ps full in
    let own = first_below blocks here rest all in
    let more = leaves_spelled read what blocks (place + 1024) ps parts.1 (other_below blocks here rest all) in
    let top = met_by (p == 0) (nat_lt place blocks) (index p) p (some_there (p == 0) read blocks place p refl parts.0 own) in
    let leaf = leaf_step (p == 0) read what blocks place p refl parts.0 own in (
      (λ i. top i ++ more.0 i) ∙ some_step (p == 0) p ps,
      (λ i. leaf i ++ more.1 i) ∙ sym (map-append (λ (e : ℕ × ℕ). what e.0 e.1) here rest),
    )

some_leaves : (read : Blocks) (ps : List ℕ) → list_all (λ q. q == 0) ps ≡ false → IsFull read (nonzero ps) → (place : ℕ) → 1 ≤ length (leaves_pairs read place ps)
some_leaves read [] none full place = cc
some_leaves read (p ∷ ps) none full place = by (p == 0) none (full_first (p == 0) read p ps full) (some_leaves read ps)
  where
    longer : (xs ys : List (ℕ × ℕ)) → 1 ≤ length xs → 1 ≤ length (xs ++ ys)
    longer [] ys some_there = absurd (omega arith)
    longer (x ∷ xs) ys some_there = omega arith

    later : (xs ys : List (ℕ × ℕ)) → 1 ≤ length ys → 1 ≤ length (xs ++ ys)
    later [] ys some_there = some_there
    later (x ∷ xs) ys some_there = omega arith

    by : (t : Bool) → (t && list_all (λ q. q == 0) ps) ≡ false → (t ≡ false → list_all (λ q. q == 0) (index_at read p) ≡ false) × IsFull read (nonzero ps)
        → (list_all (λ q. q == 0) ps ≡ false → IsFull read (nonzero ps) → (place : ℕ) → 1 ≤ length (leaves_pairs read place ps)) → 1 ≤ length (pairs_from place (index_at read p) ++ leaves_pairs read (place + 1024) ps)
    by true none parts more = later (pairs_from place (index_at read p)) _ (more none parts.1 (place + 1024))
    by false none parts more = longer (pairs_from place (index_at read p)) _ (some_pair place (index_at read p) (parts.0 refl))

blank : (t : Bool) (read : Blocks) (b : ℕ) → (t ≡ false → list_all (λ p. p == 0) (index_at read b) ≡ false) → cond t [] (empty_met b (index_at read b)) ≡ []
blank true read b full = refl
blank false read b full = ap (λ (t : Bool). cond t (empty b ∷ []) []) (full refl)

-- the whole tree
pub tree_spelled : (read : Blocks) (what : ℕ → ℕ → Met) (blocks height ptr : ℕ) → IsFull read (indexes_below read height ptr) → AllBelow blocks (pairs_below read height ptr)
    → tree_met read what blocks height ptr ≡ map index (indexes_below read height ptr) ++ map (λ (e : ℕ × ℕ). what e.0 e.1) (pairs_below read height ptr)
tree_spelled read what blocks zero ptr full all = sym (append-nil (met_at (what 0) (nat_lt 0 blocks) ptr)) ∙ places_spelled what blocks 0 (ptr ∷ []) all
tree_spelled read what blocks (suc zero) ptr full all =
    let parts = full_first (ptr == 0) read ptr [] full in
    let top = met_by (ptr == 0) (nat_lt 0 blocks) (index ptr) ptr (some_there (ptr == 0) read blocks 0 ptr refl parts.0 all) in
    let leaf = leaf_step (ptr == 0) read what blocks 0 ptr refl parts.0 all in
    (λ i. (sym (append-nil (met_at index (nat_lt 0 blocks) ptr)) ∙ (λ j. top j ++ []) ∙ some_step (ptr == 0) ptr []) i ++ leaf i)
tree_spelled read what blocks (suc (suc height)) ptr full all =
    let ptrs = index_at read ptr in
    let parts = full_first (ptr == 0) read ptr ptrs full in
    let below = leaves_spelled read what blocks 0 ptrs parts.1 all in
    let top = met_by (ptr == 0) (nat_lt 0 blocks) (index ptr) ptr (λ e. starts_below blocks 0 (leaves_pairs read 0 ptrs) (leaves_rise read 0 ptrs) all (some_leaves read ptrs (parts.0 e) parts.1 0)) in
    let pairs = map (λ (e : ℕ × ℕ). what e.0 e.1) (leaves_pairs read 0 ptrs) in
    (λ i. top i ++ (blank (ptr == 0) read ptr parts.0 i ++ (below.0 i ++ below.1 i)))
    ∙ sym (append_assoc (cond (ptr == 0) [] (index ptr ∷ [])) (map index (nonzero ptrs)) pairs)
    ∙ ap (λ (ms : List Met). ms ++ pairs) (some_step (ptr == 0) ptr ptrs)
