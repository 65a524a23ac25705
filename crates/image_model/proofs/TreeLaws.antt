-- What the walk meets below a node is its index blocks and then the blocks of its places, where it meets no fault.
use Rattle.std.proofs.Common.{◌≡◌, ℕ, zero, suc, ◌+◌, Bool, true, false, not, cond, List, [], ◌∷◌, ◌++◌, take, map, refl, sym, ap, subst, ◌∙◌}
use Rattle.std.specs.Prelude.{◌==◌, nat_lt}
use Rattle.std.specs.List.{list_all}
use Rattle.std.proofs.lemmas.List.{map-append, append-nil, append_assoc}
use Rattle.block_format.specs.Words.{words}
use Rattle.block_tree.specs.Tree.{Blocks, index_at, pairs_from, leaves_pairs, pairs_below, nonzero, indexes_below, IsFull}
use Rattle.image_model.specs.Met.{Met, index, past, empty, NoFaults}
use Rattle.image_model.specs.Nodes.{AllBelow}
use Rattle.image_model.specs.Walk.{met_at, places_met, empty_met, empty_at, leaf_met, tops_met, leaves_met, tree_met, entries_met}

pub first_faults : (xs ys : List Met) → NoFaults (xs ++ ys) → NoFaults xs
first_faults [] ys none = tt
first_faults (x ∷ xs) ys none = (none.0, first_faults xs ys none.1)

pub other_faults : (xs ys : List Met) → NoFaults (xs ++ ys) → NoFaults ys
other_faults [] ys none = none
other_faults (x ∷ xs) ys none = other_faults xs ys none.1

-- a pointer of a place that is below the node's blocks
met_place : (t below : Bool) (m : Met) (p : ℕ) (place : ℕ) → NoFaults (cond t [] (cond below m (past p) ∷ [])) → cond t [] (cond below m (past p) ∷ []) ≡ cond t [] (m ∷ [])
met_place true below m p place none = refl
met_place false true m p place none = refl
met_place false false m p place none = absurd none.0

pub map_cond : (what : ℕ → ℕ → Met) (t : Bool) (place p : ℕ) → cond t [] (what place p ∷ []) ≡ map (λ (e : ℕ × ℕ). what e.0 e.1) (cond t [] ((place, p) ∷ []))
map_cond what true place p = refl
map_cond what false place p = refl

pub places_good : (what : ℕ → ℕ → Met) (blocks place : ℕ) (ps : List ℕ) → NoFaults (places_met what blocks place ps) → places_met what blocks place ps ≡ map (λ (e : ℕ × ℕ). what e.0 e.1) (pairs_from place ps)
places_good what blocks place [] none = refl
places_good what blocks place (p ∷ ps) none =
    let here = met_at (what place) (nat_lt place blocks) p in
    let first = met_place (p == 0) (nat_lt place blocks) (what place p) p place (first_faults here (places_met what blocks (place + 1) ps) none) ∙ map_cond what (p == 0) place p in
    let more = places_good what blocks (place + 1) ps (other_faults here (places_met what blocks (place + 1) ps) none) in
    (λ i. first i ++ more i) ∙ sym (map-append (λ (e : ℕ × ℕ). what e.0 e.1) (cond (p == 0) [] ((place, p) ∷ [])) (pairs_from (place + 1) ps))

-- the index blocks that a list of pointers leads to
pub some_step : (t : Bool) (p : ℕ) (ps : List ℕ) → cond t [] (index p ∷ []) ++ map index (nonzero ps) ≡ map index (cond (not t) (p ∷ nonzero ps) (nonzero ps))
some_step true p ps = refl
some_step false p ps = refl

pub tops_good : (blocks place : ℕ) (ps : List ℕ) → NoFaults (tops_met blocks place ps) → tops_met blocks place ps ≡ map index (nonzero ps)
tops_good blocks place [] none = refl
tops_good blocks place (p ∷ ps) none =
    let here = met_at index (nat_lt place blocks) p in
    let first = met_place (p == 0) (nat_lt place blocks) (index p) p place (first_faults here (tops_met blocks (place + 1024) ps) none) in
    let more = tops_good blocks (place + 1024) ps (other_faults here (tops_met blocks (place + 1024) ps) none) in
    (λ i. first i ++ more i) ∙ some_step (p == 0) p ps

pub entries_good : (es : List ℕ) → entries_met es ≡ map index (nonzero es)
entries_good [] = refl
entries_good (e ∷ es) = ap (λ (ms : List Met). cond (e == 0) [] (index e ∷ []) ++ ms) (entries_good es) ∙ some_step (e == 0) e es

none_empty : (t : Bool) (b : ℕ) → NoFaults (cond t (empty b ∷ []) []) → (t ≡ false) × (cond t (empty b ∷ []) [] ≡ [])
none_empty true b none = absurd none.0
none_empty false b none = (refl, refl)

none_empty_at : (t all : Bool) (b : ℕ) → NoFaults (cond t [] (cond all (empty b ∷ []) [])) → (t ≡ false → all ≡ false) × (cond t [] (cond all (empty b ∷ []) []) ≡ [])
none_empty_at true all b none = (λ e. cc, refl)
none_empty_at false true b none = absurd none.0
none_empty_at false false b none = (λ e. refl, refl)

-- a leaf, whose index block isn't empty where there is one
leaf_step : (t : Bool) (read : Blocks) (what : ℕ → ℕ → Met) (blocks place b : ℕ) → (b == 0) ≡ t
    → NoFaults (cond t [] (empty_met b (index_at read b) ++ places_met what blocks place (index_at read b)))
    → (t ≡ false → list_all (λ p. p == 0) (index_at read b) ≡ false)
    × (cond t [] (empty_met b (index_at read b) ++ places_met what blocks place (index_at read b)) ≡ map (λ (e : ℕ × ℕ). what e.0 e.1) (pairs_from place (index_at read b)))
leaf_step true read what blocks place b is none =
    (λ e. cc, sym (ap (λ (t : Bool). map (λ (e : ℕ × ℕ). what e.0 e.1) (pairs_from place (cond t [] (take 1024 (words (read b)))))) is))
leaf_step false read what blocks place b is none =
    let ptrs = index_at read b in
    let some_there = none_empty (list_all (λ p. p == 0) ptrs) b (first_faults (empty_met b ptrs) (places_met what blocks place ptrs) none) in
    let places = places_good what blocks place ptrs (other_faults (empty_met b ptrs) (places_met what blocks place ptrs) none) in
    (λ e. some_there.0, λ i. some_there.1 i ++ places i)

pub leaf_good : (read : Blocks) (what : ℕ → ℕ → Met) (blocks place b : ℕ) → NoFaults (leaf_met read what blocks place b)
    → ((b == 0) ≡ false → list_all (λ p. p == 0) (index_at read b) ≡ false) × (leaf_met read what blocks place b ≡ map (λ (e : ℕ × ℕ). what e.0 e.1) (pairs_from place (index_at read b)))
leaf_good read what blocks place b none = leaf_step (b == 0) read what blocks place b refl none

full_step : (t : Bool) (read : Blocks) (p : ℕ) (ps : List ℕ) → (t ≡ false → list_all (λ q. q == 0) (index_at read p) ≡ false) → IsFull read (nonzero ps) → IsFull read (cond (not t) (p ∷ nonzero ps) (nonzero ps))
full_step true read p ps here more = more
full_step false read p ps here more = (here refl, more)

pub leaves_good : (read : Blocks) (what : ℕ → ℕ → Met) (blocks place : ℕ) (ps : List ℕ) → NoFaults (leaves_met read what blocks place ps)
    → IsFull read (nonzero ps) × (leaves_met read what blocks place ps ≡ map (λ (e : ℕ × ℕ). what e.0 e.1) (leaves_pairs read place ps))
leaves_good read what blocks place [] none = (tt, refl)
leaves_good read what blocks place (p ∷ ps) none =
    let leaf = leaf_met read what blocks place p in
    let rest = leaves_met read what blocks (place + 1024) ps in
    let here = leaf_good read what blocks place p (first_faults leaf rest none) in
    let more = leaves_good read what blocks (place + 1024) ps (other_faults leaf rest none) in (
      full_step (p == 0) read p ps here.0 more.0,
      (λ i. here.1 i ++ more.1 i) ∙ sym (map-append (λ (e : ℕ × ℕ). what e.0 e.1) (pairs_from place (index_at read p)) (leaves_pairs read (place + 1024) ps)),
    )

-- ---- places are below the node's blocks

below_append : (blocks : ℕ) (xs ys : List (ℕ × ℕ)) → AllBelow blocks xs → AllBelow blocks ys → AllBelow blocks (xs ++ ys)
below_append blocks [] ys a b = b
below_append blocks (x ∷ xs) ys a b = (a.0, below_append blocks xs ys a.1 b)

one_below : (t below : Bool) (blocks place p : ℕ) (m : Met) → nat_lt place blocks ≡ below → NoFaults (cond t [] (cond below m (past p) ∷ [])) → AllBelow blocks (cond t [] ((place, p) ∷ []))
one_below true below blocks place p m is none = tt
one_below false true blocks place p m is none = (is, tt)
one_below false false blocks place p m is none = absurd none.0

places_below : (what : ℕ → ℕ → Met) (blocks place : ℕ) (ps : List ℕ) → NoFaults (places_met what blocks place ps) → AllBelow blocks (pairs_from place ps)
places_below what blocks place [] none = tt
places_below what blocks place (p ∷ ps) none =
    let here = met_at (what place) (nat_lt place blocks) p in
    below_append blocks (cond (p == 0) [] ((place, p) ∷ [])) (pairs_from (place + 1) ps)
    (one_below (p == 0) (nat_lt place blocks) blocks place p (what place p) refl (first_faults here (places_met what blocks (place + 1) ps) none))
    (places_below what blocks (place + 1) ps (other_faults here (places_met what blocks (place + 1) ps) none))

leaf_below_step : (t : Bool) (read : Blocks) (what : ℕ → ℕ → Met) (blocks place b : ℕ) → (b == 0) ≡ t
    → NoFaults (cond t [] (empty_met b (index_at read b) ++ places_met what blocks place (index_at read b))) → AllBelow blocks (pairs_from place (index_at read b))
leaf_below_step true read what blocks place b is none = subst (λ (t : Bool). AllBelow blocks (pairs_from place (cond t [] (take 1024 (words (read b)))))) (sym is) tt
leaf_below_step false read what blocks place b is none = places_below what blocks place (index_at read b) (other_faults (empty_met b (index_at read b)) (places_met what blocks place (index_at read b)) none)

leaf_below : (read : Blocks) (what : ℕ → ℕ → Met) (blocks place b : ℕ) → NoFaults (leaf_met read what blocks place b) → AllBelow blocks (pairs_from place (index_at read b))
leaf_below read what blocks place b none = leaf_below_step (b == 0) read what blocks place b refl none

leaves_below : (read : Blocks) (what : ℕ → ℕ → Met) (blocks place : ℕ) (ps : List ℕ) → NoFaults (leaves_met read what blocks place ps) → AllBelow blocks (leaves_pairs read place ps)
leaves_below read what blocks place [] none = tt
leaves_below read what blocks place (p ∷ ps) none =
    let leaf = leaf_met read what blocks place p in
    let rest = leaves_met read what blocks (place + 1024) ps in
    below_append blocks (pairs_from place (index_at read p)) (leaves_pairs read (place + 1024) ps)
    (leaf_below read what blocks place p (first_faults leaf rest none)) (leaves_below read what blocks (place + 1024) ps (other_faults leaf rest none))

-- ---- a whole tree

-- Where no fault is met, each index block has a pointer, and what is met is the index blocks and then the places.
pub record TreeMet (read : Blocks) (what : ℕ → ℕ → Met) (blocks height ptr : ℕ) : Type 0 where
  pub full : IsFull read (indexes_below read height ptr)
  pub below : AllBelow blocks (pairs_below read height ptr)
  pub is : tree_met read what blocks height ptr ≡ map index (indexes_below read height ptr) ++ map (λ (e : ℕ × ℕ). what e.0 e.1) (pairs_below read height ptr)

pub tree_good : (read : Blocks) (what : ℕ → ℕ → Met) (blocks height ptr : ℕ) → NoFaults (tree_met read what blocks height ptr) → TreeMet read what blocks height ptr
tree_good read what blocks zero ptr none = record {
  full = tt;
  below = places_below what blocks 0 (ptr ∷ []) (append_none (met_at (what 0) (nat_lt 0 blocks) ptr) none);
  is = sym (append-nil (met_at (what 0) (nat_lt 0 blocks) ptr)) ∙ places_good what blocks 0 (ptr ∷ []) (append_none (met_at (what 0) (nat_lt 0 blocks) ptr) none);
}
  where
    append_none : (xs : List Met) → NoFaults xs → NoFaults (xs ++ [])
    append_none [] none = tt
    append_none (x ∷ xs) none = (none.0, append_none xs none.1)
tree_good read what blocks (suc zero) ptr none =
    let top = met_at index (nat_lt 0 blocks) ptr in
    let leaf = leaf_met read what blocks 0 ptr in
    let here = leaf_good read what blocks 0 ptr (other_faults top leaf none) in
    let first = met_place (ptr == 0) (nat_lt 0 blocks) (index ptr) ptr 0 (first_faults top leaf none) in
    record {
      full = full_step (ptr == 0) read ptr [] here.0 tt;
      below = leaf_below read what blocks 0 ptr (other_faults top leaf none);
      is = (λ i. (sym (append-nil top) ∙ (λ j. first j ++ []) ∙ some_step (ptr == 0) ptr []) i ++ here.1 i);
    }
tree_good read what blocks (suc (suc height)) ptr none =
    let top = met_at index (nat_lt 0 blocks) ptr in
    let ptrs = index_at read ptr in
    let tops = tops_met blocks 0 ptrs in
    let leaves = leaves_met read what blocks 0 ptrs in
    let after = other_faults top (empty_at read ptr ++ (tops ++ leaves)) none in
    let first = met_place (ptr == 0) (nat_lt 0 blocks) (index ptr) ptr 0 (first_faults top (empty_at read ptr ++ (tops ++ leaves)) none) in
    let blank = none_empty_at (ptr == 0) (list_all (λ p. p == 0) ptrs) ptr (first_faults (empty_at read ptr) (tops ++ leaves) after) in
    let below = other_faults (empty_at read ptr) (tops ++ leaves) after in
    let more = tops_good blocks 0 ptrs (first_faults tops leaves below) in
    let deep = leaves_good read what blocks 0 ptrs (other_faults tops leaves below) in
    record {
      full = full_step (ptr == 0) read ptr ptrs blank.0 deep.0;
      below = leaves_below read what blocks 0 ptrs (other_faults tops leaves below);
      is = (λ i. first i ++ (blank.1 i ++ (more i ++ deep.1 i)))
          ∙ sym (append_assoc (cond (ptr == 0) [] (index ptr ∷ [])) (map index (nonzero ptrs)) (map (λ (e : ℕ × ℕ). what e.0 e.1) (leaves_pairs read 0 ptrs)))
          ∙ ap (λ (ms : List Met). ms ++ map (λ (e : ℕ × ℕ). what e.0 e.1) (leaves_pairs read 0 ptrs)) (some_step (ptr == 0) ptr ptrs);
    }
