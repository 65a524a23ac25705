-- A tree by its parts, and as a whole.
use Rattle.std.proofs.Common.{◌≡◌, ◌≢◌, ◌<◌, ℕ, zero, suc, ◌+◌, ◌==◌, Bool, true, false, cond, List, [], ◌∷◌, ◌++◌, length, map, refl, ap, sym, subst, ◌∙◌, arith}
use Rattle.std.specs.Prelude.{slice_index, not, ◌&&◌}
use Rattle.std.specs.List.{list_all, flat_map, AllByRecursion}
use Rattle.std.proofs.lemmas.List.{length-append, map-append}
use Rattle.std.proofs.lemmas.List.Elements.{filter-append}
use Rattle.std.proofs.lemmas.Bool.Decides.{nat_tests}
use Rattle.place_words.specs.Index.{index_blocks}
use Rattle.block_format.specs.Inode.{height_of}
use Rattle.block_tree.specs.Laws.{PointersAre}
use Rattle.block_tree.specs.Root.{tree_pairs, tree_indexes, tree_pointers}
use Rattle.block_tree.specs.declared.root.TreeRoot.{TreeRoot}
use Rattle.block_tree.proofs.Count.{index_count}
use Rattle.block_tree.specs.Tree.{Blocks, index_at, nonzero, pairs_from, leaves_pairs, pairs_below, indexes_below, pointers_below, IsFull}
use Rattle.block_tree.specs.Parts.{pointers_under}
use Rattle.block_tree.specs.Opened.{StaysUnder, FullUnder}

-- what holds of each pointer that leads to a block
pub from_nonzero : (P : ℕ → Type 0) (xs : List ℕ) → AllByRecursion P (nonzero xs) → (j : ℕ) → 0 < slice_index xs j → P (slice_index xs j)
from_nonzero P [] all j some = absurd (omega (arith, some))
from_nonzero P (x ∷ xs) all j some = by_test (x == 0) refl all j some (from_nonzero P xs)
  where
    by_test : (t : Bool) → (x == 0) ≡ t → AllByRecursion P (cond (not t) (x ∷ nonzero xs) (nonzero xs)) → (j : ℕ) → 0 < slice_index (x ∷ xs) j
        → (AllByRecursion P (nonzero xs) → (j : ℕ) → 0 < slice_index xs j → P (slice_index xs j)) → P (slice_index (x ∷ xs) j)
    by_test true e all zero some rest = absurd (let z : x ≡ 0 = grind (arith, nat_tests, e) in omega (arith, some, z))
    by_test true e all (suc j) some rest = rest all j some
    by_test false e all zero some rest = all.0
    by_test false e all (suc j) some rest = rest all.1 j some

pub to_nonzero : (P : ℕ → Type 0) (xs : List ℕ) → ((j : ℕ) → 0 < slice_index xs j → P (slice_index xs j)) → AllByRecursion P (nonzero xs)
to_nonzero P [] each = tt
to_nonzero P (x ∷ xs) each = by_test (x == 0) refl (each 0) (to_nonzero P xs (λ j some. each (suc j) some))
  where
    by_test : (t : Bool) → (x == 0) ≡ t → (0 < x → P x) → AllByRecursion P (nonzero xs) → AllByRecursion P (cond (not t) (x ∷ nonzero xs) (nonzero xs))
    by_test true e here rest = rest
    by_test false e here rest = (here (let ne : x ≡ 0 → ⊥ = λ z. grind (arith, nat_tests, e, z) in omega (arith, ne)), rest)

-- ---- index blocks that stay

pub parts_stay : (read after : Blocks) (height ptr : ℕ) → AllByRecursion (λ b. after b ≡ read b) (indexes_below read height ptr) → StaysUnder read height ptr after
parts_stay read after zero ptr all = tt
parts_stay read after (suc zero) ptr all = from_nonzero (λ b. after b ≡ read b) (ptr ∷ []) all 0
parts_stay read after (suc (suc height)) ptr all = (
  from_nonzero (λ b. after b ≡ read b) (ptr ∷ index_at read ptr) all 0,
  λ j. from_nonzero (λ b. after b ≡ read b) (ptr ∷ index_at read ptr) all (suc j),
)

-- ---- index blocks that are full

abbrev HasPointer : Blocks → ℕ → Type 0
HasPointer read b = list_all (λ p. p == 0) (index_at read b) ≡ false

all_zero : (ps : List ℕ) → list_all (λ p. p == 0) ps ≡ false → nonzero ps ≢ []
all_zero [] some none = cc
all_zero (p ∷ ps) some none = by_test (p == 0) some none (all_zero ps)
  where
    by_test : (t : Bool) → (t && list_all (λ q. q == 0) ps) ≡ false → cond (not t) (p ∷ nonzero ps) (nonzero ps) ≡ [] → (list_all (λ q. q == 0) ps ≡ false → nonzero ps ≢ []) → ⊥
    by_test true some none rest = rest some none
    by_test false some none rest = cc

not_all_zero : (ps : List ℕ) → nonzero ps ≢ [] → list_all (λ p. p == 0) ps ≡ false
not_all_zero [] some = absurd (some refl)
not_all_zero (p ∷ ps) some = by_test (p == 0) some (not_all_zero ps)
  where
    by_test : (t : Bool) → (cond (not t) (p ∷ nonzero ps) (nonzero ps) ≡ [] → ⊥) → (nonzero ps ≢ [] → list_all (λ q. q == 0) ps ≡ false) → (t && list_all (λ q. q == 0) ps) ≡ false
    by_test true some rest = rest some
    by_test false some rest = refl

pub parts_full : (read : Blocks) (height ptr : ℕ) → IsFull read (indexes_below read height ptr) → FullUnder read height ptr
parts_full read zero ptr all = tt
parts_full read (suc zero) ptr all = λ some. all_zero (index_at read ptr) (from_nonzero (HasPointer read) (ptr ∷ []) all 0 some)
parts_full read (suc (suc height)) ptr all = (
  λ some. all_zero (index_at read ptr) (from_nonzero (HasPointer read) (ptr ∷ index_at read ptr) all 0 some),
  λ j some. all_zero (index_at read (slice_index (index_at read ptr) j)) (from_nonzero (HasPointer read) (ptr ∷ index_at read ptr) all (suc j) some),
)

pub whole_full : (read : Blocks) (height ptr : ℕ) → FullUnder read height ptr → IsFull read (indexes_below read height ptr)
whole_full read zero ptr full = tt
whole_full read (suc zero) ptr full = to_nonzero (HasPointer read) (ptr ∷ []) each
  where
    each : (j : ℕ) → 0 < slice_index (ptr ∷ []) j → HasPointer read (slice_index (ptr ∷ []) j)
    each zero some = not_all_zero (index_at read ptr) (full some)
    each (suc j) some = absurd (omega (arith, some))
whole_full read (suc (suc height)) ptr full = to_nonzero (HasPointer read) (ptr ∷ index_at read ptr) each
  where
    each : (j : ℕ) → 0 < slice_index (ptr ∷ index_at read ptr) j → HasPointer read (slice_index (ptr ∷ index_at read ptr) j)
    each zero some = not_all_zero (index_at read ptr) (full.0 some)
    each (suc j) some = not_all_zero (index_at read (slice_index (index_at read ptr) j)) (full.1 j some)

-- ---- pointers as a list

blocks_from : (place : ℕ) (ps : List ℕ) → map (λ (e : ℕ × ℕ). e.1) (pairs_from place ps) ≡ nonzero ps
blocks_from place [] = refl
blocks_from place (p ∷ ps) = by_test (p == 0) (blocks_from (place + 1) ps)
  where
    by_test : (t : Bool) → map (λ (e : ℕ × ℕ). e.1) (pairs_from (place + 1) ps) ≡ nonzero ps
        → map (λ (e : ℕ × ℕ). e.1) (cond t [] ((place, p) ∷ []) ++ pairs_from (place + 1) ps) ≡ cond (not t) (p ∷ nonzero ps) (nonzero ps)
    by_test true rest = rest
    by_test false rest = ap (λ (xs : List ℕ). p ∷ xs) rest

blocks_of_leaves : (read : Blocks) (place : ℕ) (ps : List ℕ) → map (λ (e : ℕ × ℕ). e.1) (leaves_pairs read place ps) ≡ nonzero (flat_map (index_at read) ps)
blocks_of_leaves read place [] = refl
blocks_of_leaves read place (p ∷ ps) =
    let here = blocks_from place (index_at read p) in
    let rest = blocks_of_leaves read (place + 1024) ps in
    map-append (λ (e : ℕ × ℕ). e.1) (pairs_from place (index_at read p)) (leaves_pairs read (place + 1024) ps)
    ∙ ((λ i. here i ++ rest i) ∙ sym (filter-append (λ (b : ℕ). not (b == 0)) (index_at read p) (flat_map (index_at read) ps)))

nonzero-append : (xs ys : List ℕ) → nonzero (xs ++ ys) ≡ nonzero xs ++ nonzero ys
nonzero-append xs ys = filter-append (λ (b : ℕ). not (b == 0)) xs ys

pub pointers_listed : (read : Blocks) (height ptr : ℕ) → nonzero (pointers_under read height ptr) ≡ pointers_below read height ptr
pointers_listed read zero ptr = sym (blocks_from 0 (ptr ∷ []))
pointers_listed read (suc zero) ptr = nonzero-append (ptr ∷ []) (index_at read ptr) ∙ ap (λ (xs : List ℕ). nonzero (ptr ∷ []) ++ xs) (sym (blocks_from 0 (index_at read ptr)))
pointers_listed read (suc (suc height)) ptr =
    nonzero-append (ptr ∷ index_at read ptr) (flat_map (index_at read) (index_at read ptr))
    ∙ ap (λ (xs : List ℕ). nonzero (ptr ∷ index_at read ptr) ++ xs) (sym (blocks_of_leaves read 0 (index_at read ptr)))

length-blocks : (pairs : List (ℕ × ℕ)) → length (map (λ (e : ℕ × ℕ). e.1) pairs) ≡ length pairs
length-blocks [] = refl
length-blocks (p ∷ ps) = ap suc (length-blocks ps)

pub pointers_are : PointersAre
pointers_are read height ptr =
    omega (arith, length-append (indexes_below read height ptr) (map (λ (e : ℕ × ℕ). e.1) (pairs_below read height ptr)), length-blocks (pairs_below read height ptr))

-- a full tree of the height of its blocks has as many pointers as pairs, and one for each index block that these need
pub tree_counted : (read : Blocks) (root : TreeRoot) (blocks : ℕ) → root.height ≡ height_of blocks → IsFull read (tree_indexes read root)
    → length (tree_pointers read root) ≡ length (tree_pairs read root) + index_blocks blocks (map (λ e. e.0) (tree_pairs read root))
tree_counted read root blocks e = subst Counted (sym e) (λ full. omega (arith, pointers_are read (height_of blocks) root.ptr, index_count read root.ptr blocks full))
  where
    Counted : ℕ → Type 0
    Counted h = IsFull read (indexes_below read h root.ptr)
        → length (pointers_below read h root.ptr) ≡ length (pairs_below read h root.ptr) + index_blocks blocks (map (λ e. e.0) (pairs_below read h root.ptr))
