-- The tree of index blocks below a pointer: which block each place has, and which blocks are its indexes.
use Rattle.std.specs.Prelude.{◌≡◌, ℕ, zero, suc, ◌+◌, ◌/◌, ◌%◌, ◌==◌, not, false, if◌then◌else◌, List, [], ◌∷◌, ◌++◌, take, filter, map, get_or, slice_index}
use Rattle.std.specs.List.{list_all, AllByRecursion}
use Rattle.vol_numbers.specs.Block.{zero_block}
use Rattle.vol_numbers.specs.declared.block.Block.{Block}
use Rattle.block_format.specs.Words.{words}

-- the bytes of each block
abbrev pub Blocks : Type 0
Blocks = ℕ → List ℕ

-- those of a disk, zeros where there is no block
abbrev pub blocks_in : List Block → Blocks
blocks_in contents b = (get_or contents b zero_block).bytes

-- the pointers of an index block, none where there is no block
abbrev pub index_at : Blocks → ℕ → List ℕ
index_at read b = if b == 0 then [] else take 1024 (words (read b))

-- Of a height and a pointer, the block of a place, 0 where it is a hole. A leaf has 1,024 places, and a top index 1,024 leaves.
abbrev pub block_below : Blocks → ℕ → ℕ → ℕ → ℕ
block_below read zero ptr place = if place == 0 then ptr else 0
block_below read (suc zero) ptr place = slice_index (index_at read ptr) place
block_below read (suc (suc height)) ptr place = slice_index (index_at read (slice_index (index_at read ptr) (place / 1024))) (place % 1024)

-- the block of the leaf k, 0 where there is none
abbrev pub leaf_below : Blocks → ℕ → ℕ → ℕ → ℕ
leaf_below read zero ptr k = 0
leaf_below read (suc zero) ptr k = if k == 0 then ptr else 0
leaf_below read (suc (suc height)) ptr k = slice_index (index_at read ptr) k

-- ---- the same as lists

-- the pointers that lead to blocks
abbrev pub nonzero : List ℕ → List ℕ
nonzero ptrs = filter (λ p. not (p == 0)) ptrs

-- these, with their places from one on
abbrev pub pairs_from : ℕ → List ℕ → List (ℕ × ℕ)
pairs_from place [] = []
pairs_from place (p ∷ ps) = (if p == 0 then [] else (place, p) ∷ []) ++ pairs_from (place + 1) ps

-- those of leaves, whose places begin at one
abbrev pub leaves_pairs : Blocks → ℕ → List ℕ → List (ℕ × ℕ)
leaves_pairs read place [] = []
leaves_pairs read place (p ∷ ps) = pairs_from place (index_at read p) ++ leaves_pairs read (place + 1024) ps

-- the places that have a block, with it
abbrev pub pairs_below : Blocks → ℕ → ℕ → List (ℕ × ℕ)
pairs_below read zero ptr = pairs_from 0 (ptr ∷ [])
pairs_below read (suc zero) ptr = pairs_from 0 (index_at read ptr)
pairs_below read (suc (suc height)) ptr = leaves_pairs read 0 (index_at read ptr)

-- the index blocks, with repeats
abbrev pub indexes_below : Blocks → ℕ → ℕ → List ℕ
indexes_below read zero ptr = []
indexes_below read (suc zero) ptr = nonzero (ptr ∷ [])
indexes_below read (suc (suc height)) ptr = nonzero (ptr ∷ index_at read ptr)

-- the pointers to blocks, with repeats: to the index blocks, and to those of the places
abbrev pub pointers_below : Blocks → ℕ → ℕ → List ℕ
pointers_below read height ptr = indexes_below read height ptr ++ map (λ e. e.1) (pairs_below read height ptr)

-- each index block has a pointer that isn't 0
abbrev pub IsFull : Blocks → List ℕ → Type 0
IsFull read indexes = AllByRecursion (λ b. list_all (λ p. p == 0) (index_at read b) ≡ false) indexes

-- the block of a place among pairs, 0 where there is none
abbrev pub block_in : List (ℕ × ℕ) → ℕ → ℕ
block_in [] place = 0
block_in (e ∷ es) place = if e.0 == place then e.1 else block_in es place
