-- A cut and changes of a map from places to blocks, where 0 is a hole.
use Rattle.std.specs.Prelude.{◌≡◌, ◌<◌, ℕ, ◌+◌, ◌*◌, ◌/◌, ◌%◌, ◌==◌, nat_lt, if◌then◌else◌, List, [], ◌∷◌, filter, map, slice_index, slice_set}
use Rattle.std.specs.List.Sorted.{IsNonDecreasingBy}
use Rattle.vol_numbers.specs.declared.runs.Change.{Change}

-- without the places from one on
abbrev pub cut_at : ℕ → (ℕ → ℕ) → ℕ → ℕ
cut_at cut old place = if nat_lt place cut then old place else 0

-- with the changes made, one after the other
abbrev pub changed_at : List Change → (ℕ → ℕ) → ℕ → ℕ
changed_at [] old place = old place
changed_at (c ∷ cs) old place = changed_at cs (λ p. if p == c.place then c.block else old p) place

-- the leaves of the places of changes
abbrev pub leaves_of : List Change → List ℕ
leaves_of changes = map (λ (c : Change). c.place / 1024) changes

-- the changes in the leaf k, in their order
abbrev pub portion : ℕ → List Change → List Change
portion k changes = filter (λ (c : Change). c.place / 1024 == k) changes

-- no change is in a leaf before that of an earlier one
abbrev pub AreInOrder : List Change → Type 0
AreInOrder changes = IsNonDecreasingBy (λ (c : Change). c.place / 1024) changes

-- the changes made in the pointers of their leaf
abbrev pub with_changes : List Change → List ℕ → List ℕ
with_changes [] ptrs = ptrs
with_changes (c ∷ cs) ptrs = with_changes cs (slice_set ptrs (c.place % 1024) c.block)

-- these are the pointers of the places from 1,024 k on
abbrev pub IsLeafBefore : (ℕ → ℕ) → ℕ → List ℕ → Type 0
IsLeafBefore old k ptrs = (i : ℕ) → i < 1024 → slice_index ptrs i ≡ old (1024 * k + i)

-- the places of the leaf k after a cut and changes
abbrev pub IsLeafAfter : List Change → ℕ → (ℕ → ℕ) → ℕ → List ℕ → Type 0
IsLeafAfter changes cut old k ptrs = IsLeafBefore (changed_at changes (cut_at cut old)) k ptrs

-- no place of the leaf k is left
abbrev pub IsEmptied : List Change → ℕ → (ℕ → ℕ) → ℕ → Type 0
IsEmptied changes cut old k = (i : ℕ) → i < 1024 → changed_at changes (cut_at cut old) (1024 * k + i) ≡ 0

-- each place of the leaf k has the block that it had
abbrev pub IsLeafSame : List Change → ℕ → (ℕ → ℕ) → ℕ → Type 0
IsLeafSame changes cut old k = (i : ℕ) → i < 1024 → changed_at changes (cut_at cut old) (1024 * k + i) ≡ old (1024 * k + i)

-- A leaf whose places have the blocks that they had, one of them not 0, keeps its block.
abbrev pub KeepsLeaf : List Change → ℕ → (ℕ → ℕ) → ℕ → ℕ → ℕ → Type 0
KeepsLeaf changes cut old k leaf new = IsLeafSame changes cut old k → (i : ℕ) → i < 1024 → 0 < old (1024 * k + i) → 0 < leaf → new ≡ leaf

-- The cut and the changes make these pointers of those of the leaf k.
abbrev pub IsEdit : List Change → ℕ → ℕ → List ℕ → List ℕ → Type 0
IsEdit changes cut k was ptrs = (old : ℕ → ℕ) → IsLeafBefore old k was → IsLeafAfter changes cut old k ptrs
