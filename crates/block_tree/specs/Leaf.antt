-- A leaf after a cut and changes.
use Rattle.std.specs.Prelude.{◌≡◌, ◌≢◌, ◌<◌, ◌≤◌, ℕ, ◌+◌, ◌*◌, Bool, IsTrue, List, [], ◌∷◌, ◌++◌, length, slice_index, take, drop}
use Rattle.std.specs.List.{flat_map}
use Rattle.vol_numbers.specs.declared.runs.Change.{Change}
use Rattle.block_tree.specs.Tree.{Blocks, index_at, nonzero}
use Rattle.block_tree.specs.Parts.{SameEntries}
use Rattle.block_tree.specs.Notes.{Noted, Stand, Settles, refs, paged}
use Rattle.block_tree.specs.Order.{InTurn}
use Rattle.block_tree.specs.Edit.{IsLeafBefore, IsLeafAfter, IsEmptied, KeepsLeaf}

-- the block is there as it was, where there is one
abbrev pub StaysAt : Blocks → Blocks → ℕ → Type 0
StaysAt read after b = 0 < b → after b ≡ read b

-- an index block that is there has a pointer to a block
abbrev pub FullAt : Blocks → ℕ → Type 0
FullAt read b = 0 < b → nonzero (index_at read b) ≢ []

-- Of a leaf with these pointers: in each image in which the pages stand, and the leaf as it was, the new one has the places.
pub record IsLeafEdited (changes : List Change) (cut k leaf : ℕ) (was : List ℕ) (new : ℕ) (m n : Noted) : Type 0 where
  pub kept : (old : ℕ → ℕ) → IsLeafBefore old k was → KeepsLeaf changes cut old k leaf new
  pub places : (after : Blocks) (old : ℕ → ℕ) → Stand n.pages after → (0 < leaf → SameEntries (index_at after leaf) was) → IsLeafBefore old k was
      → IsLeafAfter changes cut old k (index_at after new)
  pub settles : (after : Blocks) → Stand n.pages after → (0 < leaf → SameEntries (index_at after leaf) was) → Settles (leaf ∷ was) (new ∷ index_at after new) m n
  -- where no place is left, there is no block
  pub none : (old : ℕ → ℕ) → IsLeafBefore old k was → IsEmptied changes cut old k → new ≡ 0
  pub full : (after : Blocks) → Stand n.pages after → (0 < leaf → SameEntries (index_at after leaf) was) → FullAt after new
  pub indexes : (b : ℕ) → refs b (new ∷ []) + paged b m ≤ refs b (leaf ∷ []) + paged b n
  pub in_turn : InTurn (nonzero (new ∷ [])) m n

-- Of a leaf on the disk. One that isn't gone over is as it was: it is full if it was, and it may have no place left.
pub record IsLeafRewritten (read : Blocks) (changes : List Change) (cut : ℕ) (over : Bool) (k leaf new : ℕ) (m n : Noted) : Type 0 where
  pub kept : (old : ℕ → ℕ) → IsLeafBefore old k (index_at read leaf) → KeepsLeaf changes cut old k leaf new
  pub places : (after : Blocks) (old : ℕ → ℕ) → Stand n.pages after → StaysAt read after leaf → IsLeafBefore old k (index_at read leaf)
      → IsLeafAfter changes cut old k (index_at after new)
  pub settles : (after : Blocks) → Stand n.pages after → StaysAt read after leaf → Settles (leaf ∷ index_at after leaf) (new ∷ index_at after new) m n
  pub none : IsTrue over → (old : ℕ → ℕ) → IsLeafBefore old k (index_at read leaf) → IsEmptied changes cut old k → new ≡ 0
  pub full : (after : Blocks) → Stand n.pages after → StaysAt read after leaf → FullAt read leaf → FullAt after new
  pub indexes : (b : ℕ) → refs b (new ∷ []) + paged b m ≤ refs b (leaf ∷ []) + paged b n
  pub in_turn : InTurn (nonzero (new ∷ [])) m n

-- Neither the cut nor one of its changes touches the leaf k, and it isn't gone over with all leaves.
pub record IsUntouched (over : Bool) (part : List Change) (cut k : ℕ) : Type 0 where
  pub passed : IsTrue over → ⊥
  pub kept : 1024 * k + 1024 ≤ cut
  pub unchanged : part ≡ []

-- Of the leaf 0, whose places had these pointers, be there a leaf or not.
pub record IsFirstRewritten (read : Blocks) (changes : List Change) (cut leaf : ℕ) (first : List ℕ) (new : ℕ) (m n : Noted) : Type 0 where
  pub kept : (old : ℕ → ℕ) → IsLeafBefore old 0 first → KeepsLeaf changes cut old 0 leaf new
  pub places : (after : Blocks) (old : ℕ → ℕ) → Stand n.pages after → StaysAt read after leaf → IsLeafBefore old 0 first → IsLeafAfter changes cut old 0 (index_at after new)
  pub settles : (after : Blocks) → Stand n.pages after → StaysAt read after leaf → Settles (leaf ∷ first) (new ∷ index_at after new) m n
  pub full : (after : Blocks) → Stand n.pages after → StaysAt read after leaf → FullAt read leaf → FullAt after new
  pub indexes : (b : ℕ) → refs b (new ∷ []) + paged b m ≤ refs b (leaf ∷ []) + paged b n
  pub in_turn : InTurn (nonzero (new ∷ [])) m n

-- the pointers of a top index and of its leaves
abbrev pub level : Blocks → List ℕ → List ℕ
level read tops = tops ++ flat_map (index_at read) tops

-- Of all leaves from 1 up to one.
pub record AreLeavesRewritten (read : Blocks) (changes : List Change) (cut : ℕ) (over : Bool) (end : ℕ) (before leaves : List ℕ) (m n : Noted) : Type 0 where
  pub long : length leaves ≡ 1024
  pub same : (j : ℕ) → end ≤ j → slice_index leaves j ≡ slice_index before j
  pub first : slice_index leaves 0 ≡ slice_index before 0
  pub kept : (old : ℕ → ℕ) → ((j : ℕ) → 1 ≤ j → j < 1024 → IsLeafBefore old j (index_at read (slice_index before j)))
      → (j : ℕ) → 1 ≤ j → j < end → KeepsLeaf changes cut old j (slice_index before j) (slice_index leaves j)
  pub places : (after : Blocks) (old : ℕ → ℕ) → Stand n.pages after → ((j : ℕ) → 1 ≤ j → StaysAt read after (slice_index before j))
      → ((j : ℕ) → 1 ≤ j → j < 1024 → IsLeafBefore old j (index_at read (slice_index before j)))
      → (j : ℕ) → 1 ≤ j → j < end → IsLeafAfter changes cut old j (index_at after (slice_index leaves j))
  pub settles : (after : Blocks) → Stand n.pages after → ((j : ℕ) → 1 ≤ j → StaysAt read after (slice_index before j))
      → Settles (level after before) (level after leaves) m n
  pub none : IsTrue over → (old : ℕ → ℕ) → ((j : ℕ) → 1 ≤ j → j < 1024 → IsLeafBefore old j (index_at read (slice_index before j)))
      → (j : ℕ) → 1 ≤ j → j < end → IsEmptied changes cut old j → slice_index leaves j ≡ 0
  pub full : (after : Blocks) → Stand n.pages after → ((j : ℕ) → 1 ≤ j → StaysAt read after (slice_index before j)) → ((j : ℕ) → 1 ≤ j → FullAt read (slice_index before j))
      → (j : ℕ) → 1 ≤ j → j < end → FullAt after (slice_index leaves j)
  pub indexes : (b : ℕ) → refs b leaves + paged b m ≤ refs b before + paged b n
  pub in_turn : InTurn (nonzero (drop 1 (take end leaves))) m n
