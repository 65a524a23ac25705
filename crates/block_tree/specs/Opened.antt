-- A tree as the pointers of its top index, those of the leaf 0, and the other leaves.
use Rattle.std.specs.Prelude.{◌≡◌, ◌<◌, ◌≤◌, ◌^◌, ℕ, zero, suc, ◌+◌, ◌==◌, if◌then◌else◌, Bool, IsTrue, List, [], ◌∷◌, length, slice_index, All}
use Rattle.vol_numbers.specs.declared.runs.Change.{Change}
use Rattle.place_words.specs.Different.{times}
use Rattle.block_tree.specs.Tree.{Blocks, index_at, nonzero}
use Rattle.block_tree.specs.Root.{block_at, leaf_at, tree_indexes, KeepsTop}
use Rattle.block_tree.specs.Parts.{all_pointers, SameEntries}
use Rattle.block_tree.specs.Edit.{cut_at, changed_at, IsLeafBefore, IsLeafAfter, IsEmptied, KeepsLeaf}
use Rattle.block_tree.specs.Leaf.{StaysAt, FullAt, level}
use Rattle.block_tree.specs.Notes.{Noted, Stand, Settles, refs, paged}
use Rattle.block_tree.specs.Order.{InTurn, leaves_then_top}
use Rattle.block_tree.specs.declared.root.TreeRoot.{TreeRoot}

-- the index blocks of a tree are there as they were, block by block
abbrev pub StaysUnder : Blocks → ℕ → ℕ → Blocks → Type 0
StaysUnder read zero ptr after = Unit {0}
StaysUnder read (suc zero) ptr after = StaysAt read after ptr
StaysUnder read (suc (suc height)) ptr after = StaysAt read after ptr × ((j : ℕ) → StaysAt read after (slice_index (index_at read ptr) j))

abbrev pub PartsStay : Blocks → TreeRoot → Blocks → Type 0
PartsStay read root after = StaysUnder read root.height root.ptr after

-- each index block of a tree has a pointer to a block
abbrev pub FullUnder : Blocks → ℕ → ℕ → Type 0
FullUnder read zero ptr = Unit {0}
FullUnder read (suc zero) ptr = FullAt read ptr
FullUnder read (suc (suc height)) ptr = FullAt read ptr × ((j : ℕ) → FullAt read (slice_index (index_at read ptr) j))

abbrev pub PartsFull : Blocks → TreeRoot → Type 0
PartsFull read root = FullUnder read root.height root.ptr

-- No place at or past the height's is kept, and none is changed.
pub record FitsHeight (read : Blocks) (root : TreeRoot) (cut height : ℕ) : Type 0 where
  pub kept : (p : ℕ) → 1024 ^ height ≤ p → p < 1048576 → cut_at cut (block_at read root) p ≡ 0

abbrev pub ChangesFit : ℕ → List Change → Type 0
ChangesFit height changes = All (λ (c : Change). c.place < 1024 ^ height) changes

-- the pointers of the places of leaf 0: that of place 0 alone where there is no leaf
abbrev pub first_of : Blocks → TreeRoot → ℕ → List ℕ
first_of read root leaf = if root.height == 0 then root.ptr ∷ [] else index_at read leaf

-- at height 2 the top index is the root's block, and it has these leaves
abbrev pub HasTop : Blocks → TreeRoot → ℕ → List ℕ → Type 0
HasTop read root top was = root.height ≡ 2 → (top ≡ root.ptr) × ((j : ℕ) → slice_index was j ≡ leaf_at read root j)

-- where there is a top index, it is the block of the root, at height 2
abbrev pub IsTopped : TreeRoot → ℕ → Type 0
IsTopped root top = 0 < top → (root.height ≡ 2) × (top ≡ root.ptr)

-- The top index, if there is one, has the pointers `was`; `leaves` are the leaves, 0 where there is none; and `first` are the pointers of the places of leaf 0.
pub record Opens (read : Blocks) (root : TreeRoot) (top : ℕ) (was leaves first : List ℕ) : Type 0 where
  pub blocks : (j : ℕ) → j < 1024 → slice_index leaves j ≡ leaf_at read root j
  pub tops : HasTop read root top was
  pub topped : IsTopped root top
  pub first_places : IsLeafBefore (block_at read root) 0 first
  pub rest_places : (j : ℕ) → 1 ≤ j → j < 1024 → IsLeafBefore (block_at read root) j (index_at read (slice_index leaves j))
  pub top_is : (after : Blocks) → PartsStay read root after → 0 < top → SameEntries (index_at after top) was
  pub stay : (after : Blocks) → PartsStay read root after → (j : ℕ) → StaysAt read after (slice_index leaves j)
  pub full : PartsFull read root → (j : ℕ) → FullAt read (slice_index leaves j)
  -- below height 2 there is no other leaf
  pub few : root.height < 2 → (j : ℕ) → 1 ≤ j → slice_index leaves j ≡ 0
  pub pointers : (after : Blocks) → PartsStay read root after → (b : ℕ) →
      times b (nonzero (all_pointers read root)) + times b (nonzero (index_at after (slice_index leaves 0)))
      ≡ times b (nonzero (top ∷ [])) + times b (nonzero (level after leaves)) + times b (nonzero first)
  pub indexes : (b : ℕ) → refs b (top ∷ []) + refs b leaves ≡ times b (tree_indexes read root)

-- The leaves are rewritten, and the top index isn't yet.
pub record HasLeaves (read : Blocks) (root : TreeRoot) (changes : List Change) (cut : ℕ) (over : Bool) (top : ℕ) (was leaves : List ℕ) (m n : Noted) : Type 0 where
  pub kept : (j : ℕ) → j < 1024 → KeepsLeaf changes cut (block_at read root) j (leaf_at read root j) (slice_index leaves j)
  pub tops : HasTop read root top was
  pub topped : IsTopped root top
  pub places : (after : Blocks) → Stand n.pages after → PartsStay read root after → (j : ℕ) → j < 1024 → IsLeafAfter changes cut (block_at read root) j (index_at after (slice_index leaves j))
  pub settles : (after : Blocks) → Stand n.pages after → PartsStay read root after → Settles (all_pointers read root) (top ∷ level after leaves) m n
  pub none : IsTrue over → (j : ℕ) → 1 ≤ j → j < 1024 → IsEmptied changes cut (block_at read root) j → slice_index leaves j ≡ 0
  pub top_is : (after : Blocks) → PartsStay read root after → 0 < top → SameEntries (index_at after top) was
  pub full : (after : Blocks) → Stand n.pages after → PartsStay read root after → PartsFull read root → (j : ℕ) → FullAt after (slice_index leaves j)
  pub indexes : (b : ℕ) → refs b (top ∷ []) + refs b leaves + paged b m ≤ times b (tree_indexes read root) + paged b n

-- The leaf 0 gives way to the pointers that the cut and the changes make of its own, and the first of them is this block.
pub record IsGivenWay (changes : List Change) (cut leaf : ℕ) (first : List ℕ) (ptr : ℕ) (m n : Noted) : Type 0 where
  pub ptrs : List ℕ
  pub long : length ptrs ≡ 1024
  pub is : slice_index ptrs 0 ≡ ptr
  pub places : (old : ℕ → ℕ) → IsLeafBefore old 0 first → IsLeafAfter changes cut old 0 ptrs
  pub settles : Settles (leaf ∷ first) ptrs m n

-- The tree that is made: in each image in which the pages stand, and the old index blocks as they were, it has the places of the old one after the cut and the changes,
-- its pointers are those of the old one with those that were added and without those that were dropped, and it is full if the old one is.
pub record IsTreeRewritten (read : Blocks) (root : TreeRoot) (changes : List Change) (cut : ℕ) (new : TreeRoot) (m n : Noted) : Type 0 where
  pub kept : (after : Blocks) → Stand n.pages after → PartsStay read root after → 1 ≤ new.height
      → (k : ℕ) → k < 1024 → KeepsLeaf changes cut (block_at read root) k (leaf_at read root k) (leaf_at after new k)
  pub kept_top : (after : Blocks) → Stand n.pages after → PartsStay read root after → KeepsTop read root after new
  pub places : (after : Blocks) → Stand n.pages after → PartsStay read root after → (p : ℕ) → p < 1048576 → block_at after new p ≡ changed_at changes (cut_at cut (block_at read root)) p
  pub settles : (after : Blocks) → Stand n.pages after → PartsStay read root after → Settles (all_pointers read root) (all_pointers after new) m n
  pub full : (after : Blocks) → Stand n.pages after → PartsStay read root after → PartsFull read root → PartsFull after new
  -- a top index that is no new page's is the old one
  pub top : new.height ≡ 2 → 0 < new.ptr → paged new.ptr n ≡ 0 → (root.height ≡ 2) × (new.ptr ≡ root.ptr)
  -- each new index block is an old one or a page's
  pub indexes : (after : Blocks) → Stand n.pages after → PartsStay read root after → (b : ℕ) → times b (tree_indexes after new) + paged b m ≤ times b (tree_indexes read root) + paged b n
  -- and the new pages are some of them, the leaves first
  pub in_turn : (after : Blocks) → Stand n.pages after → PartsStay read root after → InTurn (leaves_then_top after new) m n
