-- An index block that is kept, written afresh or dropped.
use Rattle.std.specs.Prelude.{◌≡◌, ◌≢◌, ◌<◌, ◌≤◌, ◌+◌, ℕ, List, [], ◌∷◌, length, All}
use Rattle.vol_numbers.specs.Layout.{Layout}
use Rattle.block_format.specs.Index.{IsPointer}
use Rattle.place_words.specs.Different.{times}
use Rattle.block_tree.specs.Tree.{Blocks, index_at, nonzero}
use Rattle.block_tree.specs.Parts.{SameEntries}
use Rattle.block_tree.specs.Notes.{Noted, Stand, Settles, Takes, Uses, AreSound, brought, refs, paged}
use Rattle.block_tree.specs.Order.{InTurn}

-- A fresh block is needed: a pointer leads to a block, and there is no old block that has just these pointers.
pub record NeedsBlock (old : ℕ) (was ptrs : List ℕ) : Type 0 where
  pub some : nonzero ptrs ≢ []
  pub other : 0 < old → ptrs ≢ was

-- In each image in which the pages stand, and the old block as it was, the new block has the new pointers.
pub record IsRenewed (old : ℕ) (was ptrs : List ℕ) (new : ℕ) (m n : Noted) : Type 0 where
  pub entries : (read : Blocks) → Stand n.pages read → (0 < old → SameEntries (index_at read old) was) → SameEntries (index_at read new) ptrs
  pub settles : Settles (old ∷ []) (new ∷ []) m n
  pub takes : Takes m n
  pub at_most : length m.free ≤ length n.free + 1
  pub spares : (NeedsBlock old was ptrs → ⊥) → n.free ≡ m.free
  -- an old block that has just these pointers is kept
  pub kept : 0 < old → ptrs ≡ was → nonzero ptrs ≢ [] → (new ≡ old) × (n ≡ m)
  pub none : nonzero ptrs ≡ [] → new ≡ 0
  -- the new block is the old one or a page's
  pub indexes : (b : ℕ) → refs b (new ∷ []) + paged b m ≤ refs b (old ∷ []) + paged b n
  -- a new page is the new block's
  pub in_turn : InTurn (nonzero (new ∷ [])) m n
  pub uses : Uses [] m n
  -- the page that is new is in the grammar
  pub sound : (g : Layout) → All (IsPointer g) ptrs → IsPointer g old → AreSound g m → AreSound g n × IsPointer g new

pub record IsNoted (was ptrs : List ℕ) (m n : Noted) : Type 0 where
  pub settles : Settles was ptrs m n
  pub added : (b : ℕ) → times b n.added ≡ times b m.added + brought b was ptrs
  pub pages : n.pages ≡ m.pages
  pub free : n.free ≡ m.free
