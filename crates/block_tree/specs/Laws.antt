-- Laws of trees of index blocks.
use Rattle.std.specs.Prelude.{◌≡◌, ◌<◌, ℕ, ◌+◌, ◌*◌, ◌^◌, List, length, map}
use Rattle.block_format.specs.Inode.{height_of}
use Rattle.place_words.specs.Index.{index_blocks}
use Rattle.block_tree.specs.Tree.{Blocks, block_in, block_below, pairs_below, indexes_below, pointers_below, leaves_pairs, IsFull}
use Rattle.block_tree.specs.Planned.{pairs_of, LeavesStand}

-- A tree of the height that its number of blocks gives, each of whose index blocks has a pointer, has as many index blocks as its places need.
abbrev pub IndexCount : Type 0
IndexCount = (read : Blocks) (ptr blocks : ℕ) → IsFull read (indexes_below read (height_of blocks) ptr)
    → length (indexes_below read (height_of blocks) ptr) ≡ index_blocks blocks (map (λ e. e.0) (pairs_below read (height_of blocks) ptr))

-- Leaves that stand as a map has them have its pairs.
abbrev pub LeavesSpell : Type 0
LeavesSpell = (read : Blocks) (at : ℕ → ℕ) → ((place : ℕ) → at place < 2 ^ 32) → (k : ℕ) (ps : List ℕ) → LeavesStand read at k ps
    → leaves_pairs read (1024 * k) ps ≡ pairs_of at (1024 * k) (1024 * length ps)

-- The pairs of a tree are what it has at each place.
abbrev pub PairsAre : Type 0
PairsAre = (read : Blocks) (height ptr place : ℕ) → block_in (pairs_below read height ptr) place ≡ block_below read height ptr place

-- The pointers of a tree are as many as its index blocks and its pairs.
abbrev pub PointersAre : Type 0
PointersAre = (read : Blocks) (height ptr : ℕ) → length (pointers_below read height ptr) ≡ length (indexes_below read height ptr) + length (pairs_below read height ptr)
