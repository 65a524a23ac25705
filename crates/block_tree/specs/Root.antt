-- What a tree has, by its root.
use Rattle.std.specs.Prelude.{◌≡◌, ◌<◌, ◌≤◌, ℕ, List}
use Rattle.std.specs.List.{AllByRecursion}
use Rattle.vol_numbers.specs.Layout.{Layout}
use Rattle.block_format.specs.Index.{IsPointer}
use Rattle.block_tree.specs.Tree.{Blocks, block_below, leaf_below, pairs_below, indexes_below, pointers_below}
use Rattle.block_tree.specs.declared.root.TreeRoot.{TreeRoot}

-- a tree that may be handed in
pub record IsRoot (g : Layout) (root : TreeRoot) : Type 0 where
  pub height : root.height ≤ 2
  pub ptr : IsPointer g root.ptr

-- the block of a place, 0 where there is a hole
abbrev pub block_at : Blocks → TreeRoot → ℕ → ℕ
block_at read root place = block_below read root.height root.ptr place

-- the block of the leaf k, 0 where there is none
abbrev pub leaf_at : Blocks → TreeRoot → ℕ → ℕ
leaf_at read root k = leaf_below read root.height root.ptr k

-- the places that have a block, with it
abbrev pub tree_pairs : Blocks → TreeRoot → List (ℕ × ℕ)
tree_pairs read root = pairs_below read root.height root.ptr

abbrev pub tree_indexes : Blocks → TreeRoot → List ℕ
tree_indexes read root = indexes_below read root.height root.ptr

abbrev pub tree_pointers : Blocks → TreeRoot → List ℕ
tree_pointers read root = pointers_below read root.height root.ptr

-- A top index keeps its block where each leaf has the block that it had, and one has one.
abbrev pub KeepsTop : Blocks → TreeRoot → Blocks → TreeRoot → Type 0
KeepsTop read root after new = root.height ≡ 2 → new.height ≡ 2 → ((k : ℕ) → k < 1024 → leaf_at after new k ≡ leaf_at read root k)
    → (k : ℕ) → 0 < leaf_at read root k → new.ptr ≡ root.ptr

-- the index blocks of a tree are there as they were
abbrev pub Stays : Blocks → TreeRoot → Blocks → Type 0
Stays read root after = AllByRecursion (λ b. after b ≡ read b) (tree_indexes read root)
