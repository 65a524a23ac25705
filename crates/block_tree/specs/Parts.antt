-- A tree as the code goes over it: leaf by leaf, and pointer by pointer with the zeros.
use Rattle.std.specs.Prelude.{◌≡◌, ℕ, zero, suc, ◌==◌, if◌then◌else◌, List, [], ◌∷◌, ◌++◌, slice_index}
use Rattle.std.specs.List.{flat_map}
use Rattle.block_tree.specs.Tree.{Blocks, index_at, nonzero}
use Rattle.block_tree.specs.declared.root.TreeRoot.{TreeRoot}

-- the pointers of the leaf k, whose places are those from 1,024 k, of a tree of a height
abbrev pub leaf_under : Blocks → ℕ → ℕ → ℕ → List ℕ
leaf_under read zero ptr k = if k == 0 then ptr ∷ [] else []
leaf_under read (suc zero) ptr k = if k == 0 then index_at read ptr else []
leaf_under read (suc (suc height)) ptr k = index_at read (slice_index (index_at read ptr) k)

abbrev pub leaf_of : Blocks → TreeRoot → ℕ → List ℕ
leaf_of read root k = leaf_under read root.height root.ptr k

-- all pointers, zeros among them: that of the root, those of a top index, and those of its leaves
abbrev pub pointers_under : Blocks → ℕ → ℕ → List ℕ
pointers_under read zero ptr = ptr ∷ []
pointers_under read (suc zero) ptr = ptr ∷ index_at read ptr
pointers_under read (suc (suc height)) ptr = ptr ∷ (index_at read ptr ++ flat_map (index_at read) (index_at read ptr))

abbrev pub all_pointers : Blocks → TreeRoot → List ℕ
all_pointers read root = pointers_under read root.height root.ptr

-- the same pointers, where a missing block is one of zeros
pub record SameEntries (xs ys : List ℕ) : Type 0 where
  pub each : (i : ℕ) → slice_index xs i ≡ slice_index ys i
  pub some : nonzero xs ≡ nonzero ys
