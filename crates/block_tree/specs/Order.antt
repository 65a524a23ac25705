-- In which order index blocks are written.
use Rattle.std.specs.Prelude.{◌≡◌, ◌⊎◌, ℕ, zero, suc, List, [], ◌∷◌, ◌++◌}
use Rattle.block_tree.specs.Tree.{Blocks, index_at, nonzero}
use Rattle.block_tree.specs.Notes.{Noted, page_blocks}
use Rattle.block_tree.specs.declared.root.TreeRoot.{TreeRoot}

-- the first list is some of the members of the second, in its order
abbrev pub IsSublist : List ℕ → List ℕ → Type 0
IsSublist [] ys = Unit {0}
IsSublist (x ∷ xs) [] = ⊥
IsSublist (x ∷ xs) (y ∷ ys) = ((x ≡ y) × IsSublist xs ys) ⊎ IsSublist (x ∷ xs) ys

-- of a height and a pointer, the blocks of the leaves, by position, and then that of the top index
abbrev pub leaves_then_top_below : Blocks → ℕ → ℕ → List ℕ
leaves_then_top_below read zero ptr = []
leaves_then_top_below read (suc zero) ptr = nonzero (ptr ∷ [])
leaves_then_top_below read (suc (suc height)) ptr = nonzero (index_at read ptr ++ ptr ∷ [])

-- the index blocks of a tree, its leaves by position first, and then its top index
abbrev pub leaves_then_top : Blocks → TreeRoot → List ℕ
leaves_then_top read root = leaves_then_top_below read root.height root.ptr

-- The new pages stand behind the old ones, and their blocks are some of these, in this order.
pub record InTurn (turn : List ℕ) (m n : Noted) : Type 0 where
  pub new : List ℕ
  pub noted : page_blocks n.pages ≡ page_blocks m.pages ++ new
  pub order : IsSublist new turn
