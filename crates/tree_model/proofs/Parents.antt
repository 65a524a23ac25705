-- The parent of a path, as its names without the last.
use Rattle.std.proofs.Common.{◌≡◌, ◌-◌, [], ◌∷◌, length, take, refl, ap, sub-one}
use Rattle.tree_model.specs.Path.{Path, parent_of}

pub parent_take : (path : Path) → take (length path - 1) path ≡ parent_of path
parent_take [] = refl
parent_take (name ∷ []) = refl
parent_take (name ∷ next ∷ names) = rw sub-one (ap (λ rest. name ∷ rest) (rw sub-one at (parent_take (next ∷ names))))
