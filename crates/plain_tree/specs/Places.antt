-- Where an entry goes in a list in order.
use Rattle.std.specs.Prelude.{ℕ, ◌+◌, Bool, false, [], ◌∷◌, Option, Some, None, slice_get}
use Rattle.std.specs.Ordering.{eq_by_cmp}
use Rattle.std.specs.FinMap.Entries.{by_order}
use Rattle.tree_model.specs.declared.node.Node.{Node}
use Rattle.tree_model.specs.Path.{Path, path_cmp}
use Rattle.tree_model.specs.Tree.{Tree}

-- the first place whose path isn't below this one
abbrev pub place_of : Path → Tree → ℕ
place_of path [] = 0
place_of path (e ∷ es) = by_order (path_cmp path e.0) 0 0 (place_of path es + 1)

abbrev pub ties : Path → Option (Path × Node) → Bool
ties path None = false
ties path (Some e) = eq_by_cmp path_cmp path e.0

abbrev pub ties_at : Path → Tree → ℕ → Bool
ties_at path tree place = ties path (slice_get tree place)
