-- An entry put at its place.
use Rattle.std.proofs.Common.{◌≡◌, ◌+◌, [], ◌∷◌, true, false, refl, sym, ap, add-one}
use Rattle.std.specs.Prelude.{slice_set, insert}
use Rattle.std.specs.Ordering.{eq_by_cmp, is_eq}
use Rattle.std.specs.declared.cmp.Ordering.TheVariants.{Less, Equal, Greater}
use Rattle.std.specs.FinMap.{put}
use Rattle.std.specs.FinMap.Entries.{by_order}
use Rattle.tree_model.specs.declared.node.Node.{Node}
use Rattle.tree_model.specs.Path.{Path, path_cmp}
use Rattle.tree_model.specs.Tree.{Tree}
use Rattle.tree_model.proofs.Paths.{same_path}
use Rattle.plain_tree.specs.Places.{place_of, ties_at}

module _ (k : Path) (v : Node) where
  pub put_new : (es : Tree) → ties_at k es (place_of k es) ≡ false → put path_cmp k v es ≡ insert es (place_of k es) (k, v)
  put_new [] h = refl
  put_new (e ∷ es) h =
      elim (path_cmp k e.0) as (λ r. path_cmp k e.0 ≡ r → ties_at k (e ∷ es) (by_order r 0 0 (place_of k es + 1)) ≡ false
      → by_order r ((k, v) ∷ e ∷ es) ((e.0, v) ∷ es) (e ∷ put path_cmp k v es) ≡ insert (e ∷ es) (by_order r 0 0 (place_of k es + 1)) (k, v)) [
        | Less ↦ λ p h. refl
        | Equal ↦ λ p h. let tied : eq_by_cmp path_cmp k e.0 ≡ true = ap is_eq p in cc
        | Greater ↦ λ p h. let below : ties_at k es (place_of k es) ≡ false = rw add-one at h in rw add-one (ap (λ rest. e ∷ rest) (put_new es below))
      ] refl h

  pub put_there : (es : Tree) → ties_at k es (place_of k es) ≡ true → put path_cmp k v es ≡ slice_set es (place_of k es) (k, v)
  put_there [] h = cc
  put_there (e ∷ es) h =
      elim (path_cmp k e.0) as (λ r. path_cmp k e.0 ≡ r → ties_at k (e ∷ es) (by_order r 0 0 (place_of k es + 1)) ≡ true
      → by_order r ((k, v) ∷ e ∷ es) ((e.0, v) ∷ es) (e ∷ put path_cmp k v es) ≡ slice_set (e ∷ es) (by_order r 0 0 (place_of k es + 1)) (k, v)) [
        | Less ↦ λ p h. let apart : eq_by_cmp path_cmp k e.0 ≡ false = ap is_eq p in cc
        | Equal ↦ λ p h. ap (λ key. (key, v) ∷ es) (sym (same_path k e.0 p))
        | Greater ↦ λ p h. let below : ties_at k es (place_of k es) ≡ true = rw add-one at h in rw add-one (ap (λ rest. e ∷ rest) (put_there es below))
      ] refl h
