-- The nodes moved to their new paths one after another, from the last on.
use Rattle.std.proofs.Common.{◌≡◌, List, [], ◌∷◌, ◌++◌, map, refl, sym, ap, ◌∙◌}
use Rattle.std.proofs.lemmas.List.{map-append}
use Rattle.tree_model.specs.declared.node.Node.{Node}
use Rattle.tree_model.specs.Path.{Path}
use Rattle.tree_model.specs.Tree.{Tree, new_path, moved_onto, with_node}

-- two lists with one more element at the end are equal in front of it, and there
same_ends : {A : Type 0} (xs ys : List A) (x y : A) → xs ++ x ∷ [] ≡ ys ++ y ∷ [] → (xs ≡ ys) × (x ≡ y)
same_ends [] [] x y e = (refl, cc)
same_ends [] (b ∷ []) x y e = cc
same_ends [] (b ∷ c ∷ ys) x y e = cc
same_ends (a ∷ []) [] x y e = cc
same_ends (a ∷ c ∷ xs) [] x y e = cc
same_ends (a ∷ xs) (b ∷ ys) x y e =
    let heads : a ≡ b = cc in
    let tails : xs ++ x ∷ [] ≡ ys ++ y ∷ [] = cc in
    let rest = same_ends xs ys x y tails in
    (cc (heads, rest.0), rest.1)

module _ (from to : Path) where
  abbrev pub paths_of : Tree → List Path
  paths_of nodes = map (λ e. new_path from to e.0) nodes

  pub last_moves : (es : Tree) (e : Path × Node) (rest : Tree)
      → moved_onto from to (es ++ e ∷ []) rest ≡ moved_onto from to es (with_node rest (new_path from to e.0) e.1)
  last_moves [] e rest = refl
  last_moves (d ∷ es) e rest = ap (λ t. with_node t (new_path from to d.0) d.1) (last_moves es e rest)

  module _ (nodes left : Tree) (e : Path × Node) (paths others : List Path) (path : Path) (split : nodes ≡ left ++ e ∷ []) (parted : paths ≡ others ++ path ∷ []) (are : paths ≡ paths_of nodes) where
    ends : (others ≡ paths_of left) × (path ≡ new_path from to e.0)
    ends = same_ends _ _ _ _ (sym parted ∙ are ∙ ap paths_of split ∙ map-append (λ d. new_path from to d.0) left (e ∷ []))

    pub paths_left : others ≡ paths_of left
    paths_left = ends.0

    pub one_moved : (new : Tree) → moved_onto from to left (with_node new path e.1) ≡ moved_onto from to nodes new
    one_moved new =
        ap (λ p. moved_onto from to left (with_node new p e.1)) ends.1
        ∙ sym (last_moves left e new)
        ∙ ap (λ t. moved_onto from to t new) (sym split)
