-- What the paths lead to is held node by node.
use Rattle.std.proofs.Common.{◌≡◌, ℕ, true, [], ◌∷◌, ◌++◌, Some, None, refl, sym, ap, ◌∙◌}
use Rattle.std.specs.Prelude.{Option, option_and_then, option_map}
use Rattle.block_format.specs.declared.inode.Inode.{Inode}
use Rattle.block_format.specs.declared.inode.Inode.TheVariants.{Unused, File, Directory}
use Rattle.dir_slots.specs.Slots.{number_in}
use Rattle.tree_model.specs.Path.{Path}
use Rattle.tree_model.specs.Tree.{Tree, node_at}
use Rattle.tree_model.specs.declared.node.Node.{Node}
use Rattle.image_model.specs.Holds.{HoldsTree}
use Rattle.image_model.specs.Trees.{TreeIsHeld}
use Rattle.image_model.specs.Seen.{Seen, seen}
use Rattle.image_model.specs.Slots.{slots_of, inode_of, number_along}
use Rattle.image_model.specs.Sound.{IsNamed}
use Rattle.image_model.specs.Stands.{node_of, node_along}
use Rattle.image_model.specs.Walk.{is_used}
use Rattle.image_model.proofs.Naming.{last_step}
use Rattle.image_model.proofs.TreeNodes.{leads}

module _ (s : Seen) (tree : Tree) (same : (path : Path) → node_at tree path ≡ node_along s path) (named : IsNamed s) where
  node_numbered : (n : ℕ) (x : Inode) → is_used x ≡ true → (node : Node) × (node_of s n x ≡ Some node) × (node.number ≡ n)
  node_numbered n Unused used = cc
  node_numbered n (File size height ptr) used = (_, refl, refl)
  node_numbered n (Directory width height ptr) used = (_, refl, refl)

  -- where a path leads to a number, its node stands
  stands_there : (path : Path) (n : ℕ) → number_along s 1 path ≡ Some n → (node : Node) × (node_at tree path ≡ Some node) × (node.number ≡ n)
  stands_there path n along =
      let node = node_numbered n (inode_of s.nodes n) (named.used path n along) in
      (node.0, same path ∙ ap (option_and_then (λ m. node_of s m (inode_of s.nodes m))) along ∙ node.1, node.2)

  number_there : (path : Path) → option_map (λ (n : Node). n.number) (node_at tree path) ≡ number_along s 1 path
  number_there path = by (number_along s 1 path) refl
    where
      by : (o : Option ℕ) → number_along s 1 path ≡ o → option_map (λ (n : Node). n.number) (node_at tree path) ≡ number_along s 1 path
      by None is = ap (option_map (λ (n : Node). n.number)) (same path ∙ ap (option_and_then (λ m. node_of s m (inode_of s.nodes m))) is) ∙ sym is
      by (Some n) is = let at = stands_there path n is in ap (option_map (λ (n : Node). n.number)) at.1 ∙ ap (λ (k : ℕ). Some k) at.2 ∙ sym is

  pub held : HoldsTree s tree
  held = record {
    inodes = λ path node is. let lead = leads s path node (sym (same path) ∙ is) in lead.inode;
    slots = λ path node name is.
        let lead = leads s path node (sym (same path) ∙ is) in
        sym (number_there (path ++ name ∷ []) ∙ last_step s path 1 name ∙ ap (option_and_then (λ d. number_in (slots_of s d) name)) lead.number);
    others = λ n used. let way = named.reached n used in let at = stands_there way.0 n way.1 in (way.0, at.0, at.1, at.2);
  }

pub tree_is_held : TreeIsHeld
tree_is_held image s stands = held (seen image) s.tree stands.shows.tree stands.sound.named
