-- A step of a walk along a path, at the names that are behind and those that are left.
use Rattle.std.proofs.Common.{◌≡◌, ℕ, ◌+◌, ◌<◌, [], length, take, drop, true, false, not, Some, None, Err, refl, sym, ap, ◌∙◌}
use Rattle.std.proofs.lemmas.List.{take_more, at_drop_more}
use Rattle.tree_model.specs.declared.node.Node.{Node}
use Rattle.tree_model.specs.declared.refusal.Refusal.TheVariants.{NotFound, NotADirectory}
use Rattle.tree_model.specs.Path.{Path}
use Rattle.tree_model.specs.Tree.{Tree, node_at, is_directory}
use Rattle.tree_model.specs.Step.{walk_from, or_refuse, refuse_if, ◌>>=◌}

module _ (tree : Tree) (path : Path) (depth : ℕ) (h : depth < length path) where
  -- the walk goes by the node at the names that are behind
  one_step : walk_from tree (take depth path) (drop depth path)
      ≡ (or_refuse (node_at tree (take depth path)) NotFound >>= (λ node. refuse_if (not (is_directory node)) NotADirectory >>= (λ _. walk_from tree (take (depth + 1) path) (drop (depth + 1) path))))
  one_step =
      at_drop_more (walk_from tree (take depth path)) path depth [] h
      ∙ ap (λ at. or_refuse (node_at tree (take depth path)) NotFound >>= (λ node. refuse_if (not (is_directory node)) NotADirectory >>= (λ _. walk_from tree at (drop (depth + 1) path)))) (sym (take_more path depth [] h))

  pub walk_missing : node_at tree (take depth path) ≡ None → walk_from tree (take depth path) (drop depth path) ≡ Err NotFound
  walk_missing e = one_step ∙ rw e refl

  pub walk_file : (node : Node) → node_at tree (take depth path) ≡ Some node → is_directory node ≡ false → walk_from tree (take depth path) (drop depth path) ≡ Err NotADirectory
  walk_file node e f = one_step ∙ rw (e, f) refl

  pub walk_on : (node : Node) → node_at tree (take depth path) ≡ Some node → is_directory node ≡ true → walk_from tree (take depth path) (drop depth path) ≡ walk_from tree (take (depth + 1) path) (drop (depth + 1) path)
  walk_on node e f = one_step ∙ rw (e, f) refl
