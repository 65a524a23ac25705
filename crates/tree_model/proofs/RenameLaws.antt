-- A rename moves exactly the paths that begin with the one.
use Rattle.std.proofs.Common.{◌≡◌, ℕ, ◌≤◌, List, [], ◌∷◌, ◌++◌, true, false, refl, sym, ap, subst, ◌∙◌, Some, None, cond, inl, inr, append_assoc, append-nil, arith, length}
use Rattle.std.specs.Prelude.{Result, Ok, Err, Option, Bool, ◌⊎◌, is_some, max}
use Rattle.tree_model.specs.declared.command.Command.TheVariants.{Rename}
use Rattle.tree_model.specs.declared.node.Node.{Node}
use Rattle.tree_model.specs.declared.node.Content.{Content}
use Rattle.tree_model.specs.declared.node.Content.TheVariants.{File, Directory}
use Rattle.tree_model.specs.declared.refusal.Refusal.{Refusal}
use Rattle.tree_model.specs.declared.refusal.Refusal.TheVariants.{Exists, Inside}
use Rattle.tree_model.specs.declared.reply.Reply.{Reply}
use Rattle.tree_model.specs.declared.reply.Reply.TheVariants.{Done}
use Rattle.tree_model.specs.Path.{Path, is_root, parent_of, strip}
use Rattle.tree_model.specs.Tree.{Tree, new_tree, node_at, with_width, with_content_width, widened, moved, entries_of}
use Rattle.tree_model.specs.Step.{step, attempt, settled, refuse_if, walk}
use Rattle.tree_model.specs.Shape.{IsTree, IsShape, shape_at}
use Rattle.tree_model.specs.Follow.{ContentFollows, Follows}
use Rattle.tree_model.specs.Laws.{RenameMoves, RenamesMove, KeepsTree}
use Rattle.tree_model.proofs.Accepted.{with_ok, passed, walked, nothing}
use Rattle.tree_model.proofs.AttemptLaws.{Accepts, put_at}
use Rattle.tree_model.proofs.Fronts.{tie_is, tie_itself, test_fails, strip_back, strip_none, last_name, no_longer}
use Rattle.tree_model.proofs.Lookups.{IsClear, moved_at, widened_other}
use Rattle.tree_model.proofs.Renames.{none_left, at_below, at_other, at_left}
use Rattle.tree_model.proofs.StepFollows.{follows_itself}
use Rattle.tree_model.proofs.StepShapes.{is_clear}
use Rattle.tree_model.proofs.StepWidths.{new_widths, new_sizes, keeps_tree}

-- ---- a directory widened

-- the node that a node at the path was before
abbrev Was : Tree → Path → Node → Type 0
Was tree p node = (before : Node) × (node_at tree p ≡ Some before) × Follows [] before node

content_here : (n : ℕ) (tree : Tree) (p : Path) (before : Node) → node_at tree p ≡ Some before → (c : Content) → before.content ≡ c → (node : Node) → node_at (with_content_width n tree p before.number c) p ≡ Some node → Was tree p node
content_here n tree p before e (File bytes) f node g = (node, g, follows_itself [] node)
content_here n tree p before e (Directory width) f node g =
    let wide : Node = record { number = before.number; content = Directory (max width n) } in
    let some : Some wide ≡ Some node = sym (put_at tree p wide p ∙ ap (λ b. cond b (Some wide) (node_at tree p)) (tie_itself p)) ∙ g in
    let is : wide ≡ node = cc in
    let wider : ContentFollows [] before.number (Directory width) (Directory (max width n)) = omega arith in
    let follows : Follows [] before wide = record { number = refl; content = subst (λ (c : Content). ContentFollows [] before.number c (Directory (max width n))) (sym f) wider } in
    (before, e, subst (λ (x : Node). Follows [] before x) is follows)

width_here : (n : ℕ) (tree : Tree) (p : Path) (o : Option Node) → node_at tree p ≡ o → (node : Node) → node_at (with_width n tree p o) p ≡ Some node → Was tree p node
width_here n tree p None e node g = (node, g, follows_itself [] node)
width_here n tree p (Some before) e node g = content_here n tree p before e before.content refl node g

widened_here : (tree : Tree) (p : Path) (node : Node) → node_at (widened tree p) p ≡ Some node → Was tree p node
widened_here tree p node g = width_here (length (entries_of tree p)) tree p (node_at tree p) refl node g

-- ---- fronts

-- of two fronts of a path one is in front of the other
fronts_meet : (a b r s : Path) → a ++ r ≡ b ++ s → ((m : Path) × (a ≡ b ++ m)) ⊎ ((m : Path) × (b ≡ a ++ m))
fronts_meet [] b r s e = inr (b, refl)
fronts_meet (x ∷ a) [] r s e = inl (x ∷ a, refl)
fronts_meet (x ∷ a) (y ∷ b) r s e =
    let heads : x ≡ y = cc in
    let tails : a ++ r ≡ b ++ s = cc in
    elim (fronts_meet a b r s tails) [
      | inl m ↦ let is : a ≡ b ++ m.0 = m.1 in let whole : x ∷ a ≡ y ∷ b ++ m.0 = cc in inl (m.0, whole)
      | inr m ↦ let is : b ≡ a ++ m.0 = m.1 in let whole : y ∷ b ≡ x ∷ a ++ m.0 = cc in inr (m.0, whole)
    ]

module _ (tree : Tree) (from to : Path) (clear : IsClear to tree) (node : Node) (stood : node_at tree from ≡ Some node) (named : is_root to ≡ false) (outside : strip from to ≡ None) where
  -- the new directory isn't below the path that the node comes to, nor below the one that it left
  parent_above : (rest : Path) → to ++ rest ≡ parent_of to → ⊥
  parent_above rest e =
      let last = last_name to named in
      no_longer (parent_of to) [] last.0 rest (sym e ∙ ap (λ p. p ++ rest) last.1 ∙ append_assoc (parent_of to) (last.0 ∷ []) rest ∙ ap (λ p. p ++ last.0 ∷ rest) (sym (append-nil (parent_of to))))

  parent_outside : (rest : Path) → from ++ rest ≡ parent_of to → ⊥
  parent_outside rest e =
      let last = last_name to named in
      strip_none from to (rest ++ last.0 ∷ []) outside (last.1 ∙ ap (λ p. p ++ last.0 ∷ []) (sym e) ∙ append_assoc from rest (last.0 ∷ []))

  left_outside : (rest r : Path) → from ++ rest ≡ to ++ r → ⊥
  left_outside rest r e =
      elim (fronts_meet from to rest r e) [
        | inl m ↦
            let none : node_at tree (to ++ m.0) ≡ None = clear m.0 in
            let some : node_at tree (to ++ m.0) ≡ Some node = ap (λ p. node_at tree p) (sym m.1) ∙ stood in
            cc
        | inr m ↦ strip_none from to m.0 outside m.1
      ]

  pub renamed_moves : RenameMoves from to tree (widened (moved from to tree) (parent_of to))
  renamed_moves = record {
    below = λ rest.
        widened_other (moved from to tree) (parent_of to) (to ++ rest) (test_fails _ (λ t. parent_above rest (tie_is _ _ t)))
        ∙ moved_at from to tree clear (to ++ rest)
        ∙ at_below (node_at tree) from to rest;
    left = λ rest.
        widened_other (moved from to tree) (parent_of to) (from ++ rest) (test_fails _ (λ t. parent_outside rest (tie_is _ _ t)))
        ∙ moved_at from to tree clear (from ++ rest)
        ∙ at_left (node_at tree) from to (from ++ rest) rest (none_left to (from ++ rest) (λ r e. left_outside rest r e)) (strip_back from rest);
    others = λ path apart not_from not_to.
        widened_other (moved from to tree) (parent_of to) path (test_fails _ (λ t. apart (tie_is _ _ t)))
        ∙ moved_at from to tree clear path
        ∙ at_other (node_at tree) from to path not_to not_from;
    parent = λ after g.
        let was = widened_here (moved from to tree) (parent_of to) after g in
        let not_to = none_left to (parent_of to) (λ r e. parent_above r (sym e)) in
        let not_from = none_left from (parent_of to) (λ r e. parent_outside r (sym e)) in
        (was.0, sym (moved_at from to tree clear (parent_of to) ∙ at_other (node_at tree) from to (parent_of to) not_to not_from) ∙ was.1, was.2);
  }

rename_end : (tree : Tree) (from to : Path) → IsTree tree → (node : Node) → walk tree from ≡ Ok node → (u : ℕ) → refuse_if (is_root to) Exists ≡ Ok u
    → (w : ℕ) → refuse_if (is_some (node_at tree to)) Exists ≡ Ok w → (y : ℕ) → refuse_if (is_some (strip from to)) Inside ≡ Ok y → RenameMoves from to tree (widened (moved from to tree) (parent_of to))
rename_end tree from to h node walk_ok u named w free y outside =
    renamed_moves tree from to (is_clear tree to h (nothing _ Exists w free)) node (walked tree from node walk_ok) (passed _ Exists u named) (nothing _ Inside y outside)

abbrev Moves : Tree → Path → Path → Reply → Tree → Type 0
Moves tree from to reply after = RenameMoves from to tree after

attempt_moves : (tree : Tree) (from to : Path) → IsTree tree → Accepts (Moves tree from to) (attempt tree (Rename from to))
attempt_moves tree from to h = search (with_ok, rename_end) depth 18

settled_moves : (tree : Tree) (from to : Path) (r : Result (Reply × Tree) Refusal) → Accepts (Moves tree from to) r → (settled tree r).0 ≡ Done → RenameMoves from to tree (settled tree r).1
settled_moves tree from to (Ok done) h e = h
settled_moves tree from to (Err refusal) h e = cc

pub renames_move : RenamesMove
unfolding step
renames_move tree from to h e = settled_moves tree from to (attempt tree (Rename from to)) (attempt_moves tree from to h) e

-- ---- the new tree

root_only : (path : Path) (node : ℕ × Bool) → shape_at new_tree path ≡ Some node → (path ≡ []) × ((1, true) ≡ node)
root_only [] node e = (refl, cc)
root_only (name ∷ path) node e = cc

no_front : (front : Path) (name : List ℕ) (rest : Path) (node : ℕ × Bool) → shape_at new_tree (front ++ name ∷ rest) ≡ Some node → ⊥
no_front [] name rest node e = cc
no_front (first ∷ front) name rest node e = cc

new_shape : IsShape (shape_at new_tree)
new_shape = record {
  root = refl;
  fronts = λ front name rest node e. absurd (no_front front name rest node e);
  one_path = λ p q number a b e f. let first = root_only p (number, a) e in let second = root_only q (number, b) f in first.0 ∙ sym second.0;
  numbered = λ path node e. let is = root_only path node e in subst (λ (x : ℕ × Bool). (1 ≤ x.0) × (x.0 ≤ 65535)) is.1 (omega arith, omega arith);
}

pub keeps_trees : KeepsTree
keeps_trees = record { at_first = record { ordered = refl; shape = new_shape; widths = new_widths; sizes = new_sizes }; after_step = keeps_tree }
