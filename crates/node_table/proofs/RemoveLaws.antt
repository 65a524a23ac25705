-- The nodes after one is gone hold the tree after it.
use Rattle.std.proofs.Common.{◌≡◌, ◌≢◌, ℕ, true, false, not, List, [], ◌∷◌, ◌++◌, Some, None, refl, sym, ap, subst, ◌∙◌, ⊎_elim, cond}
use Rattle.std.specs.Option.{option_map}
use Rattle.std.proofs.lemmas.Bool.{cases_eq}
use Rattle.block_format.specs.declared.slot.Slot.{Slot}
use Rattle.dir_slots.specs.Slots.{number_in, without_slot}
use Rattle.tree_model.specs.Path.{Path, parent_of}
use Rattle.tree_model.specs.Shape.{IsTree, shape_at, shape_of}
use Rattle.tree_model.specs.Step.{step}
use Rattle.tree_model.specs.Tree.{Tree, node_at, without, is_directory}
use Rattle.tree_model.specs.declared.command.Command.{Command}
use Rattle.tree_model.specs.declared.node.Node.{Node}
use Rattle.tree_model.specs.declared.node.Content.TheVariants as contents
use Rattle.tree_model.proofs.Fronts.{tie, tie_itself}
use Rattle.tree_model.proofs.Lookups.{without_at}
use Rattle.tree_model.proofs.Shapes.{without_shape}
use Rattle.node_table.specs.Changes.{Removes}
use Rattle.node_table.specs.Held.{AreDirectories, Nodes, HoldsNodes, held, info, info_of, slots_of}
use Rattle.node_table.specs.declared.held.HeldNode.TheVariants.{Directory}
use Rattle.node_table.proofs.GrowLaws.{Grown, grown_taken, grown_kept, width_kept}
use Rattle.node_table.proofs.KeptLaws.{set_same, set_other}
use Rattle.node_table.proofs.MakeLaws.{leads_is}
use Rattle.node_table.proofs.PieceLaws.{RemovePieces}
use Rattle.node_table.proofs.ShapeLaws.{HoldsShape, NodesRemoved, kind, number_of, holds_shape, holds_nodes, same_holds, removed_holds, child_of, not_itself}
use Rattle.node_table.proofs.SlotNumbers.{number_taken}
use Rattle.node_table.proofs.WalkLaws.{node_of}

without_shape_at : (tree : Tree) (path q : Path) → shape_at (without tree path) q ≡ without_shape (shape_at tree) path q
without_shape_at tree path q =
    ap shape_of (without_at tree path q)
    ∙ elim (tie path q) as (λ b. shape_of (cond (not b) (node_at tree q) None) ≡ cond (not b) (shape_at tree q) None) [ true ↦ refl | false ↦ refl ]

module _ (old new : Nodes) (tree : Tree) (h : IsTree tree) (holds : HoldsNodes old tree) (was_directories : AreDirectories old) (path : Path) (command : Command) (p : RemovePieces tree path)
    (e : (step tree command).1 ≡ without tree path) (directories : AreDirectories new) (parent slot number : ℕ) (m : Removes path parent slot number old new) where
  abbrev after : Tree
  after = without tree path

  shape : HoldsShape old (shape_at tree)
  shape = holds_shape old tree holds

  abbrev slots : List Slot
  slots = slots_of (held old parent)

  there_shape : shape_at tree (parent_of path ++ m.name ∷ []) ≡ Some (p.node.number, is_directory p.node)
  there_shape = ap (shape_at tree) (sym m.path_is) ∙ ap shape_of p.node_is

  -- the directory above
  above : (n : Node) × (node_at tree (parent_of path) ≡ Some n) × (is_directory n ≡ true)
  above =
      let front = child_of (shape_at tree) h.shape (parent_of path) m.name _ there_shape in
      let d = node_of (node_at tree (parent_of path)) front.0 true front.1 in
      (d.0, d.1, d.3)

  above_shape : shape_at tree (parent_of path) ≡ Some (parent, true)
  above_shape = ap shape_of above.1 ∙ (λ i. Some (leads_is old tree h holds (parent_of path) above.0 above.1 parent m.parent_is i, above.2 i))

  number_is : p.node.number ≡ number
  number_is =
      let named : Some p.node.number ≡ Some number = sym (shape.slots (parent_of path) parent true m.name above_shape ∙ ap number_of there_shape) ∙ m.entry.number_is in
      cc

  node_shape : shape_at tree (parent_of path ++ m.name ∷ []) ≡ Some (number, is_directory p.node)
  node_shape = there_shape ∙ (λ i. Some (number_is i, is_directory p.node))

  apart : parent ≢ number
  apart is = not_itself (parent_of path) m.name (sym (h.shape.one_path (parent_of path) (parent_of path ++ m.name ∷ []) number true (is_directory p.node) (above_shape ∙ (λ i. Some (is i, true))) node_shape))

  at_parent : held new parent ≡ Some (Directory (without_slot slots (Some slot)))
  at_parent = set_other m.between new number None m.node parent apart ∙ set_same old m.between parent _ m.entry.set

  at_number : held new number ≡ None
  at_number = set_same m.between new number None m.node

  kept : (k : ℕ) → k ≢ number → k ≢ parent → held new k ≡ held old k
  kept k ne np = set_other m.between new number None m.node k ne ∙ set_other old m.between parent _ m.entry.set k np

  nodes_removed : NodesRemoved old new parent number m.name
  nodes_removed = record {
    at_number = at_number;
    at_parent = λ x. ap (λ o. number_in (slots_of o) x) at_parent ∙ number_taken slots m.name slot (was_directories parent slots m.entry.directory).names m.entry.slot_is x;
    parent_kind = ap kind at_parent ∙ sym (ap kind m.entry.directory);
    others = kept;
  }

  new_shape : HoldsShape new (shape_at after)
  new_shape =
      same_holds new (without_shape (shape_at tree) (parent_of path ++ m.name ∷ [])) (shape_at after) (λ q. without_shape_at tree path q ∙ (λ i. without_shape (shape_at tree) (m.path_is i) q))
      (removed_holds (shape_at tree) h.shape (parent_of path) m.name parent number (is_directory p.node) old new shape above_shape node_shape nodes_removed)

  -- a node after was there before, and is another
  record Stood (q : Path) (n : Node) : Type 0 where
    was : node_at tree q ≡ Some n
    other : n.number ≢ number

  stood : (q : Path) (n : Node) → node_at after q ≡ Some n → Stood q n
  stood q n is =
      elim (tie path q) as (λ b. tie path q ≡ b → cond (not b) (node_at tree q) None ≡ Some n → Stood q n) [
        | true ↦ λ t some. cc
        | false ↦ λ t some. record {
          was = some;
          other = λ e.
              let place : q ≡ parent_of path ++ m.name ∷ [] = h.shape.one_path q (parent_of path ++ m.name ∷ []) number (is_directory n) (is_directory p.node) (ap shape_of some ∙ (λ i. Some (e i, is_directory n))) node_shape in
              let yes : tie path q ≡ true = ap (tie path) (place ∙ sym m.path_is) ∙ tie_itself path in
              cc;
        }
      ] refl (sym (without_at tree path q) ∙ is)

  grown_at : (q : Path) (n : ℕ) → shape_at tree q ≡ Some (n, true) → n ≢ number → Grown (slots_of (held old n)) (held new n)
  grown_at q n was ne =
      ⊎_elim (λ (is : n ≡ parent). subst (λ (k : ℕ). Grown (slots_of (held old k)) (held new k)) (sym is) (subst (Grown slots) (sym at_parent) (grown_taken slots m.name slot m.entry.slot_is)))
      (λ (np : n ≡ parent → ⊥). grown_kept (held old n) (held new n) (shape.kinds q n true was) (kept n ne np))
      (cases_eq n parent)

  not_parent : (n : ℕ) → kind (held old n) ≡ Some false → n ≢ parent
  not_parent n file is = let directory : kind (held old n) ≡ Some true = ap (λ k. kind (held old k)) is ∙ ap kind m.entry.directory in let clash : Some false ≡ Some true = sym file ∙ directory in cc

  pub removes_hold : HoldsNodes new after
  removes_hold = holds_nodes new after new_shape (λ q n is. known q n is n.content refl)
    where
      known : (q : Path) (n : Node) → node_at after q ≡ Some n → (c : _) → n.content ≡ c → option_map info (held new n.number) ≡ Some (info_of n.content)
      known q n is (contents.File bytes) kinds =
          let s = stood q n is in
          let file : shape_at tree q ≡ Some (n.number, false) = ap shape_of s.was ∙ (λ i. Some (n.number, is_directory (record { number = n.number; content = kinds i }))) in
          ap (option_map info) (kept n.number s.other (not_parent n.number (shape.kinds q n.number false file))) ∙ holds.each q n s.was
      known q n is (contents.Directory width) kinds =
          let s = stood q n is in
          let directory : shape_at tree q ≡ Some (n.number, true) = ap shape_of s.was ∙ (λ i. Some (n.number, is_directory (record { number = n.number; content = kinds i }))) in
          width_kept old new tree h holds command after e new_shape directories q q n.number width directory (is ∙ (λ i. Some (record { number = n.number; content = kinds i }))) (grown_at q n.number directory s.other)
          ∙ sym (ap (λ c. Some (info_of c)) kinds)
