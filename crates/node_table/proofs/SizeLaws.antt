-- The nodes after a file got another size hold the tree after it.
use Rattle.std.proofs.Common.{◌≡◌, ◌≢◌, ℕ, true, List, length, Some, sym, ap, subst, ◌∙◌, inl, inr, ⊎_elim, cond}
use Rattle.std.specs.Option.{option_map}
use Rattle.std.proofs.lemmas.Bool.{cases_eq}
use Rattle.dir_slots.specs.Slots.{number_in}
use Rattle.tree_model.specs.Path.{Path}
use Rattle.tree_model.specs.Shape.{IsTree, shape_at, shape_of}
use Rattle.tree_model.specs.Tree.{Tree, node_at, with_node, holds_entries}
use Rattle.tree_model.specs.declared.node.Node.{Node}
use Rattle.tree_model.specs.declared.node.Content.TheVariants as contents
use Rattle.tree_model.proofs.AttemptLaws.{put_at}
use Rattle.tree_model.proofs.Fronts.{tie, tie_same, decide}
use Rattle.tree_model.proofs.StepShapes.{same_put}
use Rattle.node_table.specs.Changes.{Sizes}
use Rattle.node_table.specs.Held.{Nodes, HoldsNodes, held, info, info_of, slots_of}
use Rattle.node_table.specs.declared.held.HeldNode.TheVariants.{File}
use Rattle.node_table.specs.declared.held.NodeInfo.TheVariants as infos
use Rattle.node_table.proofs.KeptLaws.{set_same, set_other}
use Rattle.node_table.proofs.MakeLaws.{leads_is}
use Rattle.node_table.proofs.PieceLaws.{SizePieces}
use Rattle.node_table.proofs.ShapeLaws.{HoldsShape, kind, holds_shape, holds_nodes, same_holds, there_still}

module _ (old new : Nodes) (tree : Tree) (h : IsTree tree) (holds : HoldsNodes old tree) (path : Path) (p : SizePieces tree path) (bytes : List ℕ)
    (size_after : ℕ → ℕ) (number size : ℕ) (m : Sizes path size_after number size old new) (long : size_after (length p.bytes) ≡ length bytes) where
  abbrev node : Node
  node = record { number = p.node.number; content = contents.File bytes }

  abbrev after : Tree
  after = with_node tree path node

  shape : HoldsShape old (shape_at tree)
  shape = holds_shape old tree holds

  number_is : p.node.number ≡ number
  number_is = leads_is old tree h holds path p.node p.node_is number m.path_is

  before_is : m.before ≡ length p.bytes
  before_is =
      let known : Some (infos.File m.before) ≡ Some (infos.File (length p.bytes)) =
      sym (ap (option_map info) m.was) ∙ ap (λ k. option_map info (held old k)) (sym number_is) ∙ holds.each path p.node p.node_is ∙ ap (λ c. Some (info_of c)) p.content_is in
      let one : infos.File m.before ≡ infos.File (length p.bytes) = cc in
      cc

  at_number : held new number ≡ Some (File (length bytes))
  at_number = set_same old new number (Some (File size)) m.node ∙ ap (λ n. Some (File n)) (m.size_is ∙ ap size_after before_is ∙ long)

  kept : (k : ℕ) → k ≢ number → held new k ≡ held old k
  kept k ne = set_other old new number (Some (File size)) m.node k ne

  kinds_kept : (k : ℕ) → kind (held new k) ≡ kind (held old k)
  kinds_kept k = ⊎_elim (λ (is : k ≡ number). ap (λ j. kind (held new j)) is ∙ ap kind at_number ∙ sym (ap kind m.was) ∙ sym (ap (λ j. kind (held old j)) is)) (λ (ne : k ≡ number → ⊥). ap kind (kept k ne)) (cases_eq k number)

  slots_kept : (k : ℕ) → slots_of (held new k) ≡ slots_of (held old k)
  slots_kept k = ⊎_elim (λ (is : k ≡ number). ap (λ j. slots_of (held new j)) is ∙ ap slots_of at_number ∙ sym (ap slots_of m.was) ∙ sym (ap (λ j. slots_of (held old j)) is)) (λ (ne : k ≡ number → ⊥). ap slots_of (kept k ne)) (cases_eq k number)

  same_shape : (q : Path) → shape_at after q ≡ shape_at tree q
  same_shape q = same_put tree path node (ap shape_of p.node_is ∙ ap (λ c. Some (p.node.number, holds_entries c)) p.content_is) q

  sized_shape : HoldsShape new (shape_at tree)
  sized_shape = record {
    kinds = λ q n b e. kinds_kept n ∙ shape.kinds q n b e;
    slots = λ q n b name e. ap (λ s. number_in s name) (slots_kept n) ∙ shape.slots q n b name e;
    others = λ n there. shape.others n (there_still (held new n) (held old n) (kinds_kept n) there);
  }

  pub sizes_hold : HoldsNodes new after
  sizes_hold = holds_nodes new after (same_holds new (shape_at tree) (shape_at after) same_shape sized_shape) known
    where
      known : (q : Path) (n : Node) → node_at after q ≡ Some n → option_map info (held new n.number) ≡ Some (info_of n.content)
      known q n is =
          elim (decide q path) [
            | inl same ↦
                let here : node_at after q ≡ Some node = put_at tree path node q ∙ ap (λ t. cond t (Some node) (node_at tree q)) (tie_same q path same) in
                let both : Some node ≡ Some n = sym here ∙ is in
                let one : node ≡ n = cc in
                subst (λ (x : Node). option_map info (held new x.number) ≡ Some (info_of x.content)) one (ap (λ k. option_map info (held new k)) number_is ∙ ap (option_map info) at_number)
            | inr untied ↦
                let was : node_at tree q ≡ Some n = sym (put_at tree path node q ∙ ap (λ t. cond t (Some node) (node_at tree q)) untied) ∙ is in
                let ne : n.number ≢ number = λ e.
                let place : q ≡ path = h.shape.one_path q path number _ _ (ap shape_of was ∙ (λ i. Some (e i, holds_entries n.content))) (ap shape_of p.node_is ∙ (λ i. Some (number_is i, holds_entries p.node.content))) in
                let yes : tie q path ≡ true = tie_same q path place in
                cc in
                ap (option_map info) (kept n.number ne) ∙ holds.each q n was
          ]
