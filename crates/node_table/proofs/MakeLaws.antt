-- The nodes after a new one hold the tree after it.
use Rattle.std.proofs.Common.{◌≡◌, ◌≢◌, ℕ, Bool, true, false, List, [], ◌∷◌, ◌++◌, length, Some, None, refl, sym, ap, subst, ◌∙◌, inl, inr, ⊎_elim, cond}
use Rattle.std.specs.Prelude.{Option, Ok, is_some}
use Rattle.std.specs.Option.{option_map}
use Rattle.std.proofs.lemmas.Bool.{cases_eq, false≢true}
use Rattle.block_format.specs.declared.slot.Slot.{Slot}
use Rattle.block_format.specs.declared.slot.Slot.TheVariants.{Entry}
use Rattle.dir_slots.specs.Slots.{number_in, first_unused, with_slot}
use Rattle.tree_model.specs.Path.{Path, parent_of}
use Rattle.tree_model.specs.Shape.{IsTree, shape_at, shape_of}
use Rattle.tree_model.specs.Step.{step}
use Rattle.tree_model.specs.Tree.{Tree, node_at, with_node, holds_entries}
use Rattle.tree_model.specs.declared.command.Command.{Command}
use Rattle.tree_model.specs.declared.node.Node.{Node}
use Rattle.tree_model.specs.declared.node.Content.{Content}
use Rattle.tree_model.specs.declared.node.Content.TheVariants as contents
use Rattle.tree_model.proofs.AttemptLaws.{put_at}
use Rattle.tree_model.proofs.Fronts.{tie, tie_is, tie_same, test_fails, decide}
use Rattle.tree_model.proofs.Lookups.{widened_other}
use Rattle.tree_model.proofs.Shapes.{with_shape}
use Rattle.tree_model.proofs.StepShapes.{put_shape, widened_shape}
use Rattle.node_table.specs.Changes.{LeadsTo, Makes}
use Rattle.node_table.specs.Found.{found_of}
use Rattle.node_table.specs.Held.{AreDirectories, Nodes, HoldsNodes, held, info, info_of, slots_of, is_directory}
use Rattle.node_table.specs.declared.held.FoundNode.{FoundNode}
use Rattle.node_table.specs.declared.held.HeldNode.{HeldNode}
use Rattle.node_table.specs.declared.held.HeldNode.TheVariants.{File, Directory}
use Rattle.node_table.specs.declared.held.NodeInfo.TheVariants as infos
use Rattle.node_table.proofs.GrowLaws.{Grown, grown_put, grown_kept, width_kept, width_new}
use Rattle.node_table.proofs.KeptLaws.{set_same, set_other}
use Rattle.node_table.proofs.NumberLaws.{next_is, used_is, held_there}
use Rattle.node_table.proofs.PieceLaws.{MakePieces, made}
use Rattle.node_table.proofs.ShapeLaws.{HoldsShape, NodesMade, kind, number_of, holds_shape, holds_nodes, same_holds, made_holds, not_itself}
use Rattle.node_table.proofs.SlotNumbers.{number_put}
use Rattle.node_table.proofs.WalkLaws.{look_there, same_kind}

-- the number that a path leads to is its node's
pub leads_is : (old : Nodes) (tree : Tree) → IsTree tree → HoldsNodes old tree → (path : Path) (node : Node) → node_at tree path ≡ Some node → (number : ℕ) → LeadsTo old path number → node.number ≡ number
leads_is old tree h holds path node is number leads =
    let same : Ok leads.0 ≡ Ok (found_of node) = sym leads.1 ∙ look_there old tree h holds path node is in
    let found : leads.0 ≡ found_of node = cc in
    sym (ap (λ (f : FoundNode). f.number) found) ∙ leads.2

pub none_held : (o : Option HeldNode) → is_some o ≡ false → o ≡ None
none_held None e = refl
none_held (Some entry) e = cc

empty_directory : (fresh : HeldNode) → kind (Some fresh) ≡ Some true → slots_of (Some fresh) ≡ [] → fresh ≡ Directory []
empty_directory (File size) e none = let clash : Some false ≡ Some true = e in cc
empty_directory (Directory slots) e none = ap Directory none

pub held_kind : (o : Option HeldNode) (b : Bool) → kind o ≡ Some b → is_some o ≡ true
held_kind None b e = cc
held_kind (Some entry) b e = refl

abbrev kind_in : Option (ℕ × Bool) → Bool
kind_in None = false
kind_in (Some shape) = shape.1

pub file_clash : (x : Option (ℕ × Bool)) (n m : ℕ) → x ≡ Some (n, false) → x ≡ Some (m, true) → ⊥
file_clash x n m e f = false≢true (sym (ap kind_in e) ∙ ap kind_in f)

module _ (old new : Nodes) (tree : Tree) (h : IsTree tree) (holds : HoldsNodes old tree) (path : Path) (content : Content) (fresh : HeldNode) (command : Command) (p : MakePieces tree path content)
    (e : (step tree command).1 ≡ made tree path content p.number) (directories : AreDirectories new) (fresh_info : info fresh ≡ info_of content) (fresh_slots : slots_of (Some fresh) ≡ [])
    (parent slot number : ℕ) (m : Makes path fresh parent slot number old new) where
  abbrev node : Node
  node = record { number = p.number; content = content }

  abbrev after : Tree
  after = made tree path content p.number

  shape : HoldsShape old (shape_at tree)
  shape = holds_shape old tree holds

  parent_number : p.above.number ≡ parent
  parent_number = leads_is old tree h holds (parent_of path) p.above p.above_is parent m.parent_is

  number_is : number ≡ p.number
  number_is = let same : Some number ≡ Some p.number = next_is old tree h holds (Some number) m.least ∙ p.number_is in cc

  above_shape : shape_at tree (parent_of path) ≡ Some (parent, true)
  above_shape = ap shape_of p.above_is ∙ (λ i. Some (parent_number i, p.above_kind i))

  free_shape : shape_at tree (parent_of path ++ m.name ∷ []) ≡ None
  free_shape = ap (shape_at tree) (sym m.path_is) ∙ ap shape_of p.free

  unused : held old number ≡ None
  unused = none_held (held old number) m.least.free

  apart : number ≢ parent
  apart is =
      let some : held old parent ≡ Some (Directory (slots_of (held old parent))) = m.entry.directory in
      let none : held old parent ≡ None = ap (held old) (sym is) ∙ unused in
      cc

  abbrev slots : List Slot
  slots = slots_of (held old parent)

  absent : number_in slots m.name ≡ None
  absent = shape.slots (parent_of path) parent true m.name above_shape ∙ ap number_of free_shape

  at_parent : held new parent ≡ Some (Directory (with_slot slots (first_unused slots) (Entry number m.name)))
  at_parent =
      set_other m.between new number (Some fresh) m.node parent (λ is. apart (sym is)) ∙ set_same old m.between parent _ m.entry.set
      ∙ ap (λ s. Some (Directory (with_slot slots s (Entry number m.name)))) m.entry.first

  at_number : held new number ≡ Some fresh
  at_number = set_same m.between new number (Some fresh) m.node

  kept : (k : ℕ) → k ≢ number → k ≢ parent → held new k ≡ held old k
  kept k ne np = set_other m.between new number (Some fresh) m.node k ne ∙ set_other old m.between parent _ m.entry.set k np

  nodes_made : NodesMade old new parent number m.name (Some fresh)
  nodes_made = record {
    apart = apart;
    at_number = at_number;
    at_parent = λ x. ap (λ o. number_in (slots_of o) x) at_parent ∙ number_put slots number m.name absent x;
    parent_kind = ap kind at_parent ∙ sym (ap kind m.entry.directory);
    others = kept;
  }

  fresh_kind : kind (Some fresh) ≡ Some (holds_entries content)
  fresh_kind = ap (λ i. Some (is_directory i)) fresh_info ∙ ap Some (same_kind content)

  after_shape : (q : Path) → shape_at after q ≡ with_shape (shape_at tree) path (p.number, holds_entries content) q
  after_shape q = widened_shape (with_node tree path node) (parent_of path) q ∙ put_shape tree path node q

  new_shape : HoldsShape new (shape_at after)
  new_shape =
      same_holds new (with_shape (shape_at tree) (parent_of path ++ m.name ∷ []) (number, holds_entries content)) (shape_at after)
      (λ q. after_shape q ∙ (λ i. with_shape (shape_at tree) (m.path_is i) (sym number_is i, holds_entries content) q))
      (made_holds (shape_at tree) h.shape (parent_of path) m.name parent number (holds_entries content) fresh old new shape above_shape free_shape unused fresh_kind fresh_slots nodes_made)

  -- a node of before, by its kind
  not_number : (n : ℕ) → is_some (held old n) ≡ true → n ≢ number
  not_number n some is = let none : is_some (held old n) ≡ false = ap (λ k. is_some (held old k)) is ∙ m.least.free in cc

  not_parent : (n : ℕ) → kind (held old n) ≡ Some false → n ≢ parent
  not_parent n file is = let directory : kind (held old n) ≡ Some true = ap (λ k. kind (held old k)) is ∙ ap kind m.entry.directory in let clash : Some false ≡ Some true = sym file ∙ directory in cc

  new_known : option_map info (held new p.number) ≡ Some (info_of content)
  new_known = ap (λ k. option_map info (held new k)) (sym number_is) ∙ ap (option_map info) at_number ∙ ap Some fresh_info

  above_after : shape_at after (parent_of path) ≡ Some (parent, true)
  above_after =
      after_shape (parent_of path)
      ∙ ap (λ t. cond t (Some (p.number, holds_entries content)) (shape_at tree (parent_of path)))
      (test_fails (tie (parent_of path) path) (λ t. not_itself (parent_of path) m.name (sym m.path_is ∙ sym (tie_is _ _ t))))
      ∙ above_shape

  file_untied : (q : Path) (n : ℕ) → shape_at after q ≡ Some (n, false) → tie q (parent_of path) ≡ false
  file_untied q n is = test_fails (tie q (parent_of path)) (λ t.
      file_clash (shape_at after q) n parent is (ap (shape_at after) (tie_is _ _ t) ∙ above_after))

  file_known : (q : Path) (n : ℕ) (bytes : List ℕ) → node_at after q ≡ Some (record { number = n; content = contents.File bytes }) → option_map info (held new n) ≡ Some (infos.File (length bytes))
  file_known q n bytes is =
      let file : Node = record { number = n; content = contents.File bytes } in
      let stood : node_at (with_node tree path node) q ≡ Some file = sym (widened_other (with_node tree path node) (parent_of path) q (file_untied q n (ap shape_of is))) ∙ is in
      elim (decide q path) [
        | inl same ↦
            let here : node_at (with_node tree path node) q ≡ Some node = put_at tree path node q ∙ ap (λ t. cond t (Some node) (node_at tree q)) (tie_same q path same) in
            let both : Some node ≡ Some file = sym here ∙ stood in
            let one : node ≡ file = cc in
            subst (λ (x : Node). option_map info (held new x.number) ≡ Some (info_of x.content)) one new_known
        | inr untied ↦
            let was : node_at tree q ≡ Some file = sym (put_at tree path node q ∙ ap (λ t. cond t (Some node) (node_at tree q)) untied) ∙ stood in
            ap (option_map info) (kept n (not_number n (held_there old tree h holds q file was)) (not_parent n (shape.kinds q n false (ap shape_of was)))) ∙ holds.each q file was
      ]

  grown_at : (q : Path) (n : ℕ) → shape_at tree q ≡ Some (n, true) → Grown (slots_of (held old n)) (held new n)
  grown_at q n was =
      ⊎_elim (λ (is : n ≡ parent). subst (λ (k : ℕ). Grown (slots_of (held old k)) (held new k)) (sym is) (subst (Grown slots) (sym at_parent) (grown_put slots number m.name)))
      (λ (np : n ≡ parent → ⊥). grown_kept (held old n) (held new n) (shape.kinds q n true was) (kept n (not_number n (held_kind (held old n) true (shape.kinds q n true was))) np))
      (cases_eq n parent)

  directory_known : (q : Path) (n width : ℕ) → node_at after q ≡ Some (record { number = n; content = contents.Directory width }) → option_map info (held new n) ≡ Some (infos.Directory width)
  directory_known q n width is =
      elim (decide q path) [
        | inl same ↦
            let both : Some (p.number, holds_entries content) ≡ Some (n, true) =
            sym (after_shape q ∙ ap (λ t. cond t (Some (p.number, holds_entries content)) (shape_at tree q)) (tie_same q path same)) ∙ ap shape_of is in
            let pair : (p.number, holds_entries content) ≡ (n, true) = cc in
            let here : number ≡ n = number_is ∙ ap (λ (x : ℕ × Bool). x.0) pair in
            let empty : fresh ≡ Directory [] = empty_directory fresh (fresh_kind ∙ ap (λ (x : ℕ × Bool). Some x.1) pair) fresh_slots in
            width_new old new tree h holds command after e new_shape directories q n width
            (used_is old tree h holds n ∙ ap (λ k. is_some (held old k)) (sym here) ∙ m.least.free) is (ap (held new) (sym here) ∙ at_number ∙ ap Some empty)
        | inr untied ↦
            let was : shape_at tree q ≡ Some (n, true) = sym (after_shape q ∙ ap (λ t. cond t (Some (p.number, holds_entries content)) (shape_at tree q)) untied) ∙ ap shape_of is in
            width_kept old new tree h holds command after e new_shape directories q q n width was is (grown_at q n was)
      ]

  pub makes_hold : HoldsNodes new after
  makes_hold = holds_nodes new after new_shape (λ q n is. known q n is n.content refl)
    where
      known : (q : Path) (n : Node) → node_at after q ≡ Some n → (c : Content) → n.content ≡ c → option_map info (held new n.number) ≡ Some (info_of n.content)
      known q n is (contents.File bytes) kind = file_known q n.number bytes (is ∙ (λ i. Some (record { number = n.number; content = kind i }))) ∙ sym (ap (λ c. Some (info_of c)) kind)
      known q n is (contents.Directory width) kind = directory_known q n.number width (is ∙ (λ i. Some (record { number = n.number; content = kind i }))) ∙ sym (ap (λ c. Some (info_of c)) kind)
