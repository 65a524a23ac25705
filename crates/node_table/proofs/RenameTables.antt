-- The nodes after a rename hold the tree after it.
use Rattle.std.proofs.Common.{◌≡◌, ◌≢◌, ℕ, Bool, true, false, List, [], ◌∷◌, ◌++◌, Some, None, refl, sym, ap, subst, ◌∙◌, ⊎_elim, append_assoc, append-nil}
use Rattle.std.specs.Prelude.{Option, bytes_eq, if◌then◌else◌}
use Rattle.std.specs.Option.{option_map}
use Rattle.std.proofs.lemmas.Bool.{cases_eq}
use Rattle.block_format.specs.declared.slot.Slot.{Slot}
use Rattle.block_format.specs.declared.slot.Slot.TheVariants.{Entry}
use Rattle.dir_slots.specs.Slots.{number_in, first_unused, with_slot, without_slot}
use Rattle.tree_model.specs.Path.{Path, parent_of, strip}
use Rattle.tree_model.specs.Shape.{IsTree, shape_at, shape_of, after_rename}
use Rattle.tree_model.specs.Step.{step}
use Rattle.tree_model.specs.Tree.{Tree, node_at, widened, moved, is_directory}
use Rattle.tree_model.specs.declared.command.Command.{Command}
use Rattle.tree_model.specs.declared.node.Node.{Node}
use Rattle.tree_model.specs.declared.node.Content.TheVariants as contents
use Rattle.tree_model.proofs.Fronts.{tie, tie_is, test_fails, strip_none, no_longer}
use Rattle.tree_model.proofs.Lookups.{IsClear, moved_at, widened_other}
use Rattle.tree_model.proofs.Renames.{origin, none_left, at_other}
use Rattle.tree_model.proofs.StepShapes.{is_clear, moved_shape, widened_shape}
use Rattle.node_table.specs.Changes.{Renames}
use Rattle.node_table.specs.Held.{AreDirectories, Nodes, HoldsNodes, held, info, info_of, slots_of}
use Rattle.node_table.specs.declared.held.HeldNode.TheVariants.{Directory}
use Rattle.node_table.proofs.GrowLaws.{Grown, grown_put, grown_taken, grown_moved, grown_kept, width_kept}
use Rattle.node_table.proofs.KeptLaws.{set_same, set_other}
use Rattle.node_table.proofs.MakeLaws.{leads_is, file_clash}
use Rattle.node_table.proofs.PieceLaws.{RenamePieces}
use Rattle.node_table.proofs.RenameShapes.{NodesRenamed, renamed_holds}
use Rattle.node_table.proofs.ShapeLaws.{HoldsShape, kind, number_of, holds_shape, holds_nodes, same_holds, child_of, bytes_itself, same_bytes}
use Rattle.node_table.proofs.SlotNumbers.{number_put, number_taken}
use Rattle.node_table.proofs.WalkLaws.{node_of}

none_either : (b : Bool) (o : Option ℕ) → o ≡ None → (if b then None else o) ≡ None
none_either true o e = refl
none_either false o e = e

other_test : (a b : List ℕ) → (b ≡ a → ⊥) → bytes_eq a b ≡ false
other_test a b ne = test_fails (bytes_eq a b) (λ e. ne (sym (same_bytes a b e)))

module _ (old new : Nodes) (tree : Tree) (h : IsTree tree) (holds : HoldsNodes old tree) (was_directories : AreDirectories old) (from to : Path) (command : Command) (p : RenamePieces tree from to)
    (e : (step tree command).1 ≡ widened (moved from to tree) (parent_of to)) (directories : AreDirectories new) (number parent slot into into_slot : ℕ) (m : Renames from to number parent slot into into_slot old new) where
  abbrev after : Tree
  after = widened (moved from to tree) (parent_of to)

  shape : HoldsShape old (shape_at tree)
  shape = holds_shape old tree holds

  abbrev slots : List Slot
  slots = slots_of (held old parent)

  abbrev left : List Slot
  left = without_slot slots (Some slot)

  abbrev came : List Slot
  came = slots_of (held m.entry.between into)

  -- ---- where the nodes are

  from_shape : shape_at tree (parent_of from ++ m.name ∷ []) ≡ Some (p.node.number, is_directory p.node)
  from_shape = ap (shape_at tree) (sym m.from_is) ∙ ap shape_of p.node_is

  above : (n : Node) × (node_at tree (parent_of from) ≡ Some n) × (is_directory n ≡ true)
  above =
      let front = child_of (shape_at tree) h.shape (parent_of from) m.name _ from_shape in
      let d = node_of (node_at tree (parent_of from)) front.0 true front.1 in
      (d.0, d.1, d.3)

  parent_shape : shape_at tree (parent_of from) ≡ Some (parent, true)
  parent_shape = ap shape_of above.1 ∙ (λ i. Some (leads_is old tree h holds (parent_of from) above.0 above.1 parent m.parent_is i, above.2 i))

  into_shape : shape_at tree (parent_of to) ≡ Some (into, true)
  into_shape = ap shape_of p.above_is ∙ (λ i. Some (leads_is old tree h holds (parent_of to) p.above p.above_is into m.into_is i, p.above_kind i))

  number_is : p.node.number ≡ number
  number_is =
      let named : Some p.node.number ≡ Some number = sym (shape.slots (parent_of from) parent true m.name parent_shape ∙ ap number_of from_shape) ∙ m.entry.left.number_is in
      cc

  node_shape : shape_at tree (parent_of from ++ m.name ∷ []) ≡ Some (number, is_directory p.node)
  node_shape = from_shape ∙ (λ i. Some (number_is i, is_directory p.node))

  free_shape : shape_at tree (parent_of to ++ m.into_name ∷ []) ≡ None
  free_shape = ap (shape_at tree) (sym m.to_is) ∙ ap shape_of p.free

  outside : strip (parent_of from ++ m.name ∷ []) (parent_of to ++ m.into_name ∷ []) ≡ None
  outside = (λ i. strip (sym m.from_is i) (sym m.to_is i)) ∙ p.outside

  -- ---- what is held

  between_parent : held m.entry.between parent ≡ Some (Directory left)
  between_parent = set_same old m.entry.between parent _ m.entry.left.set

  between_other : (k : ℕ) → k ≢ parent → held m.entry.between k ≡ held old k
  between_other k ne = set_other old m.entry.between parent _ m.entry.left.set k ne

  new_into : held new into ≡ Some (Directory (with_slot came (first_unused came) (Entry number m.into_name)))
  new_into = set_same m.entry.between new into _ m.entry.came.set ∙ ap (λ s. Some (Directory (with_slot came s (Entry number m.into_name)))) m.entry.came.first

  new_other : (k : ℕ) → k ≢ into → held new k ≡ held m.entry.between k
  new_other k ne = set_other m.entry.between new into _ m.entry.came.set k ne

  taken : (x : List ℕ) → number_in (slots_of (held m.entry.between parent)) x ≡ (if bytes_eq m.name x then None else number_in slots x)
  taken x = ap (λ o. number_in (slots_of o) x) between_parent ∙ number_taken slots m.name slot (was_directories parent slots m.entry.left.directory).names m.entry.left.slot_is x

  none_taken : (k : ℕ) (x : List ℕ) → number_in (slots_of (held old k)) x ≡ None → number_in (slots_of (held m.entry.between k)) x ≡ None
  none_taken k x none =
      ⊎_elim (λ (is : k ≡ parent).
      let before : number_in slots x ≡ None = ap (λ j. number_in (slots_of (held old j)) x) (sym is) ∙ none in
      ap (λ j. number_in (slots_of (held m.entry.between j)) x) is ∙ taken x ∙ none_either (bytes_eq m.name x) (number_in slots x) before)
      (λ (ne : k ≡ parent → ⊥). ap (λ o. number_in (slots_of o) x) (between_other k ne) ∙ none) (cases_eq k parent)

  between_kept : (k : ℕ) (x : List ℕ) → (k ≡ parent → x ≡ m.name → ⊥) → number_in (slots_of (held m.entry.between k)) x ≡ number_in (slots_of (held old k)) x
  between_kept k x ne =
      ⊎_elim (λ (is : k ≡ parent).
      ap (λ j. number_in (slots_of (held m.entry.between j)) x) is ∙ taken x ∙ ap (λ b. if b then None else number_in slots x) (other_test m.name x (ne is)) ∙ sym (ap (λ j. number_in (slots_of (held old j)) x) is))
      (λ (np : k ≡ parent → ⊥). ap (λ o. number_in (slots_of o) x) (between_other k np)) (cases_eq k parent)

  absent : number_in came m.into_name ≡ None
  absent = none_taken into m.into_name (shape.slots (parent_of to) into true m.into_name into_shape ∙ ap number_of free_shape)

  put : (x : List ℕ) → number_in (slots_of (held new into)) x ≡ (if bytes_eq m.into_name x then Some number else number_in came x)
  put x = ap (λ o. number_in (slots_of o) x) new_into ∙ number_put came number m.into_name absent x

  new_kept : (k : ℕ) (x : List ℕ) → (k ≡ into → x ≡ m.into_name → ⊥) → number_in (slots_of (held new k)) x ≡ number_in (slots_of (held m.entry.between k)) x
  new_kept k x ne =
      ⊎_elim (λ (is : k ≡ into).
      ap (λ j. number_in (slots_of (held new j)) x) is ∙ put x ∙ ap (λ b. if b then Some number else number_in came x) (other_test m.into_name x (ne is)) ∙ sym (ap (λ j. number_in (slots_of (held m.entry.between j)) x) is))
      (λ (np : k ≡ into → ⊥). ap (λ o. number_in (slots_of o) x) (new_other k np)) (cases_eq k into)

  between_kinds : (k : ℕ) → kind (held m.entry.between k) ≡ kind (held old k)
  between_kinds k =
      ⊎_elim (λ (is : k ≡ parent). ap (λ j. kind (held m.entry.between j)) is ∙ ap kind between_parent ∙ sym (ap kind m.entry.left.directory) ∙ sym (ap (λ j. kind (held old j)) is))
      (λ (ne : k ≡ parent → ⊥). ap kind (between_other k ne)) (cases_eq k parent)

  kinds : (k : ℕ) → kind (held new k) ≡ kind (held old k)
  kinds k =
      ⊎_elim (λ (is : k ≡ into). ap (λ j. kind (held new j)) is ∙ ap kind new_into ∙ sym (ap kind m.entry.came.directory) ∙ sym (ap (λ j. kind (held m.entry.between j)) is))
      (λ (ne : k ≡ into → ⊥). ap kind (new_other k ne)) (cases_eq k into)
      ∙ between_kinds k

  nodes_renamed : NodesRenamed old new parent m.name into m.into_name number
  nodes_renamed = record {
    kinds = kinds;
    came = put m.into_name ∙ ap (λ b. if b then Some number else number_in came m.into_name) (bytes_itself m.into_name);
    left = λ ne. new_kept parent m.name ne ∙ taken m.name ∙ ap (λ b. if b then None else number_in slots m.name) (bytes_itself m.name);
    others = λ k x no_into no_parent. new_kept k x no_into ∙ between_kept k x no_parent;
  }

  -- ---- the tree after it

  clear : IsClear to tree
  clear = is_clear tree to h p.free

  after_shape : (q : Path) → shape_at after q ≡ after_rename (shape_at tree) from to q
  after_shape q = widened_shape (moved from to tree) (parent_of to) q ∙ moved_shape tree from to clear q

  new_shape : HoldsShape new (shape_at after)
  new_shape =
      same_holds new (after_rename (shape_at tree) (parent_of from ++ m.name ∷ []) (parent_of to ++ m.into_name ∷ [])) (shape_at after) (λ q. after_shape q ∙ (λ i. after_rename (shape_at tree) (m.from_is i) (m.to_is i) q))
      (renamed_holds (shape_at tree) h.shape (parent_of from) (parent_of to) m.name m.into_name parent into number (is_directory p.node) old new shape parent_shape into_shape node_shape free_shape outside nodes_renamed)

  into_after : shape_at after (parent_of to) ≡ Some (into, true)
  into_after =
      after_shape (parent_of to)
      ∙ at_other (shape_at tree) from to (parent_of to)
      (none_left to (parent_of to) (λ r is. no_longer (parent_of to) [] m.into_name r (is ∙ ap (λ x. x ++ r) m.to_is ∙ append_assoc (parent_of to) (m.into_name ∷ []) r ∙ ap (λ x. x ++ m.into_name ∷ r) (sym (append-nil (parent_of to))))))
      (none_left from (parent_of to) (λ r is. strip_none from to (r ++ m.into_name ∷ []) p.outside (m.to_is ∙ ap (λ x. x ++ m.into_name ∷ []) is ∙ append_assoc from r (m.into_name ∷ []))))
      ∙ into_shape

  into_grown : Grown (slots_of (held old into)) (held new into)
  into_grown =
      ⊎_elim (λ (is : into ≡ parent).
      let same : came ≡ left = ap (λ k. slots_of (held m.entry.between k)) is ∙ ap slots_of between_parent in
      subst (λ (k : ℕ). Grown (slots_of (held old k)) (held new into)) (sym is)
      (subst (Grown slots) (sym (new_into ∙ ap (λ s. Some (Directory (with_slot s (first_unused s) (Entry number m.into_name)))) same)) (grown_moved slots m.name slot number m.into_name)))
      (λ (ne : into ≡ parent → ⊥).
      let same : came ≡ slots_of (held old into) = ap slots_of (between_other into ne) in
      subst (Grown (slots_of (held old into))) (sym (new_into ∙ ap (λ s. Some (Directory (with_slot s (first_unused s) (Entry number m.into_name)))) same)) (grown_put (slots_of (held old into)) number m.into_name))
      (cases_eq into parent)

  grown_at : (q : Path) (n : ℕ) → shape_at tree q ≡ Some (n, true) → Grown (slots_of (held old n)) (held new n)
  grown_at q n was =
      ⊎_elim (λ (is : n ≡ into). subst (λ (k : ℕ). Grown (slots_of (held old k)) (held new k)) (sym is) into_grown)
      (λ (ne : n ≡ into → ⊥).
      ⊎_elim (λ (is : n ≡ parent). subst (λ (k : ℕ). Grown (slots_of (held old k)) (held new k)) (sym is)
      (subst (Grown slots) (sym (new_other parent (λ same. ne (is ∙ same)) ∙ between_parent)) (grown_taken slots m.name slot m.entry.left.slot_is)))
      (λ (np : n ≡ parent → ⊥). grown_kept (held old n) (held new n) (shape.kinds q n true was) (new_other n ne ∙ between_other n np))
      (cases_eq n parent))
      (cases_eq n into)

  not_directory : (n k : ℕ) → kind (held old n) ≡ Some false → kind (held old k) ≡ Some true → n ≢ k
  not_directory n k file directory is = let clash : Some false ≡ Some true = sym file ∙ ap (λ j. kind (held old j)) is ∙ directory in cc

  file_known : (q : Path) (n : Node) → node_at after q ≡ Some n → is_directory n ≡ false → option_map info (held new n.number) ≡ Some (info_of n.content)
  file_known q n is file =
      let untied : tie q (parent_of to) ≡ false = test_fails (tie q (parent_of to)) (λ t.
      file_clash (shape_at after q) n.number into (ap shape_of is ∙ ap (λ b. Some (n.number, b)) file) (ap (shape_at after) (tie_is _ _ t) ∙ into_after)) in
      let o = origin (node_at tree) from to q n (sym (moved_at from to tree clear q) ∙ sym (widened_other (moved from to tree) (parent_of to) q untied) ∙ is) in
      let was : kind (held old n.number) ≡ Some false = shape.kinds o.0 n.number false (ap shape_of o.2 ∙ ap (λ b. Some (n.number, b)) file) in
      let kept : held new n.number ≡ held old n.number =
      new_other n.number (not_directory n.number into was (shape.kinds (parent_of to) into true into_shape)) ∙ between_other n.number (not_directory n.number parent was (shape.kinds (parent_of from) parent true parent_shape)) in
      ap (option_map info) kept ∙ holds.each o.0 n o.2

  directory_known : (q : Path) (n width : ℕ) → node_at after q ≡ Some (record { number = n; content = contents.Directory width }) → option_map info (held new n) ≡ Some (info_of (contents.Directory width))
  directory_known q n width is =
      let o = origin (shape_at tree) from to q (n, true) (sym (after_shape q) ∙ ap shape_of is) in
      width_kept old new tree h holds command after e new_shape directories o.0 q n width o.2 is (grown_at o.0 n o.2)

  pub renames_hold : HoldsNodes new after
  renames_hold = holds_nodes new after new_shape (λ q n is. known q n is n.content refl)
    where
      known : (q : Path) (n : Node) → node_at after q ≡ Some n → (c : _) → n.content ≡ c → option_map info (held new n.number) ≡ Some (info_of n.content)
      known q n is (contents.File bytes) kinds = file_known q n is (ap (λ c. is_directory (record { number = n.number; content = c })) kinds)
      known q n is (contents.Directory width) kinds = directory_known q n.number width (is ∙ (λ i. Some (record { number = n.number; content = kinds i }))) ∙ sym (ap (λ c. Some (info_of c)) kinds)
