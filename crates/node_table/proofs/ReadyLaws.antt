-- What a change finds in a table that holds a tree which accepts it.
use Rattle.std.proofs.Common.{◌≡◌, ◌≤◌, ◌<◌, ℕ, Bool, true, false, not, cond, List, [], ◌∷◌, ◌++◌, length, Some, None, refl, sym, ap, ◌∙◌, arith, inl, inr, append_assoc, append-nil}
use Rattle.std.specs.Prelude.{Option, Ok, is_some}
use Rattle.dir_slots.specs.Slots.{number_in, slot_of, first_unused}
use Rattle.tree_model.specs.Path.{Path, is_root, parent_of, strip}
use Rattle.tree_model.specs.Shape.{IsTree, shape_at, shape_of, after_rename}
use Rattle.tree_model.specs.Step.{◌>>=◌, refuse_if, step}
use Rattle.tree_model.specs.Tree.{Tree, node_at, with_node, entries_of, holds_entries, widened, moved}
use Rattle.tree_model.specs.Tree as trees
use Rattle.tree_model.specs.declared.command.Command.TheVariants.{Create, Rename}
use Rattle.tree_model.specs.declared.node.Node.{Node}
use Rattle.tree_model.specs.declared.node.Content.TheVariants as contents
use Rattle.tree_model.specs.declared.refusal.Refusal.TheVariants.{NotADirectory, Exists, RootFixed, Inside, NotEmpty}
use Rattle.tree_model.proofs.EntryCounts.{few_entries, total_is}
use Rattle.tree_model.proofs.Fronts.{tie, tie_same, strip_none}
use Rattle.tree_model.proofs.Renames.{at_below, at_other, none_left}
use Rattle.tree_model.proofs.Shapes.{with_shape}
use Rattle.tree_model.proofs.StepShapes.{put_shape, widened_shape, moved_shape, is_clear}
use Rattle.tree_model.proofs.StepWidths.{keeps_tree}
use Rattle.node_table.specs.Changes.{HoldsSlots, LeadsTo}
use Rattle.node_table.specs.Checks.{new_place, may_make, may_remove, may_rename, is_full}
use Rattle.node_table.specs.Found.{found_of}
use Rattle.node_table.specs.Held.{AreDirectories, Nodes, HoldsNodes, held, info_of, slots_of, is_directory}
use Rattle.node_table.proofs.CountLaws.{more_entries}
use Rattle.node_table.proofs.GrowLaws.{dir_of}
use Rattle.node_table.proofs.PieceLaws.{MakePieces, RemovePieces, RenamePieces, step_is}
use Rattle.node_table.proofs.RefusalLaws.{count_same, full_is}
use Rattle.node_table.proofs.ShapeLaws.{holds_shape, number_of, child_of, one_name}
use Rattle.node_table.proofs.RenameShapes.{split_last}
use Rattle.node_table.proofs.SlotCounts.{first_within}
use Rattle.node_table.proofs.SlotNumbers.{no_slot}
use Rattle.node_table.proofs.WalkLaws.{look_there, there_is, same_kind, node_of}

-- nothing of a tree's shape is nothing of the tree
pub some_shape : (o : Option Node) → is_some (shape_of o) ≡ is_some o
some_shape None = refl
some_shape (Some node) = refl

module _ (nodes : Nodes) (tree : Tree) (h : IsTree tree) (holds : HoldsNodes nodes tree) where
  pub directory_held : (path : Path) (node : Node) → node_at tree path ≡ Some node → trees.is_directory node ≡ true → HoldsSlots nodes node.number
  directory_held path node is kind = dir_of (held nodes node.number) ((holds_shape nodes tree holds).kinds path node.number true (ap shape_of is ∙ ap (λ b. Some (node.number, b)) kind))

  pub leads_to : (path : Path) (node : Node) → node_at tree path ≡ Some node → LeadsTo nodes path node.number
  leads_to path node is = (found_of node, look_there nodes tree h holds path node is, refl)

  -- the number of a name, as the tree has it
  pub numbered : (path : Path) (node : Node) (name : List ℕ) → node_at tree path ≡ Some node → (o : Option (ℕ × Bool)) → shape_at tree (path ++ name ∷ []) ≡ o → number_in (slots_of (held nodes node.number)) name ≡ number_of o
  numbered path node name is o e = (holds_shape nodes tree holds).slots path node.number (trees.is_directory node) name (ap shape_of is) ∙ ap number_of e

  -- the first unused slot is no more than the entries
  pub first_few : AreDirectories nodes → (path : Path) (node : Node) → node_at tree path ≡ Some node → HoldsSlots nodes node.number → first_unused (slots_of (held nodes node.number)) ≤ length (entries_of tree path)
  first_few directories path node is there = omega (arith, first_within (slots_of (held nodes node.number)), count_same nodes tree h holds directories path node is (slots_of (held nodes node.number)) there)

  pub place_is : (path : Path) (above : Node) → node_at tree (parent_of path) ≡ Some above → trees.is_directory above ≡ true → node_at tree path ≡ None → new_place nodes path ≡ Ok above.number
  place_is path above is kind free =
      let directory : is_directory (info_of above.content) ≡ true = same_kind above.content ∙ kind in
      (λ i. look_there nodes tree h holds (parent_of path) above is i >>= (λ p. refuse_if (not (is_directory p.info)) NotADirectory >>= (λ _. refuse_if (there_is nodes tree h holds path i) Exists >>= (λ _. Ok p.number))))
      ∙ (λ i. refuse_if (not (directory i)) NotADirectory >>= (λ _. refuse_if (is_some (free i)) Exists >>= (λ _. Ok above.number)))

-- ---- a new node

module _ (nodes : Nodes) (tree : Tree) (h : IsTree tree) (holds : HoldsNodes nodes tree) (path : Path) (p : MakePieces tree path (contents.File [])) where
  pub make_place : may_make nodes path ≡ Ok p.above.number
  make_place = (λ i. refuse_if (p.named i) Exists >>= (λ _. new_place nodes path)) ∙ place_is nodes tree h holds path p.above p.above_is p.above_kind p.free

  module _ (name : List ℕ) (path_is : path ≡ parent_of path ++ name ∷ []) where
    abbrev after : Tree
    after = (step tree (Create path)).1

    free_shape : shape_at tree (parent_of path ++ name ∷ []) ≡ None
    free_shape = ap (shape_at tree) (sym path_is) ∙ ap shape_of p.free

    pub make_absent : slot_of (slots_of (held nodes p.above.number)) name ≡ None
    make_absent = no_slot (slots_of (held nodes p.above.number)) name (numbered nodes tree h holds (parent_of path) p.above name p.above_is None free_shape)

    after_shape : (q : Path) → shape_at after q ≡ with_shape (shape_at tree) path (p.number, false) q
    after_shape q =
        ap (λ t. shape_at t q) (step_is tree (Create path) _ p.after)
        ∙ widened_shape (with_node tree path (record { number = p.number; content = contents.File [] })) (parent_of path) q ∙ put_shape tree path (record { number = p.number; content = contents.File [] }) q

    still : (q : Path) → is_some (node_at tree q) ≡ true → is_some (node_at after q) ≡ true
    still q there =
        sym (some_shape (node_at after q)) ∙ ap is_some (after_shape q)
        ∙ elim (tie q path) as (λ b. is_some (cond b (Some (p.number, false)) (shape_at tree q)) ≡ true) [ true ↦ refl | false ↦ some_shape (node_at tree q) ∙ there ]

    now_there : is_some (node_at after (parent_of path ++ name ∷ [])) ≡ true
    now_there =
        sym (some_shape (node_at after (parent_of path ++ name ∷ []))) ∙ ap is_some (after_shape (parent_of path ++ name ∷ []))
        ∙ ap (λ b. is_some (cond b (Some (p.number, false)) (shape_at tree (parent_of path ++ name ∷ [])))) (tie_same (parent_of path ++ name ∷ []) path (sym path_is))

    pub make_room : AreDirectories nodes → first_unused (slots_of (held nodes p.above.number)) < 65534
    make_room directories =
        let t = keeps_tree tree (Create path) h in
        let more = more_entries tree after (parent_of path) name h.ordered (ap (node_at tree) (sym path_is) ∙ p.free) now_there (λ x there. still (parent_of path ++ x ∷ []) there) in
        omega (
          arith,
          first_few nodes tree h holds directories (parent_of path) p.above p.above_is (directory_held nodes tree h holds (parent_of path) p.above p.above_is p.above_kind),
          more,
          few_entries after t.ordered t.shape (parent_of path),
          total_is after (parent_of path),
        )

-- ---- a node gone

module _ (nodes : Nodes) (tree : Tree) (h : IsTree tree) (holds : HoldsNodes nodes tree) (path : Path) (p : RemovePieces tree path) where
  pub remove_place : AreDirectories nodes → may_remove nodes path ≡ Ok p.node.number
  remove_place directories =
      ap (λ r. r >>= (λ f. refuse_if (is_root path) RootFixed >>= (λ _. refuse_if (is_full nodes f) NotEmpty >>= (λ _. Ok f.number)))) (look_there nodes tree h holds path p.node p.node_is)
      ∙ (λ i. refuse_if (p.named i) RootFixed >>= (λ _. refuse_if ((full_is nodes tree h holds directories path p.node p.node_is) i) NotEmpty >>= (λ _. Ok p.node.number)))
      ∙ ap (λ b. refuse_if b NotEmpty >>= (λ _. Ok p.node.number)) p.empty

-- ---- the directory that a node is in

-- the directory above a node, and its number there
pub record IsIn (nodes : Nodes) (tree : Tree) (path : Path) (node : Node) (name : List ℕ) (above : Node) : Type 0 where
  pub above_is : node_at tree (parent_of path) ≡ Some above
  pub directory : HoldsSlots nodes above.number
  pub number_is : number_in (slots_of (held nodes above.number)) name ≡ Some node.number
  pub at_least : 1 ≤ node.number
  pub at_most : node.number ≤ 65535

pub is_in : (nodes : Nodes) (tree : Tree) → IsTree tree → HoldsNodes nodes tree → (path : Path) (node : Node) → node_at tree path ≡ Some node → (name : List ℕ) → path ≡ parent_of path ++ name ∷ [] → (above : Node) × IsIn nodes tree path node name above
is_in nodes tree h holds path node is name path_is =
    let shape : shape_at tree (parent_of path ++ name ∷ []) ≡ Some (node.number, trees.is_directory node) = ap (shape_at tree) (sym path_is) ∙ ap shape_of is in
    let front = child_of (shape_at tree) h.shape (parent_of path) name _ shape in
    let d = node_of (node_at tree (parent_of path)) front.0 true front.1 in
    let within = h.shape.numbered path (node.number, trees.is_directory node) (ap shape_of is) in (
      d.0,
      record {
        above_is = d.1;
        directory = directory_held nodes tree h holds (parent_of path) d.0 d.1 d.3;
        number_is = numbered nodes tree h holds (parent_of path) d.0 name d.1 (Some (node.number, trees.is_directory node)) shape;
        at_least = within.0;
        at_most = within.1;
      },
    )

-- ---- a node renamed

module _ (nodes : Nodes) (tree : Tree) (h : IsTree tree) (holds : HoldsNodes nodes tree) (from to : Path) (p : RenamePieces tree from to) where
  pub rename_place : may_rename nodes from to ≡ Ok (record { number = p.node.number; to = p.above.number })
  rename_place =
      ap (λ r. r >>= (λ f. refuse_if (is_root to) Exists >>= (λ _. new_place nodes to >>= (λ into. refuse_if (is_root from) RootFixed >>= (λ _. refuse_if (is_some (strip from to)) Inside >>= (λ _. Ok (record { number = f.number; to = into })))))))
      (look_there nodes tree h holds from p.node p.node_is)
      ∙ (λ i. refuse_if (p.to_named i) Exists >>= (λ _. place_is nodes tree h holds to p.above p.above_is p.above_kind p.free i >>= (λ into. refuse_if (p.from_named i) RootFixed >>= (λ _. refuse_if (is_some (p.outside i)) Inside >>= (λ _. Ok (record { number = p.node.number; to = into }))))))

  module _ (name into_name : List ℕ) (from_is : from ≡ parent_of from ++ name ∷ []) (to_is : to ≡ parent_of to ++ into_name ∷ []) where
    abbrev now : Tree
    now = (step tree (Rename from to)).1

    pub rename_absent : slot_of (slots_of (held nodes p.above.number)) into_name ≡ None
    rename_absent = no_slot (slots_of (held nodes p.above.number)) into_name (numbered nodes tree h holds (parent_of to) p.above into_name p.above_is None (ap (shape_at tree) (sym to_is) ∙ ap shape_of p.free))

    now_shape : (q : Path) → shape_at now q ≡ after_rename (shape_at tree) from to q
    now_shape q = ap (λ t. shape_at t q) (step_is tree (Rename from to) _ p.after) ∙ widened_shape (moved from to tree) (parent_of to) q ∙ moved_shape tree from to (is_clear tree to h p.free) q

    came : is_some (node_at now (parent_of to ++ into_name ∷ [])) ≡ true
    came =
        sym (some_shape (node_at now (parent_of to ++ into_name ∷ []))) ∙ ap is_some (now_shape (parent_of to ++ into_name ∷ []) ∙ ap (after_rename (shape_at tree) from to) (sym to_is ∙ sym (append-nil to)) ∙ at_below (shape_at tree) from to [])
        ∙ some_shape (node_at tree (from ++ [])) ∙ ap is_some (ap (node_at tree) (append-nil from) ∙ p.node_is)

    module _ (apart : parent_of from ≡ parent_of to → ⊥) where
      -- what is in the directory stays in it
      stays : (x : List ℕ) → is_some (node_at tree (parent_of to ++ x ∷ [])) ≡ true → is_some (node_at now (parent_of to ++ x ∷ [])) ≡ true
      stays x there =
          sym (some_shape (node_at now (parent_of to ++ x ∷ []))) ∙ ap is_some (now_shape (parent_of to ++ x ∷ []) ∙ at_other (shape_at tree) from to (parent_of to ++ x ∷ []) no_to no_from) ∙ some_shape (node_at tree (parent_of to ++ x ∷ [])) ∙ there
        where
          no_to : strip to (parent_of to ++ x ∷ []) ≡ None
          no_to = none_left to (parent_of to ++ x ∷ []) (λ r e. let none : is_some (node_at tree (parent_of to ++ x ∷ [])) ≡ false = ap is_some (ap (node_at tree) e ∙ is_clear tree to h p.free r) in cc)

          no_from : strip from (parent_of to ++ x ∷ []) ≡ None
          no_from = none_left from (parent_of to ++ x ∷ []) (λ r e.
              elim (split_last (parent_of to) from r x e) [
                | inl it ↦ apart (sym (one_name (parent_of to) (parent_of from) x name (it ∙ from_is)).0)
                | inr m ↦ strip_none from to (m.0 ++ into_name ∷ []) p.outside (to_is ∙ ap (λ q. q ++ into_name ∷ []) m.1 ∙ append_assoc from m.0 (into_name ∷ []))
              ])

      pub rename_room : AreDirectories nodes → first_unused (slots_of (held nodes p.above.number)) < 65534
      rename_room directories =
          let t = keeps_tree tree (Rename from to) h in
          let more = more_entries tree now (parent_of to) into_name h.ordered (ap (node_at tree) (sym to_is) ∙ p.free) came stays in
          omega (
            arith,
            first_few nodes tree h holds directories (parent_of to) p.above p.above_is (directory_held nodes tree h holds (parent_of to) p.above p.above_is p.above_kind),
            more,
            few_entries now t.ordered t.shape (parent_of to),
            total_is now (parent_of to),
          )
