-- Where the slots of a table lead is where the paths of its tree lead.
use Rattle.std.proofs.Common.{◌≡◌, ℕ, Bool, true, false, List, [], ◌∷◌, ◌++◌, Some, None, refl, sym, ap, subst, ◌∙◌}
use Rattle.std.specs.Prelude.{Option, Result, Ok, Err, is_some}
use Rattle.std.specs.Option.{option_map}
use Rattle.std.specs.Result.{result_ok}
use Rattle.std.proofs.lemmas.List.{append_assoc, append-nil}
use Rattle.dir_slots.specs.Slots.{number_in}
use Rattle.tree_model.specs.Path.{Path}
use Rattle.tree_model.specs.Shape.{IsTree, shape_of}
use Rattle.tree_model.specs.Step.{◌>>=◌, or_refuse, walk, walk_from}
use Rattle.tree_model.specs.Tree.{Tree, node_at, holds_entries}
use Rattle.tree_model.specs.Tree as trees
use Rattle.tree_model.specs.declared.node.Node.{Node}
use Rattle.tree_model.specs.declared.node.Content.{Content}
use Rattle.tree_model.specs.declared.node.Content.TheVariants as contents
use Rattle.tree_model.specs.declared.refusal.Refusal.{Refusal}
use Rattle.tree_model.specs.declared.refusal.Refusal.TheVariants.{NotFound, NotADirectory}
use Rattle.tree_model.proofs.Accepted.{walked}
use Rattle.node_table.specs.Checks.{is_there}
use Rattle.node_table.specs.Found.{found, found_of}
use Rattle.node_table.specs.Held.{Nodes, HoldsNodes, held, info, info_of, slots_of, is_directory}
use Rattle.node_table.specs.Walks.{look, look_from, number_below, found_at}
use Rattle.node_table.specs.declared.held.FoundNode.{FoundNode}
use Rattle.node_table.specs.declared.held.HeldNode.{HeldNode}
use Rattle.node_table.specs.declared.held.HeldNode.TheVariants.{File, Directory}

pub same_kind : (c : Content) → is_directory (info_of c) ≡ holds_entries c
same_kind (contents.File bytes) = refl
same_kind (contents.Directory width) = refl

-- what is held of a node of the tree
pub entry_of : (o : Option HeldNode) (c : Content) → option_map info o ≡ Some (info_of c) → (entry : HeldNode) × (o ≡ Some entry) × (info entry ≡ info_of c)
entry_of None c e = cc
entry_of (Some entry) c e = (entry, refl, cc)

below_file : (entry : HeldNode) (c : Content) (name : List ℕ) → info entry ≡ info_of c → holds_entries c ≡ false → number_below (Some entry) name ≡ Err NotADirectory
below_file (File size) c name e file = refl
below_file (Directory slots) (contents.File bytes) name e file = cc
below_file (Directory slots) (contents.Directory width) name e file = cc

below_directory : (entry : HeldNode) (c : Content) (name : List ℕ) → info entry ≡ info_of c → holds_entries c ≡ true → number_below (Some entry) name ≡ or_refuse (number_in (slots_of (Some entry)) name) NotFound
below_directory (Directory slots) c name e directory = refl
below_directory (File size) (contents.File bytes) name e directory = cc
below_directory (File size) (contents.Directory width) name e directory = cc

walk_missing : (tree : Tree) (at names : Path) → node_at tree at ≡ None → walk_from tree at names ≡ Err NotFound
walk_missing tree at [] none = rw none refl
walk_missing tree at (name ∷ names) none = rw none refl

walk_file : (tree : Tree) (at names : Path) (name : List ℕ) (node : Node) → node_at tree at ≡ Some node → trees.is_directory node ≡ false → walk_from tree at (name ∷ names) ≡ Err NotADirectory
walk_file tree at names name node is file = rw (is, file) refl

walk_on : (tree : Tree) (at names : Path) (name : List ℕ) (node : Node) → node_at tree at ≡ Some node → trees.is_directory node ≡ true → walk_from tree at (name ∷ names) ≡ walk_from tree (at ++ name ∷ []) names
walk_on tree at names name node is directory = rw (is, directory) refl

-- the node of a shape
pub node_of : (o : Option Node) (number : ℕ) (b : Bool) → shape_of o ≡ Some (number, b) → (node : Node) × (o ≡ Some node) × (node.number ≡ number) × (trees.is_directory node ≡ b)
node_of None number b e = cc
node_of (Some node) number b e = let same : (node.number, trees.is_directory node) ≡ (number, b) = cc in (node, refl, ap (λ (x : ℕ × Bool). x.0) same, ap (λ (x : ℕ × Bool). x.1) same)

-- a node that stands at a path is walked to
walk_there_from : (tree : Tree) → IsTree tree → (at names : Path) (node : Node) → node_at tree (at ++ names) ≡ Some node → walk_from tree at names ≡ Ok node
walk_there_from tree h at [] node is = let here : node_at tree at ≡ Some node = ap (node_at tree) (sym (append-nil at)) ∙ is in rw here refl
walk_there_from tree h at (name ∷ names) node is =
    let front = h.shape.fronts at name names (node.number, trees.is_directory node) (ap shape_of is) in
    let above = node_of (node_at tree at) front.0 true front.1 in
    walk_on tree at names name above.0 above.1 above.3 ∙ walk_there_from tree h (at ++ name ∷ []) names node (ap (node_at tree) (append_assoc at (name ∷ []) names) ∙ is)

pub walk_there : (tree : Tree) → IsTree tree → (path : Path) (node : Node) → node_at tree path ≡ Some node → walk tree path ≡ Ok node
walk_there tree h path node is = walk_there_from tree h [] path node is

module _ (nodes : Nodes) (tree : Tree) (h : IsTree tree) (holds : HoldsNodes nodes tree) where
  on : (names : Path) → ℕ → Result FoundNode Refusal
  on names next = look_from nodes next names

  leads : (at : Path) (node : Node) → node_at tree at ≡ Some node → (names : Path) → look_from nodes node.number names ≡ found (walk_from tree at names)
  leads at node is [] =
      let e = entry_of (held nodes node.number) node.content (holds.each at node is) in
      ap (λ o. found_at o node.number) e.1 ∙ ap (λ i. Ok (record { number = node.number; info = i })) e.2 ∙ sym (ap (λ o. found (or_refuse o NotFound)) is)
  leads at node is (name ∷ names) =
      elim (trees.is_directory node) as (λ b. trees.is_directory node ≡ b → look_from nodes node.number (name ∷ names) ≡ found (walk_from tree at (name ∷ names))) [
        | false ↦ λ file.
            ap (λ o. number_below o name >>= (λ next. look_from nodes next names)) e.1 ∙ ap (λ r. r >>= (λ next. look_from nodes next names)) (below_file e.0 node.content name e.2 file)
            ∙ sym (ap found (walk_file tree at names name node is file))
        | true ↦ λ directory.
            ap (λ o. number_below o name >>= (λ next. look_from nodes next names)) e.1 ∙ ap (λ r. r >>= (λ next. look_from nodes next names)) (below_directory e.0 node.content name e.2 directory)
            ∙ ap (λ o. or_refuse (number_in (slots_of o) name) NotFound >>= (λ next. look_from nodes next names)) (sym e.1)
            ∙ ap (λ o. or_refuse o NotFound >>= (λ next. look_from nodes next names)) (holds.slots at node name is)
            ∙ by (node_at tree (at ++ name ∷ [])) refl (λ next there. leads (at ++ name ∷ []) next there names)
            ∙ sym (ap found (walk_on tree at names name node is directory))
      ] refl
    where
      e : (entry : HeldNode) × (held nodes node.number ≡ Some entry) × (info entry ≡ info_of node.content)
      e = entry_of (held nodes node.number) node.content (holds.each at node is)

      by : (o : Option Node) → node_at tree (at ++ name ∷ []) ≡ o
          → ((next : Node) → node_at tree (at ++ name ∷ []) ≡ Some next → look_from nodes next.number names ≡ found (walk_from tree (at ++ name ∷ []) names))
          → (or_refuse (option_map (λ (n : Node). n.number) o) NotFound >>= (λ next. look_from nodes next names)) ≡ found (walk_from tree (at ++ name ∷ []) names)
      by None none more = sym (ap found (walk_missing tree (at ++ name ∷ []) names none))
      by (Some next) there more = more next there

  pub look_is : (path : Path) → look nodes path ≡ found (walk tree path)
  look_is path =
      let root = node_of (node_at tree []) 1 true h.shape.root in
      subst (λ (n : ℕ). look_from nodes n path ≡ found (walk tree path)) root.2 (leads [] root.0 root.1 path)

  -- what a walk to a node finds
  pub look_there : (path : Path) (node : Node) → node_at tree path ≡ Some node → look nodes path ≡ Ok (found_of node)
  look_there path node is = look_is path ∙ ap found (walk_there tree h path node is)

  pub there_is : (path : Path) → is_there nodes path ≡ is_some (node_at tree path)
  there_is path = by (node_at tree path) refl
    where
      none : (r : Result Node Refusal) → walk tree path ≡ r → node_at tree path ≡ None → is_some (result_ok (found r)) ≡ false
      none (Err refusal) is missing = refl
      none (Ok node) is missing = let there = walked tree path node is in cc

      by : (o : Option Node) → node_at tree path ≡ o → is_there nodes path ≡ is_some o
      by (Some node) is = ap (λ r. is_some (result_ok r)) (look_there path node is)
      by None is = ap (λ r. is_some (result_ok r)) (look_is path) ∙ none (walk tree path) refl is
