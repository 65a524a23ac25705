-- What a table that accepts a change has for it, by what its checks answer.
use Rattle.std.proofs.Common.{◌≡◌, ◌≢◌, ◌≤◌, ◌<◌, ℕ, ◌+◌, ◌-◌, true, false, List, [], ◌∷◌, ◌++◌, length, Some, None, refl, sym, ap, subst, ◌∙◌, arith}
use Rattle.std.specs.Prelude.{Option, Ok, Err, nat_lt, MatchOption, slice_index_or}
use Rattle.std.specs.Option.{option_map}
use Rattle.std.specs.Result.{result_err}
use Rattle.dir_slots.specs.Slots.{number_in, slot_of, first_unused}
use Rattle.tree_model.specs.Path.{Path, is_root, parent_of}
use Rattle.tree_model.specs.Shape.{IsTree, shape_of}
use Rattle.tree_model.specs.Step.{◌>>=◌, refuse_if}
use Rattle.tree_model.specs.Tree.{Tree, node_at, is_directory}
use Rattle.tree_model.specs.declared.command.Command.TheVariants.{Create, Write, Truncate, Remove, Rename}
use Rattle.tree_model.specs.declared.node.Node.{Node}
use Rattle.tree_model.specs.declared.node.Content.{Content}
use Rattle.tree_model.specs.declared.node.Content.TheVariants as contents
use Rattle.tree_model.specs.declared.refusal.Refusal.TheVariants.{TooBig, IsADirectory}
use Rattle.tree_model.specs.declared.refusal.Refusal.{Refusal}
use Rattle.node_table.specs.Accepted.{IsAccepted}
use Rattle.node_table.specs.Changes.{HoldsSlots, LeadsTo}
use Rattle.node_table.specs.Checks.{may_make, may_size, may_remove, may_rename}
use Rattle.node_table.specs.Found.{found_of}
use Rattle.node_table.specs.Held.{AreDirectories, Nodes, HoldsNodes, held, info, info_of, slots_of}
use Rattle.node_table.specs.Held as table
use Rattle.node_table.specs.declared.held.NodeInfo.TheVariants as infos
use Rattle.node_table.specs.Numbers.{IsNext, AllUsed}
use Rattle.node_table.specs.Walks.{look}
use Rattle.node_table.specs.declared.checks.RenamePlan.{RenamePlan}
use Rattle.node_table.specs.declared.held.FoundNode.{FoundNode}
use Rattle.node_table.specs.declared.held.HeldNode.{HeldNode}
use Rattle.node_table.specs.declared.held.HeldNode.TheVariants.{File, Directory}
use Rattle.node_table.proofs.NumberLaws.{next_is}
use Rattle.node_table.proofs.PieceLaws.{make_pieces, write_pieces, truncate_pieces, remove_pieces, rename_pieces, SizePieces}
use Rattle.node_table.proofs.ReadyLaws.{directory_held, leads_to, make_place, make_absent, make_room, remove_place, is_in, rename_place, rename_absent, rename_room}
use Rattle.node_table.proofs.WalkLaws.{look_there}

-- ---- the last name of a path

-- the element behind so many others
at_end : (names : Path) (name d : List ℕ) → slice_index_or (name ∷ names) (length names) d ≡ slice_index_or (name ∷ names) (length (name ∷ names) - 1) d
at_end names name d = ap (λ i. slice_index_or (name ∷ names) i d) (omega arith)

last_at : (names : Path) (name d : List ℕ) → name ∷ names ≡ parent_of (name ∷ names) ++ slice_index_or (name ∷ names) (length names) d ∷ []
last_at [] name d = refl
last_at (next ∷ names) name d = ap (λ p. name ∷ p) (last_at names next d)

pub last_of : (path names : Path) (name : List ℕ) → names ≡ path → is_root path ≡ false → name ≡ slice_index_or names (length names - 1) name → path ≡ parent_of path ++ name ∷ []
last_of [] names name same named is = cc
last_of (first ∷ rest) names name same named is =
    last_at rest first name ∙ ap (λ x. parent_of (first ∷ rest) ++ x ∷ []) (at_end rest first name ∙ ap (λ (p : Path). slice_index_or p (length p - 1) name) (sym same) ∙ sym is)

-- ---- a new node

pub record MakeReady (nodes : Nodes) (path : Path) (parent : ℕ) (name : List ℕ) : Type 0 where
  pub directory : HoldsSlots nodes parent
  pub leads : LeadsTo nodes (parent_of path) parent
  pub absent : slot_of (slots_of (held nodes parent)) name ≡ None
  pub room : first_unused (slots_of (held nodes parent)) < 65534

module _ (nodes : Nodes) (path : Path) (a : IsAccepted nodes (Create path)) where
  pub make_goes : (refusal : Refusal) → may_make nodes path ≡ Err refusal → ⊥
  make_goes refusal e = let p = make_pieces a.tree path (contents.File []) a.accepted in let ok = make_place nodes a.tree a.is_tree a.holds path p in cc

  pub make_named : is_root path ≡ false
  make_named = (make_pieces a.tree path (contents.File []) a.accepted).named

  pub number_goes : (r : Option ℕ) → MatchOption r (AllUsed nodes) (λ number. IsNext nodes number) → r ≡ None → ⊥
  number_goes r next none = let p = make_pieces a.tree path (contents.File []) a.accepted in let clash : None ≡ Some p.number = sym none ∙ next_is nodes a.tree a.is_tree a.holds r next ∙ p.number_is in cc

  pub make_ready : AreDirectories nodes → (parent : ℕ) → may_make nodes path ≡ Ok parent → (name : List ℕ) → path ≡ parent_of path ++ name ∷ [] → MakeReady nodes path parent name
  make_ready directories parent e name path_is =
      let p = make_pieces a.tree path (contents.File []) a.accepted in
      let both : Ok p.above.number ≡ Ok parent = sym (make_place nodes a.tree a.is_tree a.holds path p) ∙ e in
      let is : p.above.number ≡ parent = cc in
      subst (λ (k : ℕ). MakeReady nodes path k name) is (record {
        directory = directory_held nodes a.tree a.is_tree a.holds (parent_of path) p.above p.above_is p.above_kind;
        leads = leads_to nodes a.tree a.is_tree a.holds (parent_of path) p.above p.above_is;
        absent = make_absent nodes a.tree a.is_tree a.holds path p name path_is;
        room = make_room nodes a.tree a.is_tree a.holds path p name path_is directories;
      })

-- ---- a file of another size

pub record SizeReady (nodes : Nodes) (path : Path) (number : ℕ) : Type 0 where
  pub leads : LeadsTo nodes path number
  pub before : ℕ
  pub was : held nodes number ≡ Some (File before)
  pub at_least : 1 ≤ number
  pub at_most : number ≤ 65535

file_of : (o : Option HeldNode) (c : Content) (bytes : List ℕ) → option_map info o ≡ Some (info_of c) → c ≡ contents.File bytes → o ≡ Some (File (length bytes))
file_of o c bytes e is = by o (e ∙ ap (λ x. Some (info_of x)) is)
  where
    by : (o : Option HeldNode) → option_map info o ≡ Some (infos.File (length bytes)) → o ≡ Some (File (length bytes))
    by None k = cc
    by (Some (File size)) k = let same : infos.File size ≡ infos.File (length bytes) = cc in let sizes : size ≡ length bytes = cc in ap (λ n. Some (File n)) sizes
    by (Some (Directory slots)) k = cc

size_number : (number other size : ℕ) → (refuse_if (nat_lt 4294967296 size) TooBig >>= (λ (_ : ℕ). Ok number)) ≡ Ok other → number ≡ other
size_number number other size e =
    elim (nat_lt 4294967296 size) as (λ b. (refuse_if b TooBig >>= (λ (_ : ℕ). Ok number)) ≡ Ok other → number ≡ other) [ true ↦ λ clash. cc | false ↦ λ same. cc ] e

pub size_goes : (nodes : Nodes) (path : Path) (size : ℕ) → result_err (may_size nodes path size) ≡ None → (refusal : Refusal) → may_size nodes path size ≡ Err refusal → ⊥
size_goes nodes path size none refusal e = let clash : Some refusal ≡ None = sym (ap result_err e) ∙ none in cc

size_ready : (nodes : Nodes) (tree : Tree) (h : IsTree tree) (holds : HoldsNodes nodes tree) (path : Path) (size : ℕ) → SizePieces tree path → (number : ℕ) → may_size nodes path size ≡ Ok number → SizeReady nodes path number
size_ready nodes tree h holds path size p number e =
    let is : p.node.number ≡ number = size_number p.node.number number size (sym found ∙ e) in
    let within = h.shape.numbered path (p.node.number, is_directory p.node) (ap shape_of p.node_is) in
    subst (SizeReady nodes path) is (record {
      leads = leads_to nodes tree h holds path p.node p.node_is;
      before = length p.bytes;
      was = file_of (held nodes p.node.number) p.node.content p.bytes (holds.each path p.node p.node_is) p.content_is;
      at_least = within.0;
      at_most = within.1;
    })
  where
    found : may_size nodes path size ≡ (refuse_if (nat_lt 4294967296 size) TooBig >>= (λ (_ : ℕ). Ok p.node.number))
    found =
        ap (λ r. (r >>= (λ f. refuse_if (table.is_directory f.info) IsADirectory >>= (λ (_ : ℕ). Ok f.number))) >>= (λ n. refuse_if (nat_lt 4294967296 size) TooBig >>= (λ (_ : ℕ). Ok n))) (look_there nodes tree h holds path p.node p.node_is)
        ∙ ap (λ c. (refuse_if (table.is_directory (info_of c)) IsADirectory >>= (λ (_ : ℕ). Ok p.node.number)) >>= (λ n. refuse_if (nat_lt 4294967296 size) TooBig >>= (λ (_ : ℕ). Ok n))) p.content_is

pub truncate_ready : (nodes : Nodes) (path : Path) (size : ℕ) → (a : IsAccepted nodes (Truncate path size)) → (number : ℕ) → may_size nodes path size ≡ Ok number → SizeReady nodes path number
truncate_ready nodes path size a number e = size_ready nodes a.tree a.is_tree a.holds path size (truncate_pieces a.tree path size a.accepted).0 number e

pub write_ready : (nodes : Nodes) (path : Path) (offset : ℕ) (given : List ℕ) → (a : IsAccepted nodes (Write path offset given)) → (number : ℕ) → may_size nodes path (offset + length given) ≡ Ok number → SizeReady nodes path number
write_ready nodes path offset given a number e = size_ready nodes a.tree a.is_tree a.holds path (offset + length given) (write_pieces a.tree path offset given a.accepted).0 number e

-- ---- a node gone

pub record RemoveReady (nodes : Nodes) (path : Path) (parent number : ℕ) (name : List ℕ) : Type 0 where
  pub leads : LeadsTo nodes (parent_of path) parent
  pub directory : HoldsSlots nodes parent
  pub number_is : number_in (slots_of (held nodes parent)) name ≡ Some number
  pub at_least : 1 ≤ number
  pub at_most : number ≤ 65535

module _ (nodes : Nodes) (path : Path) (a : IsAccepted nodes (Remove path)) (directories : AreDirectories nodes) where
  pub remove_goes : (refusal : Refusal) → may_remove nodes path ≡ Err refusal → ⊥
  remove_goes refusal e = let p = remove_pieces a.tree path a.accepted in let ok = remove_place nodes a.tree a.is_tree a.holds path p directories in cc

  pub remove_named : is_root path ≡ false
  remove_named = (remove_pieces a.tree path a.accepted).named

  pub remove_above : (name : List ℕ) → path ≡ parent_of path ++ name ∷ [] → (refusal : Refusal) → look nodes (parent_of path) ≡ Err refusal → ⊥
  remove_above name path_is refusal e =
      let p = remove_pieces a.tree path a.accepted in
      let i = is_in nodes a.tree a.is_tree a.holds path p.node p.node_is name path_is in
      let ok = look_there nodes a.tree a.is_tree a.holds (parent_of path) i.0 i.1.above_is in cc

  pub remove_ready : (number : ℕ) → may_remove nodes path ≡ Ok number → (above : FoundNode) → look nodes (parent_of path) ≡ Ok above → (name : List ℕ) → path ≡ parent_of path ++ name ∷ [] → RemoveReady nodes path above.number number name
  remove_ready number e above f name path_is =
      let p = remove_pieces a.tree path a.accepted in
      let i = is_in nodes a.tree a.is_tree a.holds path p.node p.node_is name path_is in
      let both : Ok p.node.number ≡ Ok number = sym (remove_place nodes a.tree a.is_tree a.holds path p directories) ∙ e in
      let is : p.node.number ≡ number = cc in
      let found : Ok (found_of i.0) ≡ Ok above = sym (look_there nodes a.tree a.is_tree a.holds (parent_of path) i.0 i.1.above_is) ∙ f in
      let one : found_of i.0 ≡ above = cc in
      let parent : i.0.number ≡ above.number = ap (λ (x : FoundNode). x.number) one in
      subst (λ (k : ℕ). RemoveReady nodes path k number name) parent (subst (λ (k : ℕ). RemoveReady nodes path i.0.number k name) is (record {
        leads = leads_to nodes a.tree a.is_tree a.holds (parent_of path) i.0 i.1.above_is;
        directory = i.1.directory;
        number_is = i.1.number_is;
        at_least = i.1.at_least;
        at_most = i.1.at_most;
      }))

-- ---- a node renamed

pub record RenameReady (nodes : Nodes) (from to : Path) (parent into number : ℕ) (name into_name : List ℕ) : Type 0 where
  pub leads : LeadsTo nodes (parent_of from) parent
  pub into_leads : LeadsTo nodes (parent_of to) into
  pub directory : HoldsSlots nodes parent
  pub into_directory : HoldsSlots nodes into
  pub number_is : number_in (slots_of (held nodes parent)) name ≡ Some number
  pub absent : slot_of (slots_of (held nodes into)) into_name ≡ None
  pub at_least : 1 ≤ number
  pub at_most : number ≤ 65535
  pub room : parent ≢ into → first_unused (slots_of (held nodes into)) < 65534

module _ (nodes : Nodes) (from to : Path) (a : IsAccepted nodes (Rename from to)) (directories : AreDirectories nodes) where
  pub rename_goes : (refusal : Refusal) → may_rename nodes from to ≡ Err refusal → ⊥
  rename_goes refusal e = let p = rename_pieces a.tree from to a.accepted in let ok = rename_place nodes a.tree a.is_tree a.holds from to p in cc

  pub from_named : is_root from ≡ false
  from_named = (rename_pieces a.tree from to a.accepted).from_named

  pub to_named : is_root to ≡ false
  to_named = (rename_pieces a.tree from to a.accepted).to_named

  pub rename_above : (name : List ℕ) → from ≡ parent_of from ++ name ∷ [] → (refusal : Refusal) → look nodes (parent_of from) ≡ Err refusal → ⊥
  rename_above name from_is refusal e =
      let p = rename_pieces a.tree from to a.accepted in
      let i = is_in nodes a.tree a.is_tree a.holds from p.node p.node_is name from_is in
      let ok = look_there nodes a.tree a.is_tree a.holds (parent_of from) i.0 i.1.above_is in cc

  pub rename_ready : (plan : RenamePlan) → may_rename nodes from to ≡ Ok plan → (above : FoundNode) → look nodes (parent_of from) ≡ Ok above
      → (name into_name : List ℕ) → from ≡ parent_of from ++ name ∷ [] → to ≡ parent_of to ++ into_name ∷ [] → RenameReady nodes from to above.number plan.to plan.number name into_name
  rename_ready plan e above f name into_name from_is to_is =
      let p = rename_pieces a.tree from to a.accepted in
      let i = is_in nodes a.tree a.is_tree a.holds from p.node p.node_is name from_is in
      let planned : RenamePlan = record { number = p.node.number; to = p.above.number } in
      let both : Ok planned ≡ Ok plan = sym (rename_place nodes a.tree a.is_tree a.holds from to p) ∙ e in
      let is : planned ≡ plan = cc in
      let found : Ok (found_of i.0) ≡ Ok above = sym (look_there nodes a.tree a.is_tree a.holds (parent_of from) i.0 i.1.above_is) ∙ f in
      let one : found_of i.0 ≡ above = cc in
      subst (λ (x : RenamePlan). RenameReady nodes from to above.number x.to x.number name into_name) is
      (subst (λ (x : FoundNode). RenameReady nodes from to x.number p.above.number p.node.number name into_name) one (record {
        leads = leads_to nodes a.tree a.is_tree a.holds (parent_of from) i.0 i.1.above_is;
        into_leads = leads_to nodes a.tree a.is_tree a.holds (parent_of to) p.above p.above_is;
        directory = i.1.directory;
        into_directory = directory_held nodes a.tree a.is_tree a.holds (parent_of to) p.above p.above_is p.above_kind;
        number_is = i.1.number_is;
        absent = rename_absent nodes a.tree a.is_tree a.holds from to p name into_name from_is to_is;
        at_least = i.1.at_least;
        at_most = i.1.at_most;
        room = λ ne. rename_room nodes a.tree a.is_tree a.holds from to p name into_name from_is to_is
            (λ same. let numbers : Some i.0 ≡ Some p.above = sym i.1.above_is ∙ ap (node_at a.tree) same ∙ p.above_is in let nodes_same : i.0 ≡ p.above = cc in ne (ap (λ (x : Node). x.number) nodes_same)) directories;
      }))
