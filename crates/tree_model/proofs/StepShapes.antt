-- Each command leaves a tree in order, a directory in front of each path, and numbers apart.
use Rattle.std.proofs.Common.{◌≡◌, ℕ, List, [], ◌∷◌, ◌++◌, true, false, not, refl, sym, ap, ◌∙◌, Some, None, cond, append_assoc, append-nil, arith, length}
use Rattle.std.specs.Prelude.{Result, Ok, Err, Option, Bool, ◌||◌, ◌&&◌, is_some, nat_eq, max}
use Rattle.std.proofs.lemmas.Bool.{eq-eqb}
use Rattle.tree_model.specs.declared.command.Command.{Command}
use Rattle.tree_model.specs.declared.command.Command.TheVariants.{Mkdir, Create, Write, Truncate, Remove, Rename, Read, List as ListOf, Stat, Layout, Space, Checkpoint, End}
use Rattle.tree_model.specs.declared.node.Node.{Node}
use Rattle.tree_model.specs.declared.node.Content.{Content}
use Rattle.tree_model.specs.declared.node.Content.TheVariants.{File, Directory}
use Rattle.tree_model.specs.declared.refusal.Refusal.{Refusal}
use Rattle.tree_model.specs.declared.refusal.Refusal.TheVariants.{NotADirectory, Exists, RootFixed, Inside, NotEmpty, NoNumbers}
use Rattle.tree_model.specs.declared.reply.Reply.{Reply}
use Rattle.tree_model.specs.Path.{Path, is_root, parent_of, strip}
use Rattle.tree_model.specs.Tree.{Tree, node_at, with_node, without, is_directory, holds_entries, with_width, with_content_width, widened, moved, entries_of, is_used, least_unused, written}
use Rattle.tree_model.specs.Step.{step, attempt, settled, refuse_if, or_refuse, walk, bytes_of, has_entries, written_tree}
use Rattle.tree_model.specs.Order.{IsOrdered}
use Rattle.tree_model.specs.Shape.{shape_of, shape_at, IsShape, IsTree, came_from, after_rename}
use Rattle.tree_model.proofs.Accepted.{with_ok, passed, held, there, walked, is_file, nothing}
use Rattle.tree_model.proofs.AttemptLaws.{Accepts, after_all, put_at, ordered_put, ordered_without, ordered_moved, ordered_width}
use Rattle.tree_model.proofs.Fronts.{tie, tie_is}
use Rattle.tree_model.proofs.Lookups.{without_at, IsClear, moved_at, no_entry}
use Rattle.tree_model.proofs.Numbers.{gives_least}
use Rattle.tree_model.proofs.Renames.{renamed_shape}
use Rattle.tree_model.proofs.Shapes.{same_shape, with_shape, made_shape, without_shape, removed_shape}

-- a tree but for its widths and sizes
pub record IsFormed (tree : Tree) : Type 0 where
  pub ordered : IsOrdered tree
  pub shape : IsShape (shape_at tree)

formed : (tree : Tree) → IsTree tree → IsFormed tree
formed tree h = record { ordered = h.ordered; shape = h.shape }

-- ---- the shape after a change

pub put_shape : (tree : Tree) (p : Path) (n : Node) (q : Path) → shape_at (with_node tree p n) q ≡ with_shape (shape_at tree) p (n.number, is_directory n) q
put_shape tree p n q =
    ap shape_of (put_at tree p n q)
    ∙ elim (tie q p) as (λ b. shape_of (cond b (Some n) (node_at tree q)) ≡ cond b (Some (n.number, is_directory n)) (shape_at tree q)) [ true ↦ refl | false ↦ refl ]

-- a node of the same number and kind
pub same_put : (tree : Tree) (p : Path) (n : Node) → shape_at tree p ≡ Some (n.number, is_directory n) → (q : Path) → shape_at (with_node tree p n) q ≡ shape_at tree q
same_put tree p n e q =
    put_shape tree p n q
    ∙ elim (tie q p) as (λ b. tie q p ≡ b → cond b (Some (n.number, is_directory n)) (shape_at tree q) ≡ shape_at tree q) [
      | true ↦ λ t. sym e ∙ ap (λ x. shape_at tree x) (sym (tie_is q p t))
      | false ↦ λ t. refl
    ] refl

content_shape : (n : ℕ) (tree : Tree) (p : Path) (node : Node) → node_at tree p ≡ Some node → (c : Content) → node.content ≡ c → (q : Path) → shape_at (with_content_width n tree p node.number c) q ≡ shape_at tree q
content_shape n tree p node e (File bytes) f q = refl
content_shape n tree p node e (Directory width) f q =
    same_put tree p (record { number = node.number; content = Directory (max width n) }) (ap shape_of e ∙ ap (λ c. Some (node.number, holds_entries c)) f) q

width_shape : (n : ℕ) (tree : Tree) (p : Path) (o : Option Node) → node_at tree p ≡ o → (q : Path) → shape_at (with_width n tree p o) q ≡ shape_at tree q
width_shape n tree p None e q = refl
width_shape n tree p (Some node) e q = content_shape n tree p node e node.content refl q

pub widened_shape : (tree : Tree) (p q : Path) → shape_at (widened tree p) q ≡ shape_at tree q
widened_shape tree p q = width_shape _ tree p (node_at tree p) refl q

pub ordered_widened : (tree : Tree) (p : Path) → IsOrdered tree → IsOrdered (widened tree p)
ordered_widened tree p h = ordered_width (length (entries_of tree p)) tree p (node_at tree p) h

-- ---- a new node

abbrev pub number_in : Option (ℕ × Bool) → ℕ
number_in None = 0
number_in (Some shape) = shape.0

pub used_at : (tree : Tree) (q : Path) (number : ℕ) (a : Bool) → shape_at tree q ≡ Some (number, a) → is_used tree number ≡ true
used_at [] q number a e = cc
used_at (d ∷ es) q number a e =
    elim (tie q d.0) as (λ b. shape_of (cond b (Some d.1) (node_at es q)) ≡ Some (number, a) → (nat_eq d.1.number number || is_used es number) ≡ true) [
      | true ↦ λ some. let is : d.1.number ≡ number = ap number_in some in ap (λ b. b || is_used es number) (eq-eqb _ _ is)
      | false ↦ λ some.
          elim (nat_eq d.1.number number) as (λ b. (b || is_used es number) ≡ true) [ true ↦ refl | false ↦ used_at es q number a some ]
    ] e

make_end : (tree : Tree) (path : Path) (content : Content) → IsTree tree → (u : ℕ) → refuse_if (is_root path) Exists ≡ Ok u → (parent : Node) → walk tree (parent_of path) ≡ Ok parent
    → (v : ℕ) → refuse_if (not (is_directory parent)) NotADirectory ≡ Ok v → (w : ℕ) → refuse_if (is_some (node_at tree path)) Exists ≡ Ok w → (number : ℕ) → or_refuse (least_unused tree) NoNumbers ≡ Ok number
    → IsFormed (widened (with_node tree path (record { number = number; content = content })) (parent_of path))
make_end tree path content h u named parent walk_ok v holds w free number found =
    let least = gives_least.some tree number (there _ NoNumbers number found) in
    let node : Node = record { number = number; content = content } in
    let above : shape_at tree (parent_of path) ≡ Some (parent.number, true) = ap shape_of (walked tree (parent_of path) parent walk_ok) ∙ ap (λ b. Some (parent.number, b)) (held _ NotADirectory v holds) in
    let made = made_shape (shape_at tree) h.shape path number (holds_entries content) (passed _ Exists u named) (ap shape_of (nothing _ Exists w free)) parent.number above
    (λ q a e. let used = used_at tree q number a e in let unused = least.unused in cc) (omega (arith, least.at_least), least.at_most) in
    record {
      ordered = ordered_widened (with_node tree path node) (parent_of path) (ordered_put tree path node h.ordered);
      shape = same_shape _ _ (λ q. widened_shape (with_node tree path node) (parent_of path) q ∙ put_shape tree path node q) made;
    }

-- ---- a file's bytes

pub file_shape : (tree : Tree) (path : Path) (node : Node) (bytes new : List ℕ) → walk tree path ≡ Ok node → bytes_of node.content ≡ Ok bytes
    → (q : Path) → shape_at (with_node tree path (record { number = node.number; content = File new })) q ≡ shape_at tree q
file_shape tree path node bytes new walk_ok file q =
    same_put tree path (record { number = node.number; content = File new }) (ap shape_of (walked tree path node walk_ok) ∙ ap (λ c. Some (node.number, holds_entries c)) (is_file node.content bytes file)) q

file_end : (tree : Tree) (path : Path) (new : List ℕ) → IsTree tree → (node : Node) → walk tree path ≡ Ok node → (bytes : List ℕ) → bytes_of node.content ≡ Ok bytes
    → IsFormed (with_node tree path (record { number = node.number; content = File new }))
file_end tree path new h node walk_ok bytes file = record {
  ordered = ordered_put tree path (record { number = node.number; content = File new }) h.ordered;
  shape = same_shape _ _ (file_shape tree path node bytes new walk_ok file) h.shape;
}

write_end : (tree : Tree) (path : Path) (offset : ℕ) (more : List ℕ) → IsTree tree → (node : Node) → walk tree path ≡ Ok node → (bytes : List ℕ) → bytes_of node.content ≡ Ok bytes
    → IsFormed (written_tree tree path node.number bytes offset more)
write_end tree path offset [] h node walk_ok bytes file = formed tree h
write_end tree path offset (b ∷ more) h node walk_ok bytes file = file_end tree path (written bytes offset (b ∷ more)) h node walk_ok bytes file

-- ---- a node taken away

remove_shape : (tree : Tree) (path q : Path) → shape_at (without tree path) q ≡ without_shape (shape_at tree) path q
remove_shape tree path q =
    ap shape_of (without_at tree path q)
    ∙ elim (tie path q) as (λ b. shape_of (cond (not b) (node_at tree q) None) ≡ cond (not b) (shape_at tree q) None) [ true ↦ refl | false ↦ refl ]

is_none : {A : Type 0} (o : Option A) → ((x : A) → o ≡ Some x → ⊥) → o ≡ None
is_none None f = refl
is_none (Some x) f = absurd (f x refl)

leaf : (tree : Tree) (path : Path) → IsTree tree → nat_eq (length (entries_of tree path)) 0 ≡ true → (name : List ℕ) (rest : Path) → shape_at tree (path ++ name ∷ rest) ≡ None
leaf tree path h none name [] = ap shape_of (no_entry tree path name none)
leaf tree path h none name (next ∷ rest) = is_none _ (λ x e.
    let d = h.shape.fronts (path ++ name ∷ []) next rest x (ap (λ p. shape_at tree p) (append_assoc path (name ∷ []) (next ∷ rest)) ∙ e) in
    let there : shape_at tree (path ++ name ∷ []) ≡ Some (d.0, true) = d.1 in
    let nothing : shape_at tree (path ++ name ∷ []) ≡ None = ap shape_of (no_entry tree path name none) in
    cc)

not_false : (b : Bool) → not b ≡ false → b ≡ true
not_false true e = refl
not_false false e = cc

abbrev kind_in : Option (ℕ × Bool) → Bool
kind_in None = false
kind_in (Some shape) = shape.1

-- nothing lies below a file, or below a directory without entries
pub nothing_below : (tree : Tree) (path : Path) → IsTree tree → (node : Node) → node_at tree path ≡ Some node → (is_directory node && has_entries tree path) ≡ false → (name : List ℕ) (rest : Path) → shape_at tree (path ++ name ∷ rest) ≡ None
nothing_below tree path h node stood empty name rest =
    elim (is_directory node) as (λ b. is_directory node ≡ b → (b && has_entries tree path) ≡ false → shape_at tree (path ++ name ∷ rest) ≡ None) [
      | true ↦ λ d e. leaf tree path h (not_false _ e) name rest
      | false ↦ λ d e. is_none _ (λ x some.
          let front = h.shape.fronts path name rest x some in
          let directory : shape_at tree path ≡ Some (front.0, true) = front.1 in
          let file : shape_at tree path ≡ Some (node.number, false) = ap shape_of stood ∙ ap (λ b. Some (node.number, b)) d in
          let kinds : true ≡ false = ap kind_in (sym directory ∙ file) in
          cc)
    ] refl empty

remove_end : (tree : Tree) (path : Path) → IsTree tree → (node : Node) → walk tree path ≡ Ok node → (u : ℕ) → refuse_if (is_root path) RootFixed ≡ Ok u
    → (v : ℕ) → refuse_if (is_directory node && has_entries tree path) NotEmpty ≡ Ok v → IsFormed (without tree path)
remove_end tree path h node walk_ok u named v empty = record {
  ordered = ordered_without tree path h.ordered;
  shape = same_shape _ _ (remove_shape tree path) (removed_shape (shape_at tree) h.shape path (passed _ RootFixed u named) (nothing_below tree path h node (walked tree path node walk_ok) (passed _ NotEmpty v empty)));
}

-- ---- a rename

pub is_clear : (tree : Tree) (to : Path) → IsTree tree → node_at tree to ≡ None → IsClear to tree
is_clear tree to h none [] = ap (λ p. node_at tree p) (append-nil to) ∙ none
is_clear tree to h none (name ∷ rest) = is_none _ (λ x e.
    let d = h.shape.fronts to name rest (x.number, is_directory x) (ap shape_of e) in
    let there : shape_at tree to ≡ Some (d.0, true) = d.1 in
    let nothing : shape_at tree to ≡ None = ap shape_of none in
    cc)

came_shape : (f : Path → Option Node) (from : Path) (o r : Option Path) (q : Path) → shape_of (came_from f from o r q) ≡ came_from (λ p. shape_of (f p)) from o r q
came_shape f from (Some rest) r q = refl
came_shape f from None (Some rest) q = refl
came_shape f from None None q = refl

pub moved_shape : (tree : Tree) (from to : Path) → IsClear to tree → (q : Path) → shape_at (moved from to tree) q ≡ after_rename (shape_at tree) from to q
moved_shape tree from to clear q = ap shape_of (moved_at from to tree clear q) ∙ came_shape (node_at tree) from (strip to q) (strip from q) q

rename_end : (tree : Tree) (from to : Path) → IsTree tree → (u : ℕ) → refuse_if (is_root to) Exists ≡ Ok u → (parent : Node) → walk tree (parent_of to) ≡ Ok parent
    → (v : ℕ) → refuse_if (not (is_directory parent)) NotADirectory ≡ Ok v → (w : ℕ) → refuse_if (is_some (node_at tree to)) Exists ≡ Ok w → (x : ℕ) → refuse_if (is_root from) RootFixed ≡ Ok x
    → (y : ℕ) → refuse_if (is_some (strip from to)) Inside ≡ Ok y → IsFormed (widened (moved from to tree) (parent_of to))
rename_end tree from to h u named parent walk_ok v holds w free x from_named y outside =
    let above : shape_at tree (parent_of to) ≡ Some (parent.number, true) = ap shape_of (walked tree (parent_of to) parent walk_ok) ∙ ap (λ b. Some (parent.number, b)) (held _ NotADirectory v holds) in
    let clear = is_clear tree to h (nothing _ Exists w free) in
    record {
      ordered = ordered_widened (moved from to tree) (parent_of to) (ordered_moved from to tree);
      shape = same_shape _ _ (λ q. widened_shape (moved from to tree) (parent_of to) q ∙ moved_shape tree from to clear q)
          (renamed_shape (shape_at tree) h.shape from to (passed _ RootFixed x from_named) (passed _ Exists u named) (nothing _ Inside y outside) parent.number above);
    }

-- ---- every command

abbrev LeavesTree : Reply → Tree → Type 0
LeavesTree reply tree = IsFormed tree

attempt_shapes : (tree : Tree) (command : Command) → IsTree tree → Accepts LeavesTree (attempt tree command)
attempt_shapes tree (Mkdir path) h = search (with_ok, make_end) depth 16
attempt_shapes tree (Create path) h = search (with_ok, make_end) depth 16
attempt_shapes tree (Write path offset bytes) h = search (with_ok, write_end) depth 12
attempt_shapes tree (Truncate path size) h = search (with_ok, file_end) depth 12
attempt_shapes tree (Remove path) h = search (with_ok, remove_end) depth 12
attempt_shapes tree (Rename from to) h = search (with_ok, rename_end) depth 18
attempt_shapes tree (Read path offset len) h = search (after_all, formed) depth 9
attempt_shapes tree (ListOf path) h = search (after_all, formed) depth 9
attempt_shapes tree (Stat path) h = search (after_all, formed) depth 9
attempt_shapes tree (Layout path) h = search (after_all, formed) depth 9
attempt_shapes tree Space h = formed tree h
attempt_shapes tree Checkpoint h = formed tree h
attempt_shapes tree End h = formed tree h

settled_shape : (tree : Tree) (r : Result (Reply × Tree) Refusal) → IsTree tree → Accepts LeavesTree r → IsFormed (settled tree r).1
settled_shape tree (Ok done) h g = g
settled_shape tree (Err refusal) h g = formed tree h

pub keeps_form : (tree : Tree) (command : Command) → IsTree tree → IsFormed (step tree command).1
unfolding step
keeps_form tree command h = settled_shape tree (attempt tree command) h (attempt_shapes tree command h)
