-- Where each node of the tree after a command comes from.
use Rattle.std.proofs.Common.{◌≡◌, ℕ, ◌≤◌, List, [], ◌∷◌, true, false, not, refl, sym, ap, subst, ◌∙◌, Some, None, cond, inl, inr, arith, length}
use Rattle.std.specs.Prelude.{Result, Ok, Err, Option, ◌⊎◌, is_some, max}
use Rattle.tree_model.specs.declared.command.Command.{Command}
use Rattle.tree_model.specs.declared.command.Command.TheVariants.{Mkdir, Create, Write, Truncate, Remove, Rename, Read, List as ListOf, Stat, Layout, Space, Checkpoint, End}
use Rattle.tree_model.specs.declared.node.Node.{Node}
use Rattle.tree_model.specs.declared.node.Content.{Content}
use Rattle.tree_model.specs.declared.node.Content.TheVariants.{File, Directory}
use Rattle.tree_model.specs.declared.refusal.Refusal.{Refusal}
use Rattle.tree_model.specs.declared.refusal.Refusal.TheVariants.{Exists, NoNumbers}
use Rattle.tree_model.specs.declared.reply.Reply.{Reply}
use Rattle.tree_model.specs.Path.{Path, parent_of}
use Rattle.tree_model.specs.Tree.{Tree, node_at, with_node, without, is_directory, with_width, with_content_width, widened, moved, entries_of, is_used, least_unused, resized, written}
use Rattle.tree_model.specs.Step.{step, attempt, settled, refuse_if, or_refuse, walk, bytes_of, written_tree}
use Rattle.tree_model.specs.Shape.{IsTree, shape_of, shape_at}
use Rattle.tree_model.specs.Touched.{touched, touched_by, where_accepted, written_places, truncated_places, cut_place, places}
use Rattle.tree_model.specs.Follow.{KeepsUntouched, ContentFollows, Follows, Follower, ComesFrom}
use Rattle.tree_model.specs.Laws.{NodesFollow, TouchesOnly, WidthsNeverFall}
use Rattle.tree_model.proofs.Accepted.{with_ok, there, walked, is_file, nothing}
use Rattle.tree_model.proofs.AttemptLaws.{Accepts, after_all, put_at}
use Rattle.tree_model.proofs.ByteLaws.{write_keeps, truncate_keeps}
use Rattle.tree_model.proofs.Fronts.{tie}
use Rattle.tree_model.proofs.Lookups.{without_at, moved_at}
use Rattle.tree_model.proofs.Numbers.{gives_least}
use Rattle.tree_model.proofs.Renames.{origin}
use Rattle.tree_model.proofs.StepShapes.{used_at, is_clear}

content_itself : (touched : List (ℕ × ℕ)) (number : ℕ) (content : Content) → ContentFollows touched number content content
content_itself touched number (File bytes) = λ i within untouched. refl
content_itself touched number (Directory width) = omega arith

pub follows_itself : (touched : List (ℕ × ℕ)) (node : Node) → Follows touched node node
follows_itself touched node = record { number = refl; content = content_itself touched node.number node.content }

module _ (places : List (ℕ × ℕ)) (old : Tree) where
  -- a node follows one of before, or has a number that was unused
  abbrev Comes : Node → Type 0
  Comes node = Follower places old node ⊎ (is_used old node.number ≡ false)

  stands : (path : Path) (node : Node) → node_at old path ≡ Some node → Comes node
  stands path node e = inl (record { path = path; before = node; stood = e; follows = follows_itself places node })

  pub comes_itself : ComesFrom places old old
  comes_itself path node e = stands path node e

  comes_put : (tree : Tree) (p : Path) (n : Node) → Comes n → ComesFrom places old tree → ComesFrom places old (with_node tree p n)
  comes_put tree p n new h path node e =
      elim (tie path p) as (λ b. cond b (Some n) (node_at tree path) ≡ Some node → Comes node) [
        | true ↦ λ some. let is : n ≡ node = cc in subst (λ (x : Node). Comes x) is new
        | false ↦ λ some. h path node some
      ] (sym (put_at tree p n path) ∙ e)

  wider_content : (number : ℕ) (c : Content) (w v : ℕ) → w ≤ v → ContentFollows places number c (Directory w) → ContentFollows places number c (Directory v)
  wider_content number (File bytes) w v le h = absurd h
  wider_content number (Directory width) w v le h = omega arith

  wider : (node : Node) (w v : ℕ) → node.content ≡ Directory w → w ≤ v → Comes node → Comes (record { number = node.number; content = Directory v })
  wider node w v e le (inl f) = inl (record {
    path = f.path;
    before = f.before;
    stood = f.stood;
    follows = record {
      number = f.follows.number;
      content = wider_content f.before.number f.before.content w v le (subst (λ (c : Content). ContentFollows places f.before.number f.before.content c) e f.follows.content);
    };
  })
  wider node w v e le (inr unused) = inr unused

  comes_content : (n : ℕ) (tree : Tree) (p : Path) (node : Node) → Comes node → (c : Content) → node.content ≡ c → ComesFrom places old tree → ComesFrom places old (with_content_width n tree p node.number c)
  comes_content n tree p node new (File bytes) e h = h
  comes_content n tree p node new (Directory width) e h =
      comes_put tree p (record { number = node.number; content = Directory (max width n) }) (wider node width (max width n) e (omega arith) new) h

  comes_width : (n : ℕ) (tree : Tree) (p : Path) (o : Option Node) → node_at tree p ≡ o → ComesFrom places old tree → ComesFrom places old (with_width n tree p o)
  comes_width n tree p None e h = h
  comes_width n tree p (Some node) e h = comes_content n tree p node (h p node e) node.content refl h

  comes_widened : (tree : Tree) (p : Path) → ComesFrom places old tree → ComesFrom places old (widened tree p)
  comes_widened tree p h = comes_width (length (entries_of tree p)) tree p (node_at tree p) refl h

  comes_without : (p : Path) → ComesFrom places old (without old p)
  comes_without p path node e =
      elim (tie p path) as (λ b. cond (not b) (node_at old path) None ≡ Some node → Comes node) [
        | true ↦ λ some. cc
        | false ↦ λ some. stands path node some
      ] (sym (without_at old p path) ∙ e)

  make_end : (path : Path) (content : Content) → (number : ℕ) → or_refuse (least_unused old) NoNumbers ≡ Ok number
      → ComesFrom places old (widened (with_node old path (record { number = number; content = content })) (parent_of path))
  make_end path content number found =
      let least = gives_least.some old number (there _ NoNumbers number found) in
      let node : Node = record { number = number; content = content } in
      comes_widened (with_node old path node) (parent_of path) (comes_put old path node (inr least.unused) comes_itself)

  rename_end : (from to : Path) → IsTree old → (w : ℕ) → refuse_if (is_some (node_at old to)) Exists ≡ Ok w → ComesFrom places old (widened (moved from to old) (parent_of to))
  rename_end from to h w free =
      comes_widened (moved from to old) (parent_of to) (λ path node e.
      let o = origin (node_at old) from to path node (sym (moved_at from to old (is_clear old to h (nothing _ Exists w free)) path) ∙ e) in
      stands o.0 node o.2)

-- ---- a file's bytes

file_end : (places : List (ℕ × ℕ)) (tree : Tree) (path : Path) (node : Node) (bytes new : List ℕ) → walk tree path ≡ Ok node → bytes_of node.content ≡ Ok bytes → KeepsUntouched places node.number bytes new
    → ComesFrom places tree (with_node tree path (record { number = node.number; content = File new }))
file_end places tree path node bytes new walk_ok file keeps =
    comes_put places tree tree path (record { number = node.number; content = File new }) (inl (record {
      path = path;
      before = node;
      stood = walked tree path node walk_ok;
      follows = record {
        number = refl;
        content = subst (λ (c : Content). ContentFollows places node.number c (File new)) (sym (is_file node.content bytes file)) keeps;
      };
    })) (comes_itself places tree)

write_end : (tree : Tree) (path : Path) (offset : ℕ) (more : List ℕ) (node : Node) → walk tree path ≡ Ok node → (bytes : List ℕ) → bytes_of node.content ≡ Ok bytes
    → ComesFrom (touched_by tree (Write path offset more)) tree (written_tree tree path node.number bytes offset more)
write_end tree path offset [] node walk_ok bytes file = comes_itself [] tree
write_end tree path offset (b ∷ more) node walk_ok bytes file =
    subst (λ (o : Option Node). ComesFrom (written_places o offset (length (b ∷ more))) tree (with_node tree path (record { number = node.number; content = File (written bytes offset (b ∷ more)) })))
    (sym (walked tree path node walk_ok))
    (file_end (written_places (Some node) offset (length (b ∷ more))) tree path node bytes (written bytes offset (b ∷ more)) walk_ok file
    (write_keeps node.number offset bytes (b ∷ more) (omega arith)))

truncate_end : (tree : Tree) (path : Path) (size : ℕ) (node : Node) → walk tree path ≡ Ok node → (bytes : List ℕ) → bytes_of node.content ≡ Ok bytes
    → ComesFrom (truncated_places (node_at tree path) size) tree (with_node tree path (record { number = node.number; content = File (resized bytes size) }))
truncate_end tree path size node walk_ok bytes file =
    subst (λ (o : Option Node). ComesFrom (truncated_places o size) tree (with_node tree path (record { number = node.number; content = File (resized bytes size) })))
    (sym (walked tree path node walk_ok))
    (file_end (cut_place node.number node.content size) tree path node bytes (resized bytes size) walk_ok file
    (subst (λ (c : Content). KeepsUntouched (cut_place node.number c size) node.number bytes (resized bytes size)) (sym (is_file node.content bytes file)) (truncate_keeps node.number size bytes)))

-- ---- every command

abbrev LeavesNodes : Tree → Command → Reply → Tree → Type 0
LeavesNodes old command reply new = ComesFrom (touched_by old command) old new

attempt_follows : (tree : Tree) (command : Command) → IsTree tree → Accepts (LeavesNodes tree command) (attempt tree command)
attempt_follows tree (Mkdir path) h = search (with_ok, make_end) depth 16
attempt_follows tree (Create path) h = search (with_ok, make_end) depth 16
attempt_follows tree (Write path offset bytes) h = search (with_ok, write_end) depth 12
attempt_follows tree (Truncate path size) h = search (with_ok, truncate_end) depth 12
attempt_follows tree (Remove path) h = search (after_all, comes_without) depth 12
attempt_follows tree (Rename from to) h = search (with_ok, rename_end) depth 18
attempt_follows tree (Read path offset len) h = search (after_all, comes_itself) depth 9
attempt_follows tree (ListOf path) h = search (after_all, comes_itself) depth 9
attempt_follows tree (Stat path) h = search (after_all, comes_itself) depth 9
attempt_follows tree (Layout path) h = search (after_all, comes_itself) depth 9
attempt_follows tree Space h = comes_itself [] tree
attempt_follows tree Checkpoint h = comes_itself [] tree
attempt_follows tree End h = comes_itself [] tree

settled_follows : (tree : Tree) (command : Command) (r : Result (Reply × Tree) Refusal) → Accepts (LeavesNodes tree command) r → ComesFrom (where_accepted r (touched_by tree command)) tree (settled tree r).1
settled_follows tree command (Ok done) h = h
settled_follows tree command (Err refusal) h = comes_itself [] tree

pub nodes_follow : NodesFollow
unfolding step
nodes_follow tree command h = settled_follows tree command (attempt tree command) (attempt_follows tree command h)

-- ---- by number

abbrev value_or : {A : Type 0} → Option A → A → A
value_or None x = x
value_or (Some y) x = y

some_is : {A : Type 0} {x y : A} → Some x ≡ Some y → x ≡ y
some_is {x = x} e = ap (λ o. value_or o x) e

-- a node of after with a number of before follows that node
followed : (places : List (ℕ × ℕ)) (tree new : Tree) → IsTree tree → ComesFrom places tree new → (p q : Path) (old node : Node) → node_at tree p ≡ Some old → node_at new q ≡ Some node → node.number ≡ old.number → Follows places old node
followed places tree new h comes p q old node e f same =
    elim (comes q node f) [
      | inl from ↦
          let there : shape_at tree p ≡ Some (old.number, is_directory old) = ap shape_of e in
          let here : shape_at tree from.path ≡ Some (from.before.number, is_directory from.before) = ap shape_of from.stood in
          let number : from.before.number ≡ old.number = sym from.follows.number ∙ same in
          let one : from.path ≡ p = h.shape.one_path from.path p old.number (is_directory from.before) (is_directory old) (here ∙ ap (λ n. Some (n, is_directory from.before)) number) there in
          let is : from.before ≡ old = some_is (sym from.stood ∙ ap (λ x. node_at tree x) one ∙ e) in
          subst (λ (x : Node). Follows places x node) is from.follows
      | inr unused ↦ let used : is_used tree node.number ≡ true = used_at tree p node.number (is_directory old) (ap shape_of e ∙ ap (λ n. Some (n, is_directory old)) (sym same)) in cc
    ]

pub touches_only : TouchesOnly
touches_only tree command h p q number old new e f =
    let follows = followed (touched tree command) tree (step tree command).1 h (nodes_follow tree command h) p q (record { number = number; content = File old }) (record { number = number; content = File new }) e f refl in
    follows.content

pub widths_never_fall : WidthsNeverFall
widths_never_fall tree command h p q number old new e f =
    let follows = followed (touched tree command) tree (step tree command).1 h (nodes_follow tree command h) p q (record { number = number; content = Directory old }) (record { number = number; content = Directory new }) e f refl in
    follows.content
