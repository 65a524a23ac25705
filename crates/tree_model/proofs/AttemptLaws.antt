-- What holds of the answer to every command.
use Rattle.std.proofs.Common.{◌≡◌, ℕ, List, [], ◌∷◌, true, false, refl, sym, subst, Some, None, not}
use Rattle.std.specs.Prelude.{Result, Ok, Err, Option, max}
use Rattle.std.proofs.Math.Dec.{T}
use Rattle.std.specs.Ordering.{eq_by_cmp}
use Rattle.std.specs.Cmp.{IsTotalOrder}
use Rattle.std.specs.Cmp.Lexicographic.{lists_total, nat_list_cmp_total}
use Rattle.std.specs.FinMap.Entries.{find-put, is_sorted-put, is_sorted-where_key, same_entries}
use Rattle.tree_model.specs.declared.command.Command.{Command}
use Rattle.tree_model.specs.declared.command.Command.TheVariants.{Mkdir, Create, Write, Truncate, Remove, Rename, Read, List as ListOf, Stat, Layout, Space, Checkpoint, End}
use Rattle.tree_model.specs.declared.node.Node.{Node}
use Rattle.tree_model.specs.declared.node.Content.TheVariants.{File, Directory}
use Rattle.tree_model.specs.declared.refusal.Refusal.{Refusal}
use Rattle.tree_model.specs.declared.reply.Reply.{Reply}
use Rattle.tree_model.specs.declared.reply.Reply.TheVariants.{Done, Data, Entries, Stat as StatOf, Refused}
use Rattle.tree_model.specs.Path.{Path, path_cmp}
use Rattle.tree_model.specs.Tree.{Tree, with_node, without, moved_onto, new_path, with_width, with_content_width, written}
use Rattle.tree_model.specs.Step.{step, attempt, settled, ◌>>=◌, written_tree, is_change}
use Rattle.tree_model.specs.Order.{IsOrdered}
use Rattle.tree_model.specs.Laws.{KeepsOrder, SameTree, PutAt, RefusedLeaves, ReadingLeaves}
use Rattle.tree_model.proofs.Paths.{same_path}

pub path_total : IsTotalOrder path_cmp
path_total = lists_total nat_list_cmp_total

pub put_at : PutAt
put_at tree path node q = find-put path_cmp path_total q path node tree

pub true_T : (b : _) → b ≡ true → T b
true_T b e = subst T (sym e) tt

pub T_true : (b : _) → T b → b ≡ true
T_true true h = refl
T_true false h = absurd h

pub same_tree : SameTree
same_tree s t g h same = same_entries path_cmp path_total same_path s t (true_T _ g) (true_T _ h) same

-- ---- what every accepted command does, from what its change does

-- what is accepted has the property
abbrev pub Accepts : (Reply → Tree → Type 0) → Result (Reply × Tree) Refusal → Type 0
Accepts P (Ok done) = P done.0 done.1
Accepts P (Err refusal) = Unit {0}

pub after_all : {A : Type 0} (P : Reply → Tree → Type 0) (r : Result A Refusal) (f : A → Result (Reply × Tree) Refusal) → ((x : A) → Accepts P (f x)) → Accepts P (r >>= f)
after_all P (Ok x) f h = h x
after_all P (Err e) f h = tt

-- ---- order

pub ordered_put : (tree : Tree) (path : Path) (node : Node) → IsOrdered tree → IsOrdered (with_node tree path node)
ordered_put tree path node h = T_true _ (is_sorted-put path_cmp path_total path node tree (true_T _ h))

pub ordered_without : (tree : Tree) (path : Path) → IsOrdered tree → IsOrdered (without tree path)
ordered_without tree path h = T_true _ (is_sorted-where_key path_cmp (λ q. not (eq_by_cmp path_cmp path q)) tree (true_T _ h))

pub ordered_moved : (from to : Path) (tree : Tree) → IsOrdered (moved_onto from to tree [])
ordered_moved from to [] = refl
ordered_moved from to (e ∷ es) = ordered_put (moved_onto from to es []) (new_path from to e.0) e.1 (ordered_moved from to es)

pub ordered_width : (n : ℕ) (tree : Tree) (path : Path) (o : Option Node) → IsOrdered tree → IsOrdered (with_width n tree path o)
ordered_width n tree path None h = h
ordered_width n tree path (Some node) h = elim node.content as (λ c. IsOrdered (with_content_width n tree path node.number c)) [ File bytes ↦ h | Directory width ↦ ordered_put tree path (record { number = node.number; content = Directory (max width n) }) h ]

pub ordered_written : (tree : Tree) (path : Path) (number : ℕ) (bytes : List ℕ) (offset : ℕ) (more : List ℕ) → IsOrdered tree → IsOrdered (written_tree tree path number bytes offset more)
ordered_written tree path number bytes offset [] h = h
ordered_written tree path number bytes offset (b ∷ more) h = ordered_put tree path (record { number = number; content = File (written bytes offset (b ∷ more)) }) h

abbrev LeavesOrder : Reply → Tree → Type 0
LeavesOrder reply tree = IsOrdered tree

attempt_leaves : (tree : Tree) (command : Command) → IsOrdered tree → Accepts LeavesOrder (attempt tree command)
attempt_leaves tree (Mkdir path) h = search (after_all, ordered_width, ordered_put) depth 12
attempt_leaves tree (Create path) h = search (after_all, ordered_width, ordered_put) depth 12
attempt_leaves tree (Write path offset bytes) h = search (after_all, ordered_written) depth 9
attempt_leaves tree (Truncate path size) h = search (after_all, ordered_put) depth 9
attempt_leaves tree (Remove path) h = search (after_all, ordered_without) depth 9
attempt_leaves tree (Rename from to) h = search (after_all, ordered_width, ordered_moved) depth 12
attempt_leaves tree (Read path offset len) h = search after_all depth 9
attempt_leaves tree (ListOf path) h = search after_all depth 9
attempt_leaves tree (Stat path) h = search after_all depth 9
attempt_leaves tree (Layout path) h = search after_all depth 9
attempt_leaves tree Space h = h
attempt_leaves tree Checkpoint h = h
attempt_leaves tree End h = h

settled_ordered : (tree : Tree) (r : Result (Reply × Tree) Refusal) → IsOrdered tree → Accepts LeavesOrder r → IsOrdered (settled tree r).1
settled_ordered tree (Ok done) h g = g
settled_ordered tree (Err refusal) h g = h

pub keeps_order : KeepsOrder
unfolding step
keeps_order tree command h = settled_ordered tree (attempt tree command) h (attempt_leaves tree command h)

-- ---- refusals

abbrev pub IsNoRefusal : Reply → Type 0
IsNoRefusal reply = (refusal : Refusal) → reply ≡ Refused refusal → ⊥

abbrev pub NotRefused : Reply → Tree → Type 0
NotRefused reply tree = IsNoRefusal reply

done_is : IsNoRefusal Done
done_is refusal e = cc

data_is : (bytes : List ℕ) → IsNoRefusal (Data bytes)
data_is bytes refusal e = cc

entries_is : (entries : _) → IsNoRefusal (Entries entries)
entries_is entries refusal e = cc

stat_is : (kind : _) (number size : ℕ) → IsNoRefusal (StatOf kind number size)
stat_is kind number size refusal e = cc

pub attempt_accepts : (tree : Tree) (command : Command) → Accepts NotRefused (attempt tree command)
attempt_accepts tree (Mkdir path) = search (after_all, done_is) depth 12
attempt_accepts tree (Create path) = search (after_all, done_is) depth 12
attempt_accepts tree (Write path offset bytes) = search (after_all, done_is) depth 9
attempt_accepts tree (Truncate path size) = search (after_all, done_is) depth 9
attempt_accepts tree (Remove path) = search (after_all, done_is) depth 9
attempt_accepts tree (Rename from to) = search (after_all, done_is) depth 12
attempt_accepts tree (Read path offset len) = search (after_all, data_is) depth 9
attempt_accepts tree (ListOf path) = search (after_all, entries_is) depth 9
attempt_accepts tree (Stat path) = search (after_all, stat_is) depth 9
attempt_accepts tree (Layout path) = search (after_all, done_is) depth 9
attempt_accepts tree Space = done_is
attempt_accepts tree Checkpoint = done_is
attempt_accepts tree End = done_is

settled_refused : (tree : Tree) (r : Result (Reply × Tree) Refusal) (refusal : Refusal) → Accepts NotRefused r → (settled tree r).0 ≡ Refused refusal → (settled tree r).1 ≡ tree
settled_refused tree (Ok done) refusal h e = absurd (h refusal e)
settled_refused tree (Err other) refusal h e = refl

pub refused_leaves : RefusedLeaves
unfolding step
refused_leaves tree command refusal e = settled_refused tree (attempt tree command) refusal (attempt_accepts tree command) e

-- ---- commands that change nothing

abbrev Leaves : Tree → Reply → Tree → Type 0
Leaves old reply new = new ≡ old

attempt_reads : (tree : Tree) (command : Command) → is_change command ≡ false → Accepts (Leaves tree) (attempt tree command)
attempt_reads tree (Mkdir path) h = cc
attempt_reads tree (Create path) h = cc
attempt_reads tree (Write path offset []) h = search after_all depth 9
attempt_reads tree (Write path offset (byte ∷ bytes)) h = cc
attempt_reads tree (Truncate path size) h = cc
attempt_reads tree (Remove path) h = cc
attempt_reads tree (Rename from to) h = cc
attempt_reads tree (Read path offset len) h = search after_all depth 9
attempt_reads tree (ListOf path) h = search after_all depth 9
attempt_reads tree (Stat path) h = search after_all depth 9
attempt_reads tree (Layout path) h = search after_all depth 9
attempt_reads tree Space h = refl
attempt_reads tree Checkpoint h = refl
attempt_reads tree End h = refl

settled_left : (tree : Tree) (r : Result (Reply × Tree) Refusal) → Accepts (Leaves tree) r → (settled tree r).1 ≡ tree
settled_left tree (Ok done) h = h
settled_left tree (Err refusal) h = refl

pub reading_leaves : ReadingLeaves
unfolding step
reading_leaves tree command h = settled_left tree (attempt tree command) (attempt_reads tree command h)
