-- What is known of a tree that accepts a command, and the tree after it.
use Rattle.std.proofs.Common.{◌≡◌, ℕ, ◌+◌, true, false, not, List, length, Some, None, refl, sym, ap, ◌∙◌}
use Rattle.std.specs.Prelude.{Result, Ok, Err, is_some, nat_lt, ◌&&◌}
use Rattle.std.specs.Result.{result_err}
use Rattle.tree_model.specs.Path.{Path, is_root, parent_of, strip}
use Rattle.tree_model.specs.Step.{◌>>=◌, step, attempt, settled, refuse_if, or_refuse, walk, bytes_of, has_entries, make, remove, rename, write, written_tree, truncate}
use Rattle.tree_model.specs.Tree.{Tree, node_at, with_node, without, widened, moved, least_unused, is_directory, resized}
use Rattle.tree_model.specs.declared.command.Command.{Command}
use Rattle.tree_model.specs.declared.node.Node.{Node}
use Rattle.tree_model.specs.declared.node.Content.{Content}
use Rattle.tree_model.specs.declared.node.Content.TheVariants.{File}
use Rattle.tree_model.specs.declared.refusal.Refusal.{Refusal}
use Rattle.tree_model.specs.declared.refusal.Refusal.TheVariants.{NotADirectory, Exists, RootFixed, Inside, NotEmpty, TooBig, NoNumbers}
use Rattle.tree_model.specs.declared.reply.Reply.{Reply}
use Rattle.tree_model.specs.declared.reply.Reply.TheVariants.{Done}
use Rattle.tree_model.proofs.Accepted.{passed, held, there, walked, nothing, is_file}

abbrev pub done : Tree → Reply × Tree
done tree = (Done, tree)

pub ok_of : {A : Type 0} (r : Result A Refusal) → result_err r ≡ None → (x : A) × (r ≡ Ok x)
ok_of (Ok x) e = (x, refl)
ok_of (Err refusal) e = cc

both_ok : {A B : Type 0} (r : Result A Refusal) (f : A → Result B Refusal) (y : B) → (r >>= f) ≡ Ok y → (x : A) × (r ≡ Ok x) × (f x ≡ Ok y)
both_ok (Ok x) f y e = (x, refl, e)
both_ok (Err refusal) f y e = cc

pub step_is : (tree : Tree) (command : Command) (after : Tree) → attempt tree command ≡ Ok (done after) → (step tree command).1 ≡ after
unfolding step
step_is tree command after e = ap (λ r. (settled tree r).1) e

-- ---- a new node

abbrev pub made : Tree → Path → Content → ℕ → Tree
made tree path content number = widened (with_node tree path (record { number = number; content = content })) (parent_of path)

pub record MakePieces (tree : Tree) (path : Path) (content : Content) : Type 0 where
  pub named : is_root path ≡ false
  pub above : Node
  pub above_is : node_at tree (parent_of path) ≡ Some above
  pub above_kind : is_directory above ≡ true
  pub free : node_at tree path ≡ None
  pub number : ℕ
  pub number_is : least_unused tree ≡ Some number
  pub after : make tree path content ≡ Ok (done (made tree path content number))

pub make_pieces : (tree : Tree) (path : Path) (content : Content) → result_err (make tree path content) ≡ None → MakePieces tree path content
make_pieces tree path content none =
    let d = ok_of (make tree path content) none in
    let a = both_ok (refuse_if (is_root path) Exists) _ d.0 d.1 in
    let b = both_ok (walk tree (parent_of path)) _ d.0 a.2 in
    let c = both_ok (refuse_if (not (is_directory b.0)) NotADirectory) _ d.0 b.2 in
    let f = both_ok (refuse_if (is_some (node_at tree path)) Exists) _ d.0 c.2 in
    let g = both_ok (or_refuse (least_unused tree) NoNumbers) _ d.0 f.2 in
    record {
      named = passed _ Exists a.0 a.1;
      above = b.0;
      above_is = walked tree (parent_of path) b.0 b.1;
      above_kind = held _ NotADirectory c.0 c.1;
      free = nothing _ Exists f.0 f.1;
      number = g.0;
      number_is = there _ NoNumbers g.0 g.1;
      after = d.1 ∙ sym g.2;
    }

-- ---- a file of another size

pub record SizePieces (tree : Tree) (path : Path) : Type 0 where
  pub node : Node
  pub node_is : node_at tree path ≡ Some node
  pub bytes : List ℕ
  pub content_is : node.content ≡ File bytes

pub write_pieces : (tree : Tree) (path : Path) (offset : ℕ) (given : List ℕ) → result_err (write tree path offset given) ≡ None
    → (p : SizePieces tree path) × (write tree path offset given ≡ Ok (done (written_tree tree path p.node.number p.bytes offset given)))
write_pieces tree path offset given none =
    let d = ok_of (write tree path offset given) none in
    let a = both_ok (walk tree path) _ d.0 d.1 in
    let b = both_ok (bytes_of a.0.content) _ d.0 a.2 in
    let c = both_ok (refuse_if (nat_lt 4294967296 (offset + length given)) TooBig) _ d.0 b.2 in
    (record { node = a.0; node_is = walked tree path a.0 a.1; bytes = b.0; content_is = is_file a.0.content b.0 b.1 }, d.1 ∙ sym c.2)

pub truncate_pieces : (tree : Tree) (path : Path) (size : ℕ) → result_err (truncate tree path size) ≡ None
    → (p : SizePieces tree path) × (truncate tree path size ≡ Ok (done (with_node tree path (record { number = p.node.number; content = File (resized p.bytes size) }))))
truncate_pieces tree path size none =
    let d = ok_of (truncate tree path size) none in
    let a = both_ok (walk tree path) _ d.0 d.1 in
    let b = both_ok (bytes_of a.0.content) _ d.0 a.2 in
    let c = both_ok (refuse_if (nat_lt 4294967296 size) TooBig) _ d.0 b.2 in
    (record { node = a.0; node_is = walked tree path a.0 a.1; bytes = b.0; content_is = is_file a.0.content b.0 b.1 }, d.1 ∙ sym c.2)

-- ---- a node gone

pub record RemovePieces (tree : Tree) (path : Path) : Type 0 where
  pub node : Node
  pub node_is : node_at tree path ≡ Some node
  pub named : is_root path ≡ false
  pub empty : (is_directory node && has_entries tree path) ≡ false
  pub after : remove tree path ≡ Ok (done (without tree path))

pub remove_pieces : (tree : Tree) (path : Path) → result_err (remove tree path) ≡ None → RemovePieces tree path
remove_pieces tree path none =
    let d = ok_of (remove tree path) none in
    let a = both_ok (walk tree path) _ d.0 d.1 in
    let b = both_ok (refuse_if (is_root path) RootFixed) _ d.0 a.2 in
    let c = both_ok (refuse_if (is_directory a.0 && has_entries tree path) NotEmpty) _ d.0 b.2 in
    record { node = a.0; node_is = walked tree path a.0 a.1; named = passed _ RootFixed b.0 b.1; empty = passed _ NotEmpty c.0 c.1; after = d.1 ∙ sym c.2 }

-- ---- a node renamed

pub record RenamePieces (tree : Tree) (from to : Path) : Type 0 where
  pub node : Node
  pub node_is : node_at tree from ≡ Some node
  pub to_named : is_root to ≡ false
  pub above : Node
  pub above_is : node_at tree (parent_of to) ≡ Some above
  pub above_kind : is_directory above ≡ true
  pub free : node_at tree to ≡ None
  pub from_named : is_root from ≡ false
  pub outside : strip from to ≡ None
  pub after : rename tree from to ≡ Ok (done (widened (moved from to tree) (parent_of to)))

pub rename_pieces : (tree : Tree) (from to : Path) → result_err (rename tree from to) ≡ None → RenamePieces tree from to
rename_pieces tree from to none =
    let d = ok_of (rename tree from to) none in
    let a = both_ok (walk tree from) _ d.0 d.1 in
    let b = both_ok (refuse_if (is_root to) Exists) _ d.0 a.2 in
    let c = both_ok (walk tree (parent_of to)) _ d.0 b.2 in
    let f = both_ok (refuse_if (not (is_directory c.0)) NotADirectory) _ d.0 c.2 in
    let g = both_ok (refuse_if (is_some (node_at tree to)) Exists) _ d.0 f.2 in
    let h = both_ok (refuse_if (is_root from) RootFixed) _ d.0 g.2 in
    let i = both_ok (refuse_if (is_some (strip from to)) Inside) _ d.0 h.2 in
    record {
      node = a.0;
      node_is = walked tree from a.0 a.1;
      to_named = passed _ Exists b.0 b.1;
      above = c.0;
      above_is = walked tree (parent_of to) c.0 c.1;
      above_kind = held _ NotADirectory f.0 f.1;
      free = nothing _ Exists g.0 g.1;
      from_named = passed _ RootFixed h.0 h.1;
      outside = nothing _ Inside i.0 i.1;
      after = d.1 ∙ sym i.2;
    }
