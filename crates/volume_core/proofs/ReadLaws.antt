-- What is answered to commands that only look: to `read` by what is found of its path.
use Rattle.std.proofs.Common.{◌≡◌, ◌∙◌, ◌≤◌, inl, inr, ℕ, true, false, List, Some, refl, sym, ap, arith, length, drop, take}
use Rattle.std.specs.Prelude.{Ok, Err}
use Rattle.block_tree.specs.Causes.{HasTreeCause, IfTreeDamaged}
use Rattle.block_tree.specs.declared.fault.TreeFault.{TreeFault}
use Rattle.block_tree.specs.declared.fault.TreeFault.TheVariants as trees
use Rattle.disk_model.specs.Disk.{State}
use Rattle.node_table.specs.Found.{found}
use Rattle.node_table.specs.Held.{info_of}
use Rattle.node_table.specs.declared.held.FoundNode.{FoundNode}
use Rattle.node_table.specs.declared.held.NodeInfo.TheVariants as infos
use Rattle.place_read.specs.Laws.{ReadIsData}
use Rattle.tree_model.specs.Path.{Path}
use Rattle.tree_model.specs.Shape.{IsTree, shape_of}
use Rattle.tree_model.specs.Step.{step, walk}
use Rattle.tree_model.specs.Tree.{Tree, is_directory, node_at}
use Rattle.tree_model.specs.declared.command.Command.{Command}
use Rattle.tree_model.specs.declared.command.Command.TheVariants.{Mkdir, Create, Write, Truncate, Remove, Rename, Read, List as ListOf, Stat, Layout, Space, Checkpoint, End}
use Rattle.tree_model.specs.declared.node.Content.{Content}
use Rattle.tree_model.specs.declared.node.Content.TheVariants.{File, Directory}
use Rattle.tree_model.specs.declared.refusal.Refusal.{Refusal}
use Rattle.tree_model.specs.declared.refusal.Refusal.TheVariants.{IsADirectory}
use Rattle.tree_model.specs.declared.reply.Reply.{Reply}
use Rattle.tree_model.specs.declared.reply.Reply.TheVariants.{Data, Space as SpaceOf, Refused}
use Rattle.tree_model.proofs.Accepted.{walked}
use Rattle.volume_model.specs.Machine.{Machine, Rules, bytes_numbered}
use Rattle.session_model.specs.Given.{is_damaged, is_fault}
use Rattle.volume_core.specs.Answers.{IsReplyTo, HasReplyCause, only_looks, only_tells, refusal_by, space_of}
use Rattle.volume_core.specs.Memory.{Memory, IsIn}
use Rattle.volume_core.proofs.Between.{used_is}
use Rattle.volume_core.proofs.LookLaws.{Finds, file_is, found_err, found_ok, no_fault, not_damaged, read_directory, read_refused}
use Rattle.volume_core.proofs.TreeReplies.{reply_inside}

-- the tree's reply to `read` is the model's
pub read_is : (m : Machine) (path : Path) (offset len : ℕ) (given : Reply) → (step m.tree (Read path offset len)).0 ≡ given → IsReplyTo m (Read path offset len) given
read_is m path offset len given e = record {
  is = inl (sym e);
  whole = ap is_damaged (sym e) ∙ not_damaged (step m.tree (Read path offset len)).0 (reply_inside m.tree (Read path offset len));
}

-- ---- nothing is found

pub not_found : (m : Machine) (path : Path) (offset len : ℕ) (e : Refusal) → Err e ≡ found (walk m.tree path) → IsReplyTo m (Read path offset len) (Refused e)
not_found m path offset len e is = read_is m path offset len (Refused e) (read_refused m.tree path offset len e (found_err (walk m.tree path) e is))

pub not_found_counts : (tree : Tree) (path : Path) (e : Refusal) → Err e ≡ found (walk tree path) → is_fault (Refused e) ≡ false
not_found_counts tree path e is =
    ap is_fault (sym (read_refused tree path 0 0 e (found_err (walk tree path) e is))) ∙ no_fault (step tree (Read path 0 0)).0 (reply_inside tree (Read path 0 0))

-- ---- a node is found

-- its number is within the limits, and so is a file's size
pub number_within : (tree : Tree) (path : Path) (f : FoundNode) → IsTree tree → Ok f ≡ found (walk tree path) → f.number ≤ 65535
number_within tree path f is told =
    let at : Finds (walk tree path) f = found_ok (walk tree path) f told in
    let stood : node_at tree path ≡ Some at.node = walked tree path at.node at.is in
    let numbered = is.shape.numbered path (at.node.number, is_directory at.node) (ap shape_of stood) in
    omega (arith, numbered.1, at.number)

pub size_within : (tree : Tree) (path : Path) (f : FoundNode) (size : ℕ) → IsTree tree → Ok f ≡ found (walk tree path) → f.info ≡ infos.File size → size ≤ 4294967296
size_within tree path f size is told file =
    let at : Finds (walk tree path) f = found_ok (walk tree path) f told in
    let bytes = file_is at.node.content size (sym file ∙ at.info) in
    let stood : node_at tree path ≡ Some (record { number = at.node.number; content = File bytes.0 }) =
    walked tree path at.node at.is ∙ ap (λ (c : Content). Some (record { number = at.node.number; content = c })) bytes.1 in
    omega (arith, is.sizes path at.node.number bytes.0 stood, bytes.2)

-- a directory is refused
pub no_file : (m : Machine) (path : Path) (offset len : ℕ) (f : FoundNode) → Ok f ≡ found (walk m.tree path) → ((size : ℕ) → f.info ≡ infos.File size → ⊥)
    → IsReplyTo m (Read path offset len) (Refused IsADirectory)
no_file m path offset len f told apart = by at.node.content refl
  where
    at : Finds (walk m.tree path) f
    at = found_ok (walk m.tree path) f told

    by : (x : Content) → at.node.content ≡ x → IsReplyTo m (Read path offset len) (Refused IsADirectory)
    by (File bytes) e = absurd (apart (length bytes) (at.info ∙ ap info_of e))
    by (Directory width) e = read_is m path offset len (Refused IsADirectory) (read_directory m.tree path offset len width at.node at.is e)

-- The bytes of a file are its reply,
pub data_is : ReadIsData → (m : Machine) (path : Path) (offset len : ℕ) (f : FoundNode) (size : ℕ) (given : List ℕ) → IsTree m.tree → Ok f ≡ found (walk m.tree path) → f.info ≡ infos.File size
    → (length (bytes_numbered f.number m.tree) ≡ size → given ≡ take len (drop offset (bytes_numbered f.number m.tree))) → IsReplyTo m (Read path offset len) (Data given)
data_is law m path offset len f size given is told file read =
    let at : Finds (walk m.tree path) f = found_ok (walk m.tree path) f told in
    let bytes = file_is at.node.content size (sym file ∙ at.info) in
    let both = law m.tree path at.node bytes.0 offset len is at.is bytes.1 in
    let long : length (bytes_numbered f.number m.tree) ≡ size = ap (λ (n : ℕ). length (bytes_numbered n m.tree)) at.number ∙ both.1 ∙ sym bytes.2 in
    read_is m path offset len (Data given) (both.0 ∙ ap Data (ap (λ (n : ℕ). take len (drop offset (bytes_numbered n m.tree))) (sym at.number) ∙ sym (read long)))

-- and a fault that no block's damage is of is an excuse.
pub fault_is : (T : Type 0) (m : Machine) (path : Path) (offset len : ℕ) (fault : TreeFault) → IfTreeDamaged {T = T} (Err fault) (λ b. ⊥) → IsReplyTo m (Read path offset len) (Refused (refusal_by fault))
fault_is T m path offset len trees.Device sound = record { is = inr refl; whole = refl }
fault_is T m path offset len (trees.Damaged b) sound = absurd sound
fault_is T m path offset len trees.OutOfMemory sound = record { is = inr refl; whole = refl }

pub fault_counts : (T : Type 0) (old new : ℕ) (fault : TreeFault) → HasTreeCause {T = T} old new (Err fault) → HasReplyCause old new (Refused (refusal_by fault))
fault_counts T old new trees.Device cause = cause
fault_counts T old new (trees.Damaged b) cause = cause
fault_counts T old new trees.OutOfMemory cause = cause

-- ---- the other commands

-- But for `read` and `space` the nodes tell it.
pub rest_tells : (command : Command) → only_looks command ≡ true → ((path : Path) (offset len : ℕ) → command ≡ Read path offset len → ⊥) → (command ≡ Space → ⊥) → only_tells command ≡ true
rest_tells (Mkdir path) looks apart other = looks
rest_tells (Create path) looks apart other = looks
rest_tells (Write path offset bytes) looks apart other = looks
rest_tells (Truncate path size) looks apart other = looks
rest_tells (Remove path) looks apart other = looks
rest_tells (Rename from to) looks apart other = looks
rest_tells (Read path offset len) looks apart other = absurd (apart path offset len refl)
rest_tells (ListOf path) looks apart other = looks
rest_tells (Stat path) looks apart other = looks
rest_tells (Layout path) looks apart other = looks
rest_tells Space looks apart other = absurd (other refl)
rest_tells Checkpoint looks apart other = looks
rest_tells End looks apart other = looks

-- `space` is answered with what memory has.
pub space_told : (r : Rules) (m : Machine) (s : State) (v : Memory) → IsIn r m s v → IsReplyTo m Space (space_of v)
space_told r m s v is = record { is = inl (λ i. SpaceOf (is.free i) (is.pending i) (used_is r m s.contents v.state is.holds.holds i)); whole = refl }
