-- What is answered to commands that only look.
use Rattle.std.proofs.Common.{◌≡◌, ◌∙◌, inl, inr, ℕ, Bool, true, false, List, [], ◌∷◌, Some, None, refl, sym, ap, length, drop, take}
use Rattle.std.specs.Prelude.{Result, Ok, Err, not, ◌+◌, nat_lt}
use Rattle.std.specs.Result.{result_err}
use Rattle.node_table.specs.Found.{found, found_of}
use Rattle.node_table.specs.Held.{info_of}
use Rattle.node_table.specs.declared.held.FoundNode.{FoundNode}
use Rattle.node_table.specs.declared.held.NodeInfo.TheVariants as infos
use Rattle.tree_model.specs.Path.{Path}
use Rattle.tree_model.specs.Step.{◌>>=◌, walk, bytes_of, stat, settled, step, refusal_of, refuse_if}
use Rattle.tree_model.specs.Tree.{Tree, is_directory, entries_of}
use Rattle.tree_model.specs.declared.command.Command.{Command}
use Rattle.tree_model.specs.declared.command.Command.TheVariants.{Mkdir, Create, Write, Truncate, Remove, Rename, Read, List as ListOf, Stat, Layout, Space, Checkpoint, End}
use Rattle.tree_model.specs.declared.node.Content.{Content}
use Rattle.tree_model.specs.declared.node.Content.TheVariants.{File, Directory}
use Rattle.tree_model.specs.declared.node.Node.{Node}
use Rattle.tree_model.specs.declared.refusal.Refusal.{Refusal}
use Rattle.tree_model.specs.declared.refusal.Refusal.TheVariants.{IsADirectory, NotADirectory, TooBig, DeviceFault, Damaged}
use Rattle.tree_model.specs.declared.reply.Reply.{Reply}
use Rattle.tree_model.specs.declared.reply.Reply.TheVariants.{Done, Data, Entries, Stat as StatOf, Layout as LayoutOf, Space as SpaceOf, Refused}
use Rattle.tree_model.proofs.RefusalLaws.{refusal_tells}
use Rattle.volume_model.specs.Legal.{is_outside, reply_to}
use Rattle.volume_model.specs.Machine.{Machine}
use Rattle.session_model.specs.Given.{is_damaged, is_fault}
use Rattle.volume_core.specs.Answers.{IsReplyTo, IsTold, HasReplyCause, only_tells}
use Rattle.volume_core.proofs.TreeReplies.{reply_inside}

-- what comes from the tree is neither that a block is damaged nor that the device failed
pub not_damaged : (x : Reply) → is_outside x ≡ false → is_damaged x ≡ false
not_damaged Done e = refl
not_damaged (Data bytes) e = refl
not_damaged (Entries es) e = refl
not_damaged (StatOf kind number size) e = refl
not_damaged (LayoutOf ps) e = refl
not_damaged (SpaceOf free pending log) e = refl
not_damaged (Refused refusal) e = by (is_damaged (Refused refusal)) refl
  where
    by : (t : Bool) → is_damaged (Refused refusal) ≡ t → t ≡ false
    by false h = refl
    by true h = damaged refusal h e
      where
        damaged : (x : Refusal) → is_damaged (Refused x) ≡ true → is_outside (Refused x) ≡ false → true ≡ false
        damaged (Damaged b) h e = e
        damaged x h e = sym h

pub no_fault : (x : Reply) → is_outside x ≡ false → is_fault x ≡ false
no_fault Done e = refl
no_fault (Data bytes) e = refl
no_fault (Entries es) e = refl
no_fault (StatOf kind number size) e = refl
no_fault (LayoutOf ps) e = refl
no_fault (SpaceOf free pending log) e = refl
no_fault (Refused refusal) e = fault refusal e
  where
    fault : (x : Refusal) → is_outside (Refused x) ≡ false → is_fault (Refused x) ≡ false
    fault DeviceFault e = cc
    fault x e = refl

-- such a reply leaves the count of faults
pub not_counted : (count now : ℕ) (x : Reply) → is_fault x ≡ false → now ≡ count → HasReplyCause count now x
not_counted count now x free same = rw free same

-- the model's reply, where the tree has one
told_reply : (m : Machine) (command : Command) → only_tells command ≡ true → reply_to m command ≡ (step m.tree command).0
told_reply m (Mkdir path) e = cc
told_reply m (Create path) e = cc
told_reply m (Write path offset []) e = refl
told_reply m (Write path offset (byte ∷ bytes)) e = cc
told_reply m (Truncate path size) e = cc
told_reply m (Remove path) e = cc
told_reply m (Rename from to) e = cc
told_reply m (Read path offset len) e = cc
told_reply m (ListOf path) e = refl
told_reply m (Stat path) e = refl
told_reply m (Layout path) e = cc
told_reply m Space e = cc
told_reply m Checkpoint e = cc
told_reply m End e = refl

pub told_is : (m : Machine) (command : Command) (given : Reply) → only_tells command ≡ true → IsTold m.tree command given → IsReplyTo m command given
told_is m command given only (inl e) = record { is = inl (e ∙ sym (told_reply m command only)); whole = ap is_damaged e ∙ not_damaged (step m.tree command).0 (reply_inside m.tree command) }
told_is m command given only (inr e) = record { is = inr e.1; whole = ap is_damaged e.0 }

pub told_no_fault : (tree : Tree) (command : Command) (given : Reply) → IsTold tree command given → is_fault given ≡ false
told_no_fault tree command given (inl e) = ap is_fault e ∙ no_fault (step tree command).0 (reply_inside tree command)
told_no_fault tree command given (inr e) = ap is_fault e.0

-- ---- where the tree has no refusal

pub refused_is : (tree : Tree) (command : Command) (e : Refusal) → Some e ≡ refusal_of tree command → (step tree command).0 ≡ Refused e
refused_is tree command e is = (refusal_tells tree command e).0 (sym is)

pub list_is : (tree : Tree) (path : Path) → refusal_of tree (ListOf path) ≡ None → (step tree (ListOf path)).0 ≡ Entries (entries_of tree path)
unfolding step
list_is tree path none = by (walk tree path) none
  where
    by : (x : Result Node Refusal) → result_err {T = Reply × Tree} (x >>= (λ node. refuse_if (not (is_directory node)) NotADirectory >>= (λ _. Ok (Entries (entries_of tree path), tree)))) ≡ None
        → (settled tree (x >>= (λ node. refuse_if (not (is_directory node)) NotADirectory >>= (λ _. Ok (Entries (entries_of tree path), tree))))).0 ≡ Entries (entries_of tree path)
    by (Err e) h = cc
    by (Ok node) h = dir (is_directory node) h
      where
        dir : (t : Bool) → result_err {T = Reply × Tree} (refuse_if (not t) NotADirectory >>= (λ _. Ok (Entries (entries_of tree path), tree))) ≡ None
            → (settled tree (refuse_if (not t) NotADirectory >>= (λ _. Ok (Entries (entries_of tree path), tree)))).0 ≡ Entries (entries_of tree path)
        dir true h = refl
        dir false h = cc

pub stat_is : (tree : Tree) (path : Path) (given : Reply) → stat tree path ≡ Ok (given, tree) → (step tree (Stat path)).0 ≡ given
unfolding step
stat_is tree path given e = ap (λ (x : Result (Reply × Tree) Refusal). (settled tree x).0) e

pub stat_refused : (tree : Tree) (path : Path) (e : Refusal) → stat tree path ≡ Err e → (step tree (Stat path)).0 ≡ Refused e
unfolding step
stat_refused tree path e is = ap (λ (x : Result (Reply × Tree) Refusal). (settled tree x).0) is

-- ---- a file's bytes

pub found_err : (x : Result Node Refusal) (e : Refusal) → Err e ≡ found x → x ≡ Err e
found_err (Ok node) e is = cc
found_err (Err d) e is = cc

-- the node that is found
pub record Finds (x : Result Node Refusal) (f : FoundNode) : Type 0 where
  pub node : Node
  pub is : x ≡ Ok node
  pub number : f.number ≡ node.number
  pub info : f.info ≡ info_of node.content

pub found_ok : (x : Result Node Refusal) (f : FoundNode) → Ok f ≡ found x → Finds x f
found_ok (Ok node) f is = let same : f ≡ found_of node = cc in record { node = node; is = refl; number = ap (λ (y : FoundNode). y.number) same; info = ap (λ (y : FoundNode). y.info) same }
found_ok (Err d) f is = cc

-- the bytes of a file that is found
pub file_is : (c : Content) (size : ℕ) → infos.File size ≡ info_of c → (bytes : List ℕ) × (c ≡ File bytes) × (size ≡ length bytes)
file_is (File bytes) size e = (bytes, refl, size_of e)
  where
    size_of : infos.File size ≡ infos.File (length bytes) → size ≡ length bytes
    size_of h = cc
file_is (Directory width) size e = cc

pub directory_is : (c : Content) (width : ℕ) → infos.Directory width ≡ info_of c → c ≡ Directory width
directory_is (File bytes) width e = cc
directory_is (Directory w) width e = cc

pub read_refused : (tree : Tree) (path : Path) (offset len : ℕ) (e : Refusal) → walk tree path ≡ Err e → (step tree (Read path offset len)).0 ≡ Refused e
unfolding step
read_refused tree path offset len e is = by (walk tree path) is
  where
    by : (x : Result Node Refusal) → x ≡ Err e
        → (settled tree (x >>= (λ node. bytes_of node.content >>= (λ bytes. Ok (Data (take len (drop offset bytes)), tree))))).0 ≡ Refused e
    by (Ok node) h = cc
    by (Err d) h = cc

pub read_directory : (tree : Tree) (path : Path) (offset len width : ℕ) (node : Node) → walk tree path ≡ Ok node → node.content ≡ Directory width → (step tree (Read path offset len)).0 ≡ Refused IsADirectory
unfolding step
read_directory tree path offset len width node is dir = by (walk tree path) is
  where
    content : (c : Content) → c ≡ Directory width → (settled tree (bytes_of c >>= (λ bytes. Ok (Data (take len (drop offset bytes)), tree)))).0 ≡ Refused IsADirectory
    content (File bytes) h = cc
    content (Directory w) h = refl

    by : (x : Result Node Refusal) → x ≡ Ok node
        → (settled tree (x >>= (λ node. bytes_of node.content >>= (λ bytes. Ok (Data (take len (drop offset bytes)), tree))))).0 ≡ Refused IsADirectory
    by (Ok other) h = let same : other ≡ node = cc in content other.content (ap (λ (n : Node). n.content) same ∙ dir)
    by (Err d) h = cc

-- what else the nodes alone are asked for is done, where it isn't refused
pub rest_is_done : (tree : Tree) (command : Command) → only_tells command ≡ true → ((path : Path) → command ≡ ListOf path → ⊥) → ((path : Path) → command ≡ Stat path → ⊥)
    → refusal_of tree command ≡ None → (step tree command).0 ≡ Done
unfolding step
rest_is_done tree (Mkdir path) only apart other free = cc
rest_is_done tree (Create path) only apart other free = cc
rest_is_done tree (Write path offset []) only apart other free = by (walk tree path) free
  where
    over : (t : Bool) → result_err {T = Reply × Tree} (refuse_if t TooBig >>= (λ _. Ok (Done, tree))) ≡ None → (settled tree (refuse_if t TooBig >>= (λ _. Ok (Done, tree)))).0 ≡ Done
    over true h = cc
    over false h = refl

    content : (c : Content) → result_err {T = Reply × Tree} (bytes_of c >>= (λ bytes. refuse_if (nat_lt 4294967296 (offset + 0)) TooBig >>= (λ _. Ok (Done, tree)))) ≡ None
        → (settled tree (bytes_of c >>= (λ bytes. refuse_if (nat_lt 4294967296 (offset + 0)) TooBig >>= (λ _. Ok (Done, tree))))).0 ≡ Done
    content (File bytes) h = over (nat_lt 4294967296 (offset + 0)) h
    content (Directory width) h = cc

    by : (x : Result Node Refusal) → result_err {T = Reply × Tree} (x >>= (λ node. bytes_of node.content >>= (λ bytes. refuse_if (nat_lt 4294967296 (offset + 0)) TooBig >>= (λ _. Ok (Done, tree))))) ≡ None
        → (settled tree (x >>= (λ node. bytes_of node.content >>= (λ bytes. refuse_if (nat_lt 4294967296 (offset + 0)) TooBig >>= (λ _. Ok (Done, tree)))))).0 ≡ Done
    by (Ok node) h = content node.content h
    by (Err e) h = cc
rest_is_done tree (Write path offset (byte ∷ bytes)) only apart other free = cc
rest_is_done tree (Truncate path size) only apart other free = cc
rest_is_done tree (Remove path) only apart other free = cc
rest_is_done tree (Rename from to) only apart other free = cc
rest_is_done tree (Read path offset len) only apart other free = cc
rest_is_done tree (ListOf path) only apart other free = absurd (apart path refl)
rest_is_done tree (Stat path) only apart other free = absurd (other path refl)
rest_is_done tree (Layout path) only apart other free = cc
rest_is_done tree Space only apart other free = cc
rest_is_done tree Checkpoint only apart other free = cc
rest_is_done tree End only apart other free = refl
