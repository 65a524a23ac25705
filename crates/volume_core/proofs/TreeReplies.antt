-- The tree never answers with what comes from outside of it: a fault of the device, a damaged block, or want of memory.
use Rattle.std.proofs.Common.{◌≡◌, Bool, true, false, [], ◌∷◌, ◌++◌, Option, Some, None, refl, subst}
use Rattle.std.specs.Prelude.{Result, Ok, Err, not}
use Rattle.std.specs.Result.{result_err}
use Rattle.tree_model.specs.Path.{Path}
use Rattle.tree_model.specs.Step.{◌>>=◌, refuse_if, or_refuse, walk_from, bytes_of, attempt, settled, step, refusal_of}
use Rattle.tree_model.specs.Tree.{Tree, node_at, is_directory}
use Rattle.tree_model.specs.declared.command.Command.{Command}
use Rattle.tree_model.specs.declared.command.Command.TheVariants.{Mkdir, Create, Write, Truncate, Remove, Rename, Read, List as ListOf, Stat, Layout, Space, Checkpoint, End}
use Rattle.tree_model.specs.declared.node.Content.{Content}
use Rattle.tree_model.specs.declared.node.Content.TheVariants.{File, Directory}
use Rattle.tree_model.specs.declared.refusal.Refusal.{Refusal}
use Rattle.tree_model.specs.declared.refusal.Refusal.TheVariants.{NotFound, NotADirectory, IsADirectory}
use Rattle.tree_model.specs.declared.reply.Reply.{Reply}
use Rattle.tree_model.specs.declared.reply.Reply.TheVariants.{Done, Data, Entries, Stat as StatOf, Layout as LayoutOf, Space as SpaceOf, Refused}
use Rattle.tree_model.proofs.AttemptLaws.{Accepts, NotRefused, attempt_accepts}
use Rattle.volume_model.specs.Legal.{is_outside}

-- a refusal of the tree's own, if it is one
data OfTree {A : Type 0} : Result A Refusal → Type 0 where
  given : (x : A) → OfTree (Ok x)
  refused : (e : Refusal) → is_outside (Refused e) ≡ false → OfTree (Err e)

then_of : {A B : Type 0} {x : Result A Refusal} {f : A → Result B Refusal} → OfTree x → ((a : A) → OfTree (f a)) → OfTree (x >>= f)
then_of (given x) rest = rest x
then_of (refused e fine) rest = refused e fine

refuse_of : (t : Bool) (e : Refusal) → is_outside (Refused e) ≡ false → OfTree (refuse_if t e)
refuse_of true e fine = refused e fine
refuse_of false e fine = given 0

or_of : {A : Type 0} (o : Option A) (e : Refusal) → is_outside (Refused e) ≡ false → OfTree (or_refuse o e)
or_of None e fine = refused e fine
or_of (Some x) e fine = given x

walk_of : (tree : Tree) (at names : Path) → OfTree (walk_from tree at names)
walk_of tree at [] = or_of (node_at tree at) NotFound refl
walk_of tree at (name ∷ names) =
    then_of {f = λ node. refuse_if (not (is_directory node)) NotADirectory >>= (λ _. walk_from tree (at ++ name ∷ []) names)} (or_of (node_at tree at) NotFound refl)
    (λ node. then_of {f = λ _. walk_from tree (at ++ name ∷ []) names} (refuse_of (not (is_directory node)) NotADirectory refl) (λ _. walk_of tree (at ++ name ∷ []) names))

bytes_in : (c : Content) → OfTree (bytes_of c)
bytes_in (File bytes) = given bytes
bytes_in (Directory width) = refused IsADirectory refl

-- ---- every command

attempt_of : (tree : Tree) (command : Command) → OfTree (attempt tree command)
attempt_of tree (Mkdir path) = search (then_of, refuse_of, or_of, walk_of, bytes_in, given) depth 14
attempt_of tree (Create path) = search (then_of, refuse_of, or_of, walk_of, bytes_in, given) depth 14
attempt_of tree (Write path offset bytes) = search (then_of, refuse_of, or_of, walk_of, bytes_in, given) depth 12
attempt_of tree (Truncate path size) = search (then_of, refuse_of, or_of, walk_of, bytes_in, given) depth 12
attempt_of tree (Remove path) = search (then_of, refuse_of, or_of, walk_of, bytes_in, given) depth 12
attempt_of tree (Rename from to) = search (then_of, refuse_of, or_of, walk_of, bytes_in, given) depth 18
attempt_of tree (Read path offset len) = search (then_of, refuse_of, or_of, walk_of, bytes_in, given) depth 12
attempt_of tree (ListOf path) = search (then_of, refuse_of, or_of, walk_of, bytes_in, given) depth 12
attempt_of tree (Stat path) = search (then_of, refuse_of, or_of, walk_of, bytes_in, given) depth 12
attempt_of tree (Layout path) = search (then_of, refuse_of, or_of, walk_of, bytes_in, given) depth 12
attempt_of tree Space = given _
attempt_of tree Checkpoint = given _
attempt_of tree End = given _

-- What the tree refuses is its own refusal.
pub refusal_inside : (tree : Tree) (command : Command) (e : Refusal) → refusal_of tree command ≡ Some e → is_outside (Refused e) ≡ false
refusal_inside tree command e is = by (attempt tree command) (attempt_of tree command) is
  where
    by : (x : Result (Reply × Tree) Refusal) → OfTree x → result_err x ≡ Some e → is_outside (Refused e) ≡ false
    by (Ok x) (given y) h = cc
    by (Err d) (refused f fine) h = let same : d ≡ e = cc in subst (λ (y : Refusal). is_outside (Refused y) ≡ false) same fine

-- a reply that is no refusal is none of those either
plain_inside : (x : Reply) → ((e : Refusal) → x ≡ Refused e → ⊥) → is_outside x ≡ false
plain_inside Done fine = refl
plain_inside (Data bytes) fine = refl
plain_inside (Entries es) fine = refl
plain_inside (StatOf kind number size) fine = refl
plain_inside (LayoutOf ps) fine = refl
plain_inside (SpaceOf free pending log) fine = refl
plain_inside (Refused refusal) fine = absurd (fine refusal refl)

-- What the tree replies is none of those.
pub reply_inside : (tree : Tree) (command : Command) → is_outside (step tree command).0 ≡ false
unfolding step
reply_inside tree command = by (attempt tree command) (attempt_of tree command) (attempt_accepts tree command)
  where
    by : (x : Result (Reply × Tree) Refusal) → OfTree x → Accepts NotRefused x → is_outside (settled tree x).0 ≡ false
    by (Ok x) y fine = plain_inside x.0 fine
    by (Err d) (refused f fine) h = fine
