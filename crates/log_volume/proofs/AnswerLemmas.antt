-- What a volume answers, by cases on the command.
use Rattle.std.proofs.Common.{◌≡◌, ◌∙◌, ⊎_elim, inl, ℕ, Bool, true, false, List, [], ◌∷◌, length, Option, Some, None, Result, Ok, Err, refl, sym, ap, subst, arith}
use Rattle.std.specs.Prelude.{IfOk, OnOk, OnErr, ◌||◌, not, is_some, is_err}
use Rattle.std.specs.Result.{result_err}
use Rattle.vol_numbers.specs.declared.block.Block.{Block}
use Rattle.std.proofs.lemmas.Bool.{false≢true}
use Rattle.tree_model.specs.Path.{Path, is_root, parent_of}
use Rattle.tree_model.specs.Shape.{IsTree}
use Rattle.tree_model.specs.Tree.{Tree, holds_entries, is_directory, node_at}
use Rattle.tree_model.specs.declared.command.Command.{Command}
use Rattle.tree_model.specs.declared.command.Command.TheVariants.{Mkdir, Create, Write, Truncate, Remove, Rename, Read, List as ListOf, Stat, Layout, Space, Checkpoint, End}
use Rattle.tree_model.specs.declared.reply.Reply.TheVariants as reply
use Rattle.tree_model.specs.declared.node.Node.{Node}
use Rattle.tree_model.specs.declared.node.Content.{Content}
use Rattle.tree_model.specs.declared.node.Content.TheVariants.{File, Directory}
use Rattle.tree_model.specs.declared.refusal.Refusal.{Refusal}
use Rattle.tree_model.specs.declared.refusal.Refusal.TheVariants.{NotFound, NotADirectory, Exists}
use Rattle.tree_model.specs.Shape.{shape_of}
use Rattle.tree_model.specs.Step.{step, refusal_of, or_refuse, refuse_if, walk, bytes_of, ◌>>=◌, is_plain, is_change}
use Rattle.tree_model.proofs.AttemptLaws.{reading_leaves}
use Rattle.tree_model.proofs.RefusalLaws.{refusal_tells, changes_are_done}
use Rattle.tree_model.proofs.RenameLaws.{keeps_trees}
use Rattle.op_log.specs.Record.{IsLogged}
use Rattle.log_volume.specs.Answers.{Legal, reply_to, with_room, has_room, accepted}
use Rattle.log_volume.specs.Fits.{StandsForSome}
use Rattle.log_volume.specs.Image.{Stands}
use Rattle.log_volume.specs.Logging.{KeepsOrNext}
use Rattle.log_volume.specs.Replay.{Kept, IsDone}
use Rattle.log_volume.proofs.ImageLaws.{kept_stands, next_stands}
use Rattle.log_volume.specs.declared.answer.Answer.TheVariants.{Reply, LogFull}

-- a change is of the tree
pub change_plain : (c : Command) → is_change c ≡ true → is_plain c ≡ true
change_plain (Mkdir path) is = refl
change_plain (Create path) is = refl
change_plain (Write path offset bytes) is = refl
change_plain (Truncate path size) is = refl
change_plain (Remove path) is = refl
change_plain (Rename from to) is = refl
change_plain (Read path offset length) is = refl
change_plain (ListOf path) is = refl
change_plain (Stat path) is = refl
change_plain (Layout path) is = cc
change_plain Space is = cc
change_plain Checkpoint is = cc
change_plain End is = cc

-- the reply to a command of the tree
pub reply_plain : (room : ℕ) (kept : Kept) (c : Command) → is_plain c ≡ true → reply_to room kept c ≡ with_room (not (is_change c) || has_room room kept c) (step kept.tree c).0
reply_plain room kept c is = rw is refl

-- ---- a step of the tree, and what it leaves

-- a tree stays one
pub tree_kept : {E : Type 0} (old new : Tree) (c : Command) (r : Result reply.the_data E) → IfOk r (λ given. step old c ≡ (given, new)) → OnErr r (new ≡ old) → IsTree old → IsTree new
tree_kept old new c (Ok given) stepped same sound = subst IsTree (ap (λ (p : reply.the_data × Tree). p.1) stepped) (keeps_trees.after_step old c sound)
tree_kept old new c (Err e) stepped same sound = subst IsTree (sym same) sound

-- a command that changes nothing leaves it as it is
pub tree_same : {E : Type 0} (old new : Tree) (c : Command) (r : Result reply.the_data E) → IfOk r (λ given. step old c ≡ (given, new)) → OnErr r (new ≡ old) → is_change c ≡ false → new ≡ old
tree_same old new c (Ok given) stepped same reading = sym (ap (λ (p : reply.the_data × Tree). p.1) stepped) ∙ reading_leaves old c reading
tree_same old new c (Err e) stepped same reading = same

-- ---- a change that isn't refused is logged

-- what needs the bytes of a file is refused of a directory
of_directory : {A : Type 0} (content : Content) (f : List ℕ → Result A Refusal) → holds_entries content ≡ true → result_err (bytes_of content >>= f) ≡ None → ⊥
of_directory (File bytes) f is none = cc
of_directory (Directory width) f is none = cc

abbrev dir_of : Option (ℕ × Bool) → Bool
dir_of None = false
dir_of (Some shape) = shape.1

of_root : {A : Type 0} (o : Option Node) (f : List ℕ → Node → Result A Refusal) (number : ℕ) → shape_of o ≡ Some (number, true)
    → result_err (or_refuse o NotFound >>= λ node. (bytes_of node.content >>= λ bytes. f bytes node)) ≡ None → ⊥
of_root None f number is none = cc
of_root (Some node) f number is none = let holds : holds_entries node.content ≡ true = ap dir_of is in of_directory node.content (λ bytes. f bytes node) holds none

-- what is refused in the end is refused
never_none : {A B : Type 0} (r : Result A Refusal) (f : A → Result B Refusal) → ((x : A) → result_err (f x) ≡ None → ⊥) → result_err (r >>= f) ≡ None → ⊥
never_none (Ok x) f refused none = refused x none
never_none (Err e) f refused none = cc

some_none : {X : Type 0} {x : X} → Some x ≡ None → ⊥
some_none e = cc

-- a change that isn't refused doesn't speak of the root
pub done_logged : (tree : Tree) (c : Command) → IsTree tree → is_change c ≡ true → refusal_of tree c ≡ None → IsLogged c
done_logged tree (Mkdir path) sound change none = λ e. some_none (subst (λ (p : Path). refusal_of tree (Mkdir p) ≡ None) e none)
done_logged tree (Create path) sound change none = λ e. some_none (subst (λ (p : Path). refusal_of tree (Create p) ≡ None) e none)
done_logged tree (Write path offset bytes) sound change none = (
  λ e. of_root (node_at tree []) _ 1 sound.shape.root (subst (λ (p : Path). refusal_of tree (Write p offset bytes) ≡ None) e none),
  λ e. false≢true (subst (λ (b : List ℕ). is_change (Write path offset b) ≡ true) e change),
)
done_logged tree (Truncate path size) sound change none = λ e. of_root (node_at tree []) _ 1 sound.shape.root (subst (λ (p : Path). refusal_of tree (Truncate p size) ≡ None) e none)
done_logged tree (Remove path) sound change none = λ e. never_none (walk tree []) _ (λ node refused. some_none refused) (subst (λ (p : Path). refusal_of tree (Remove p) ≡ None) e none)
done_logged tree (Rename from to) sound change none = (
  λ e. never_none (walk tree []) _ (λ node. never_none (refuse_if (is_root to) Exists) _ (λ _. never_none (walk tree (parent_of to)) _ (λ parent.
      never_none (refuse_if (not (is_directory parent)) NotADirectory) _ (λ _. never_none (refuse_if (is_some (node_at tree to)) Exists) _ (λ _ refused. some_none refused)))))
      (subst (λ (p : Path). refusal_of tree (Rename p to) ≡ None) e none),
  λ e. never_none (walk tree from) _ (λ node refused. some_none refused) (subst (λ (p : Path). refusal_of tree (Rename from p) ≡ None) e none),
)
done_logged tree (Read path offset length) sound change none = absurd (false≢true change)
done_logged tree (ListOf path) sound change none = absurd (false≢true change)
done_logged tree (Stat path) sound change none = absurd (false≢true change)
done_logged tree (Layout path) sound change none = absurd (false≢true change)
done_logged tree Space sound change none = absurd (false≢true change)
done_logged tree Checkpoint sound change none = absurd (false≢true change)
done_logged tree End sound change none = absurd (false≢true change)

-- ---- the answers to a change

pub refused_legal : (room : ℕ) (kept : Kept) (c : Command) (refusal : Refusal) → is_change c ≡ true → refusal_of kept.tree c ≡ Some refusal → Legal room kept c (Reply (reply.Refused refusal))
refused_legal room kept c refusal change is =
    inl (sym (reply_plain room kept c (change_plain c change) ∙ ap (with_room (not (is_change c) || has_room room kept c)) ((refusal_tells kept.tree c refusal).0 is) ∙ whatever (not (is_change c) || has_room room kept c) refusal))
  where
    whatever : (b : Bool) (refusal : Refusal) → with_room b (reply.Refused refusal) ≡ Reply (reply.Refused refusal)
    whatever true refusal = refl
    whatever false refusal = refl

pub full_legal : (room : ℕ) (kept : Kept) (c : Command) → is_change c ≡ true → refusal_of kept.tree c ≡ None → has_room room kept c ≡ false → Legal room kept c LogFull
full_legal room kept c change none no_room =
    inl (sym (reply_plain room kept c (change_plain c change) ∙ ap (λ (b : Bool). with_room (not b || has_room room kept c) (step kept.tree c).0) change
    ∙ ap (λ (b : Bool). with_room b (step kept.tree c).0) no_room ∙ ap (with_room false) (changes_are_done kept.tree c change none)))

pub reply_done : (room : ℕ) (kept : Kept) (c : Command) → is_change c ≡ true → refusal_of kept.tree c ≡ None → has_room room kept c ≡ true → reply_to room kept c ≡ Reply reply.Done
reply_done room kept c change none some_room =
    reply_plain room kept c (change_plain c change) ∙ ap (λ (b : Bool). with_room (not b || has_room room kept c) (step kept.tree c).0) change
    ∙ ap (λ (b : Bool). with_room b (step kept.tree c).0) some_room ∙ ap (with_room true) (changes_are_done kept.tree c change none)

pub accepted_done : (c : Command) → is_change c ≡ true → accepted c (Reply reply.Done) ≡ c ∷ []
accepted_done c change = rw change refl

-- ---- the images

pub some_of : (old : List Block) (kept : Kept) (c : Command) → Stands old kept → IsDone kept c → (image : List Block) → KeepsOrNext old c image → StandsForSome kept (c ∷ []) image
some_of old kept c stands done image either = ⊎_elim
    (λ keeps. record { count = 0; within = omega arith; stands = kept_stands old image kept keeps stands })
    (λ next. record { count = 1; within = omega arith; stands = next_stands old image c kept next stands done }) either

-- a change that stops is one that the tree does, with room
pub accepted_stopped : (room : ℕ) (kept : Kept) (c : Command) → is_change c ≡ true → refusal_of kept.tree c ≡ None → has_room room kept c ≡ true → c ∷ [] ≡ accepted c (reply_to room kept c)
accepted_stopped room kept c change none fits = sym (ap (accepted c) (reply_done room kept c change none fits) ∙ accepted_done c change)

-- what holds of an answer that is no error
pub of_ok : {T E P : Type 0} (r : Result T E) → OnOk r P → is_err r ≡ false → P
of_ok (Ok x) holds ok = holds
of_ok (Err e) holds ok = cc

-- what is kept with a tree and a use of the log
pub same_kept : (tree new : Tree) (used other : ℕ) → tree ≡ new → used ≡ other → let one : Kept = record { tree = tree; used = used } in let two : Kept = record { tree = new; used = other } in one ≡ two
same_kept tree new used other t u = λ i. record { tree = t i; used = u i }
