-- A command's refusal and its reply tell each other.
use Rattle.std.proofs.Common.{◌≡◌, [], ◌∷◌, true, Some, None}
use Rattle.std.specs.Prelude.{Result, Ok, Err}
use Rattle.std.specs.Result.{result_err}
use Rattle.tree_model.specs.declared.command.Command.{Command}
use Rattle.tree_model.specs.declared.command.Command.TheVariants.{Mkdir, Create, Write, Truncate, Remove, Rename, Read, List as ListOf, Stat, Layout, Space, Checkpoint, End}
use Rattle.tree_model.specs.declared.refusal.Refusal.{Refusal}
use Rattle.tree_model.specs.declared.reply.Reply.{Reply}
use Rattle.tree_model.specs.declared.reply.Reply.TheVariants.{Done, Refused}
use Rattle.tree_model.specs.Tree.{Tree}
use Rattle.tree_model.specs.Step.{step, attempt, settled, is_change}
use Rattle.tree_model.specs.Laws.{RefusalTells, ChangesAreDone}
use Rattle.tree_model.proofs.AttemptLaws.{Accepts, after_all, NotRefused, attempt_accepts}

refused_by : (tree : Tree) (r : Result (Reply × Tree) Refusal) (refusal : Refusal) → result_err r ≡ Some refusal → (settled tree r).0 ≡ Refused refusal
refused_by tree (Ok done) refusal e = cc
refused_by tree (Err other) refusal e = cc

refusal_in : (tree : Tree) (r : Result (Reply × Tree) Refusal) (refusal : Refusal) → Accepts NotRefused r → (settled tree r).0 ≡ Refused refusal → result_err r ≡ Some refusal
refusal_in tree (Ok done) refusal h e = absurd (h refusal e)
refusal_in tree (Err other) refusal h e = cc

pub refusal_tells : RefusalTells
unfolding step
refusal_tells tree command refusal = (refused_by tree (attempt tree command) refusal, refusal_in tree (attempt tree command) refusal (attempt_accepts tree command))

-- ---- changes

abbrev IsDone : Reply → Tree → Type 0
IsDone reply tree = reply ≡ Done

attempt_does : (tree : Tree) (command : Command) → is_change command ≡ true → Accepts IsDone (attempt tree command)
attempt_does tree (Mkdir path) h = search after_all depth 12
attempt_does tree (Create path) h = search after_all depth 12
attempt_does tree (Write path offset []) h = cc
attempt_does tree (Write path offset (byte ∷ bytes)) h = search after_all depth 9
attempt_does tree (Truncate path size) h = search after_all depth 9
attempt_does tree (Remove path) h = search after_all depth 9
attempt_does tree (Rename from to) h = search after_all depth 12
attempt_does tree (Read path offset len) h = cc
attempt_does tree (ListOf path) h = cc
attempt_does tree (Stat path) h = cc
attempt_does tree (Layout path) h = cc
attempt_does tree Space h = cc
attempt_does tree Checkpoint h = cc
attempt_does tree End h = cc

settled_done : (tree : Tree) (r : Result (Reply × Tree) Refusal) → Accepts IsDone r → result_err r ≡ None → (settled tree r).0 ≡ Done
settled_done tree (Ok done) h e = h
settled_done tree (Err refusal) h e = cc

pub changes_are_done : ChangesAreDone
unfolding step
changes_are_done tree command h e = settled_done tree (attempt tree command) (attempt_does tree command h) e
