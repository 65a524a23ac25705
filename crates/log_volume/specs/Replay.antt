-- What a log keeps: the plain tree that its commands make, and how many of its blocks they take.
use Rattle.std.specs.Prelude.{◌≡◌, ◌+◌, ℕ, List, [], ◌∷◌}
use Rattle.tree_model.specs.declared.command.Command.{Command}
use Rattle.tree_model.specs.declared.reply.Reply.TheVariants.{Done}
use Rattle.tree_model.specs.Step.{step}
use Rattle.tree_model.specs.Tree.{Tree, new_tree}
use Rattle.op_log.specs.Record.{record_blocks}

pub record Kept : Type 0 where
  pub tree : Tree
  pub used : ℕ

-- the root directory alone, and an empty log
abbrev pub nothing_kept : Kept
nothing_kept = record { tree = new_tree; used = 0 }

-- one command more
abbrev pub and_command : Kept → Command → Kept
and_command kept command = record { tree = (step kept.tree command).1; used = kept.used + record_blocks command }

-- after these commands, the first of them first
abbrev pub after : List Command → Kept → Kept
after [] kept = kept
after (command ∷ commands) kept = after commands (and_command kept command)

-- the tree does the command, and refuses it not
abbrev pub IsDone : Kept → Command → Type 0
IsDone kept command = (step kept.tree command).0 ≡ Done

-- the tree does each of these commands in its turn
abbrev pub DoesEach : Kept → List Command → Type 0
DoesEach kept [] = Unit {0}
DoesEach kept (command ∷ commands) = IsDone kept command × DoesEach (and_command kept command) commands
