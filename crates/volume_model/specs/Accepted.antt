-- Commands that are accepted one after the other, and the room that one more has.
use Rattle.std.specs.Prelude.{◌≡◌, ◌≤◌, ℕ, ◌+◌, List, [], ◌∷◌}
use Rattle.vol_numbers.specs.Layout.{IsValid}
use Rattle.tree_model.specs.declared.command.Command.{Command}
use Rattle.tree_model.specs.declared.reply.Reply.TheVariants as reply
use Rattle.tree_model.specs.Step.{step}
use Rattle.tree_model.specs.Tree.{Tree}
use Rattle.op_log.specs.Record.{HasRecord, record_blocks}
use Rattle.space_account.specs.Charge.{charge, need, pending}
use Rattle.volume_model.specs.LogUse.{log_use}
use Rattle.volume_model.specs.Machine.{Machine, free_of}

-- The tree does each command in its turn, and the charges before it, its charge and its reserve are together no more than is free.
abbrev pub Accepts : ℕ → Tree → ℕ → List Command → Type 0
Accepts free tree charged [] = Unit {0}
Accepts free tree charged (command ∷ commands) =
    ((step tree command).0 ≡ reply.Done) × (charged + need command ≤ free) × Accepts free (step tree command).1 (charged + charge command) commands

-- What is pending, the command's charge and its reserve are together no more than is free. In a valid layout its record fits into the log behind
-- the others, if it has one.
pub record HasRoom (m : Machine) (command : Command) : Type 0 where
  pub space : pending m.records + need command ≤ free_of m
  pub log : IsValid m.layout → HasRecord command → log_use m.records + record_blocks command ≤ m.layout.log_blocks
