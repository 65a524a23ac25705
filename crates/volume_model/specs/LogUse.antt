-- The blocks of the log that commands take.
use Rattle.std.specs.Prelude.{ℕ, List}
use Rattle.tree_model.specs.declared.command.Command.{Command}
use Rattle.op_log.specs.Log.{blocks_of}

-- the log blocks of the records of these commands together
abbrev pub log_use : List Command → ℕ
log_use commands = blocks_of commands
