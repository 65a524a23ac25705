use Rattle.std.proofs.Common.{◌≡◌, take}
use Rattle.op_log.specs.Log.{blocks_of}
use Rattle.op_log.proofs.blocks.blocks_of.Given as goal

abbrev pub invariant-loop-command : goal.invariant-loop-command
invariant-loop-command l = l.blocks ≡ blocks_of (take l.command-index l.command-items)
