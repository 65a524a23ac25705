use Rattle.std.proofs.Common.{◌≡◌, ◌∙◌, ℕ, List, get_or, ap, arith}
use Rattle.tree_model.specs.declared.command.Command.{Command}
use Rattle.op_log.specs.Log.{blocks_of}
use Rattle.op_log.specs.Record.{record_blocks}
use Rattle.op_log.proofs.LogLemmas.{blocks_of-more}
use Rattle.op_log.proofs.blocks.blocks_of.Goals as goal

pub overflow_add-blocks : goal.overflow_add-blocks
overflow_add-blocks c =
    let items : List Command = c.as_slice-command-items.result.now in
    let i : ℕ = c.loop-command.command-index in
    let more = blocks_of-more items i c.command-item.result c.loop-command-test.true in
    let count : c.record_blocks-blocks.result ≡ record_blocks (get_or items i c.command-item.result) = c.record_blocks-blocks.ensures.is ∙ ap record_blocks c.command-item.is in
    omega (arith, more.0, more.1, count, c.loop-command.invariant, c.requires.fits, ap blocks_of c.as_slice-command-items.ensures)

pub loop-command-preserved : goal.loop-command-preserved
loop-command-preserved c =
    let items : List Command = c.as_slice-command-items.result.now in
    let i : ℕ = c.loop-command.command-index in
    let more = blocks_of-more items i c.command-item.result c.loop-command-test.true in
    let count : c.record_blocks-blocks.result ≡ record_blocks (get_or items i c.command-item.result) = c.record_blocks-blocks.ensures.is ∙ ap record_blocks c.command-item.is in
    omega (arith, more.0, count, c.loop-command.invariant)
