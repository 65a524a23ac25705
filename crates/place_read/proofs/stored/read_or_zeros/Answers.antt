use Rattle.std.proofs.Common.{◌∙◌, ap, sym}
use Rattle.vol_numbers.specs.declared.block.Block.{Block}
use Rattle.block_tree.specs.Tree.{blocks_in}
use Rattle.block_tree.proofs.EntryLaws.{block_read}
use Rattle.place_read.proofs.BlockLaws.{zero_bytes, none_at, some_at}
use Rattle.place_read.proofs.stored.read_or_zeros.Goals as goal

pub returns-then-at-eq0-clause-read : goal.returns-then-at-eq0-clause-read
returns-then-at-eq0-clause-read g c tells =
    ap (λ (b : Block). b.bytes) c.zero.ensures ∙ sym (none_at (blocks_in (g.D.Disk.state c.args.disk.now).contents) c.args.at c.if-at-eq0.true ∙ zero_bytes)

pub returns-in-Ok-clause-read : goal.returns-in-Ok-clause-read
returns-in-Ok-clause-read g c tells =
    sym (some_at (blocks_in (g.D.Disk.state c.args.disk.now).contents) c.args.at c.if-at-eq0.false
    ∙ block_read (g.D.Disk.state c.args.disk.now).contents c.args.at c.read_block.new.into (c.in-Ok.ensures.read tells))
