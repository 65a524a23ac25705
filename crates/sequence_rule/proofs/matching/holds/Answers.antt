use Rattle.std.proofs.Common.{◌∙◌}
use Rattle.sequence_rule.proofs.Bytes.{read_holds}
use Rattle.sequence_rule.proofs.matching.holds.Goals as goal

pub returns-clause-holds : goal.returns-clause-holds
returns-clause-holds g c tells = c.is_same.ensures ∙ read_holds (g.D.Disk.state c.args.disk.now).contents c.args.at c.args.block.now c.read_block.new.into (c.in_ok-read_block.ensures.read tells)
