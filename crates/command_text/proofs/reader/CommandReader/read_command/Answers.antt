use Rattle.std.proofs.Common.{◌∙◌, ap, sym}
use Rattle.command_text.specs.Reading.{Reading, unread}
use Rattle.command_text.proofs.ReadLemmas.{over_ends, settled_next, settled_falls, settled_holds}
use Rattle.command_text.proofs.reader.CommandReader.read_command.Goals as goal

pub returns-clause-falls : goal.returns-clause-falls
returns-clause-falls g c = settled_falls c.args.self.now c.read_on.new.self (g.R.Source.seen c.args.source.now) (g.R.Source.seen c.read_on.new.source) c.read_on.result c.read_on.ensures.reads

pub returns-clause-reads : goal.returns-clause-reads
returns-clause-reads g c no_fault told = settled_next c.args.self.now c.read_on.new.self (g.R.Source.seen c.args.source.now) (g.R.Source.seen c.read_on.new.source) c.read_on.result c.read_on.ensures.reads (ap (λ (r : Reading). r.is_over) (sym c.self.view_is) ∙ c.if-self.false) told

pub returns-then-self-clause-reads : goal.returns-then-self-clause-reads
returns-then-self-clause-reads g c no_fault told = over_ends (unread c.args.self.now (g.R.Source.seen c.args.source.now)) (ap (λ (r : Reading). r.is_over) (sym c.self.view_is) ∙ c.if-self.true)

pub returns-clause-holds : goal.returns-clause-holds
returns-clause-holds g c few = settled_holds c.args.self.now c.read_on.new.self (g.R.Source.seen c.args.source.now) (g.R.Source.seen c.read_on.new.source) c.read_on.result c.read_on.ensures.reads few
