use Rattle.std.proofs.Common.{sym, subst}
use Rattle.reply_text.specs.Putting.{PutsText}
use Rattle.command_server.specs.Texts.{finding_text}
use Rattle.log_volume.specs.declared.finding.Finding.{Finding}
use Rattle.command_server.proofs.reply.put_finding.Goals as goal

pub returns-in-BadLog-clause-text : goal.returns-in-BadLog-clause-text
returns-in-BadLog-clause-text g c = subst (λ (f : Finding). PutsText (g.W.Sink.seen c.args.sink.now) (g.W.Sink.seen c.put_bad_log.new.sink) (finding_text f) c.put_bad_log.result) (sym c.in-BadLog.is) c.put_bad_log.ensures.text
