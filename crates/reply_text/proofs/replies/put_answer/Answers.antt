use Rattle.reply_text.proofs.ListPuts.{let_out}
use Rattle.reply_text.proofs.replies.put_answer.Goals as goal

pub returns-in-Ok-clause-text : goal.returns-in-Ok-clause-text
returns-in-Ok-clause-text g c = let_out (g.W.Sink.seen c.flush.new.sink) c.flush.result c.requires.empty c.in-Ok.ensures.text c.flush.ensures.whole c.flush.ensures.part
