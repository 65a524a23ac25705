use Rattle.std.proofs.Common.{◌++◌, List, ℕ, subst}
use Rattle.std.specs.Prelude.{codes}
use Rattle.reply_text.specs.Putting.{PutsText}
use Rattle.reply_text.proofs.ListPuts.{let_out}
use Rattle.reply_text.proofs.replies.put_written.Goals as goal

pub returns-in-Ok-clause-text : goal.returns-in-Ok-clause-text
returns-in-Ok-clause-text g c =
    subst (λ (l : List ℕ). PutsText (g.W.Sink.seen c.args.sink.now) (g.W.Sink.seen c.flush.new.sink) (l ++ (c.args.bytes.now ++ codes "\n")) c.flush.result) c.as_bytes.ensures.value
    (let_out (g.W.Sink.seen c.flush.new.sink) c.flush.result c.new-buffer.ensures c.in-Ok.ensures.text c.flush.ensures.whole c.flush.ensures.part)
