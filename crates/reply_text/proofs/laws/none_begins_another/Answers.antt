use Rattle.reply_text.proofs.AnswerLemmas.{none_begins}
use Rattle.reply_text.proofs.laws.none_begins_another.Goals as goal

pub returns : goal.returns
returns c = none_begins
