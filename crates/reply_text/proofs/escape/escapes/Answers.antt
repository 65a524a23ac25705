use Rattle.reply_text.proofs.EscapeLemmas.{set_is, controls_and_two}
use Rattle.reply_text.proofs.escape.escapes.Goals as goal

pub returns : goal.returns
returns c = set_is c.add-2.result (controls_and_two c.add.result c.add-2.result c.add.ensures.added c.add.ensures.others c.add-2.ensures.added c.add-2.ensures.others)
