use Rattle.std.proofs.Common.{◌∙◌, sym}
use Rattle.content_model.proofs.Order.{behind_place, behind_none}
use Rattle.content_model.proofs.plain_cache.behind.Goals as goal

pub returns-in-Some : goal.returns-in-Some
returns-in-Some c = c.block_at.ensures ∙ behind_place c.args.block c.in-Some.place c.args.pairs.now (sym c.place_of.ensures ∙ c.in-Some.is)

pub returns-in-None : goal.returns-in-None
returns-in-None c = behind_none c.args.block c.args.pairs.now (sym c.place_of.ensures ∙ c.in-None.is)
