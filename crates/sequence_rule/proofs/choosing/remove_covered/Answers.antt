use Rattle.std.proofs.Common.{not, rules}
use Rattle.std.proofs.lemmas.Fn.{filter_same}
use Rattle.volume_model.specs.Selection.{covers}
use Rattle.sequence_rule.specs.declared.matched.PlaceMatches.{PlaceMatches}
use Rattle.sequence_rule.proofs.choosing.remove_covered.Goals as goal

pub returns : goal.returns
returns c = filter_same _ (λ (r : PlaceMatches). not (covers c.args.sequence r.place)) _ (λ x b f r. search rules) _ _ c.retain.ensures.filtered
