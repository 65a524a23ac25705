use Rattle.place_words.proofs.Totals.{different_part}
use Rattle.place_words.proofs.laws.different_part.Goals as goal

pub returns : goal.returns
returns c = different_part
