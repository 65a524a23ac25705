use Rattle.place_words.proofs.Totals.{different_same}
use Rattle.place_words.proofs.laws.different_same.Goals as goal

pub returns : goal.returns
returns c = different_same
