use Rattle.place_words.proofs.Totals.{total_same}
use Rattle.place_words.proofs.laws.total_same.Goals as goal

pub returns : goal.returns
returns c = total_same
