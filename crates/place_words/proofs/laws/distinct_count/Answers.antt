use Rattle.place_words.proofs.Counting.{distinct_count}
use Rattle.place_words.proofs.laws.distinct_count.Goals as goal

pub returns : goal.returns
returns c = distinct_count
