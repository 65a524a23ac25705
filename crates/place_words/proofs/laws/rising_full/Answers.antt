use Rattle.place_words.proofs.Rising.{rising_full}
use Rattle.place_words.proofs.laws.rising_full.Goals as goal

pub returns : goal.returns
returns c = rising_full
