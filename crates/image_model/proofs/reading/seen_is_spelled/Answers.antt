use Rattle.image_model.proofs.SpelledBack.{seen_is_spelled}
use Rattle.image_model.proofs.reading.seen_is_spelled.Goals as goal

pub returns : goal.returns
returns c = seen_is_spelled
