use Rattle.volume_model.proofs.PieceLaws.{pieces_are}
use Rattle.volume_model.proofs.laws.pieces_are.Goals as goal

pub returns : goal.returns
returns c = pieces_are
