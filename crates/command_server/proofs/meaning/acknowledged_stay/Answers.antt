use Rattle.command_server.proofs.StayLemmas.{acknowledged_stay}
use Rattle.command_server.proofs.meaning.acknowledged_stay.Goals as goal

pub returns : goal.returns
returns c = acknowledged_stay
