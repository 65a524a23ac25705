use Rattle.space_account.proofs.ChargeLaws.{charges_places}
use Rattle.space_account.proofs.laws.charges_each_place.Goals as goal

pub returns : goal.returns
returns c = charges_places
