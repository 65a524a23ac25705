use Rattle.point_space.proofs.Unstaged.{metadata_is_counted}
use Rattle.point_space.proofs.laws.metadata_is_counted.Goals as goal

pub returns : goal.returns
returns c = metadata_is_counted c.at_rest.ensures c.pages_are_spelled.ensures
