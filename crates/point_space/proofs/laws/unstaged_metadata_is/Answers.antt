use Rattle.point_space.proofs.Unstaged.{unstaged_metadata_is}
use Rattle.point_space.proofs.laws.unstaged_metadata_is.Goals as goal

pub returns : goal.returns
returns c = unstaged_metadata_is c.at_rest.ensures c.pages_are_spelled.ensures
