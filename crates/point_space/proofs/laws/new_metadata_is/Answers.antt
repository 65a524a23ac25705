use Rattle.point_space.proofs.NewMetadata.{new_metadata_is}
use Rattle.point_space.proofs.laws.new_metadata_is.Goals as goal

pub returns : goal.returns
returns c = new_metadata_is
