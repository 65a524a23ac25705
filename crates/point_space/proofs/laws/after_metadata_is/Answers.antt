use Rattle.point_space.proofs.AfterMetadata.{after_metadata_is}
use Rattle.point_space.proofs.laws.after_metadata_is.Goals as goal

pub returns : goal.returns
returns c = after_metadata_is
