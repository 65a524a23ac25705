use Rattle.image_model.proofs.InodesSeen.{inodes_are_seen}
use Rattle.image_model.proofs.planning.inodes_are_seen.Goals as goal

pub returns : goal.returns
returns c = inodes_are_seen
