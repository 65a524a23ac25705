use Rattle.point_space.proofs.Given.{dirty_get_blocks}
use Rattle.point_space.proofs.laws.dirty_get_blocks.Goals as goal

pub returns : goal.returns
returns c = dirty_get_blocks
