use Rattle.point_space.proofs.PageImages.{pages_may_stand}
use Rattle.point_space.proofs.laws.pages_may_stand.Goals as goal

pub returns : goal.returns
returns c = pages_may_stand
