use Rattle.point_plan.proofs.FreeBlocks.{free_now_is_free}
use Rattle.point_plan.proofs.free.free_now_is_free.Goals as goal

pub returns : goal.returns
returns c = free_now_is_free
