use Rattle.point_plan.proofs.ShortLaws.{short_points}
use Rattle.point_plan.proofs.plan_laws.short_points.Goals as goal

pub returns : goal.returns
returns c = short_points c.dirty_get_blocks.ensures c.new_metadata_is.ensures c.rough_needs.ensures c.short_where.ensures c.free_is_counted.ensures
