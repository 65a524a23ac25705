use Rattle.point_plan.proofs.RoomLaws.{is_counted}
use Rattle.point_plan.proofs.plan_laws.gathered_is_counted.Goals as goal

pub returns : goal.returns
returns c = λ r m old blocks s g inodes shares holds sized gathered over after.
    is_counted r m old blocks s g inodes shares holds sized gathered over after c.dirty_get_blocks.ensures c.new_metadata_is.ensures
    c.old_inode_blocks_are.ensures c.inode_blocks_are.ensures c.metadata_is_counted.ensures c.some_numbers.ensures c.free_is_counted.ensures
