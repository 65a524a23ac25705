-- What memory has become once a plan is put together. These words are for private functions.
use Rattle.std.specs.Prelude.{◌≡◌, ◌≤◌, ℕ, ◌+◌, ◌-◌, length}
use Rattle.block_tree.specs.declared.plan.Rewritten.{Rewritten}
use Rattle.held_list.specs.Held.{slots_at}
use Rattle.inode_file.specs.Counting.{used_positions}
use Rattle.point_plan.specs.Directories.{slots_after, slots_then}
use Rattle.point_plan.specs.Gathered.{metadata_given, metadata_had}
use Rattle.point_plan.specs.Nodes.{planned_of}
use Rattle.point_plan.specs.Planning.{IsNextRoot}
use Rattle.point_plan.specs.PutTogether.{AreCountsRenewed, AreInodesRenewed, made_plan}
use Rattle.point_plan.specs.declared.gathering.Gathered.{Gathered}
use Rattle.point_plan.specs.declared.planned.Plan.{Plan}
use Rattle.point_plan.specs.declared.state.PointState.{PointState}

-- how many blocks there may be for the metadata of before and all that is free
abbrev pub room_had : PointState → Gathered → ℕ
room_had s g = g.free + (metadata_had g.nodes + used_positions s.inodes.inodes)

-- how many are needed besides the inode blocks of after, with 16 more
abbrev pub room_needed : PointState → Gathered → ℕ
room_needed s g = s.metadata + metadata_given g.nodes + g.dirty + 16

-- On every disk: the plan is that of what was gathered. Memory has the inodes, the counts, the directories and the metadata of after it. There is room.
pub record IsPutFrom (s after : PointState) (g : Gathered) (plan : Plan) : Type 0 where
  pub rewritten : Rewritten
  pub is : plan ≡ made_plan g rewritten plan.root 0
  pub rest : after ≡ record s { inodes = after.inodes; counts = after.counts; directories = after.directories; metadata = after.metadata }
  pub inodes : AreInodesRenewed s after.inodes g rewritten
  pub counts : AreCountsRenewed s.counts.counts after.counts.counts g rewritten
  pub touched : length after.counts.touched ≡ length s.counts.touched
  pub next : IsNextRoot s after plan
  pub directories : (n : ℕ) → slots_at after.directories n ≡ slots_after (slots_then s.directories s.dirty.overlay) (planned_of g.nodes n) (slots_at s.directories n)
  pub room : room_needed s g + used_positions after.inodes.inodes ≤ room_had s g
  pub metadata : after.metadata ≡ (s.metadata + metadata_given g.nodes + used_positions after.inodes.inodes) - (metadata_had g.nodes + used_positions s.inodes.inodes)
