use Rattle.std.proofs.Common.{◌≡◌, List, sym, ap, subst, ◌∙◌}
use Rattle.std.specs.Prelude.{All}
use Rattle.vol_numbers.specs.Geometry.{layout_of}
use Rattle.inode_file.specs.Inodes.{inode_of}
use Rattle.point_plan.specs.Gathered.{IsWholeIn}
use Rattle.point_plan.specs.Nodes.{inode_or, planned_of}
use Rattle.point_plan.specs.declared.planned_node.PlannedNode.{PlannedNode}
use Rattle.point_plan.specs.declared.state.PointState.{PointState}
use Rattle.point_plan.proofs.AreaLaws.{left_in_area}
use Rattle.point_plan.proofs.HeldLaws.{same_list}
use Rattle.point_plan.proofs.preparing.prepare.Goals as goal

pub returns-in-Ok-clause-inodes : goal.returns-in-Ok-clause-inodes
returns-in-Ok-clause-inodes c =
    let is = c.in-Ok.ensures in
    let s : PointState = c.args.state.now in
    let same : c.as_slice-nodes.result.now ≡ c.args.gathered.now.nodes = c.as_slice-nodes.ensures in
    record {
      whole = is.whole;
      settled = is.settled;
      inodes = λ n. is.inodes n ∙ ap (λ (ps : List PlannedNode). inode_or (planned_of ps n) (inode_of s.inodes.inodes n)) same;
      stored = is.stored;
      some = is.some;
      pointers = is.pointers;
      within = is.within (layout_of s.geometry) c.requires.size.within (left_in_area s c.args.gathered.now c.requires.gathered) (subst (λ (ps : List PlannedNode). All (IsWholeIn s) ps) (sym same) c.requires.gathered.nodes.whole);
      added = is.added;
      rest = c.renew_inodes.new.free;
      taken = is.taken;
    }

pub returns-in-Err-clause-unchanged : goal.returns-in-Err-clause-unchanged
returns-in-Err-clause-unchanged c =
    let s : PointState = c.args.state.now in
    let inodes : c.renew_inodes.new.inodes ≡ s.inodes = c.in-Err.ensures.unchanged in
    let directories : c.take_back.new.directories ≡ s.directories =
    same_list c.take_back.new.directories s.directories c.as_slice.ensures.order c.in_ok-add_directories.ensures.order (λ n. c.take_back.ensures n ∙ c.in_ok-add_directories.ensures.back n) in
    λ i. record s { inodes = inodes i; directories = directories i }
