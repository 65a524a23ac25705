use Rattle.std.proofs.Common.{ℕ, List, subst}
use Rattle.std.specs.Prelude.{IsTrue}
use Rattle.std.specs.Option.{option_copied}
use Rattle.vol_numbers.specs.declared.block.Block.{Block}
use Rattle.block_format.specs.Inode.{blocks_of}
use Rattle.point_model.specs.NodePlan.{TreeIsPlanned}
use Rattle.tree_plan.specs.Pages.{slots_or_none}
use Rattle.tree_plan.specs.Trees.{EndsAt, IsFullTree, Carries}
use Rattle.node_plan.proofs.NodeLaws.{bytes_planned}
use Rattle.node_plan.proofs.NeedLaws.{file_places}
use Rattle.node_plan.proofs.kinds.plan_bytes.Goals as goal

pub returns-clause-plan : goal.returns-clause-plan
returns-clause-plan g c =
    let p = c.in_ok-plan.ensures in
    let old = (g.D.Disk.state c.args.disk.now).contents in
    let was = c.args.was.now in
    let plan = c.in_ok-plan.plan in
    let tree = subst (λ (k : ℕ). IsTrue g.D.Disk.tells → EndsAt old was k (blocks_of c.args.size) → IsFullTree old was → (new : List Block) → Carries old new was plan.pages → TreeIsPlanned old new was plan.inode k c.args.changes.now) c.cut_to-cut_to.ensures p.tree in
    bytes_planned g.D.Disk.tells old c.args.store.now.overlay c.args.number was (slots_or_none (option_copied c.args.left)) c.args.changes.now plan
    c.args.size c.requires.now p.inode p.shape tree p.pointers p.at_most p.top p.used

pub leaf_count-requires : goal.leaf_count-requires
leaf_count-requires g c = file_places c.args.size c.args.changes.now c.requires.size c.requires.places
