use Rattle.std.specs.Option.{option_copied}
use Rattle.tree_plan.specs.Pages.{slots_or_none}
use Rattle.node_plan.proofs.NodeLaws.{unused_planned}
use Rattle.node_plan.proofs.kinds.plan_unused.Goals as goal

pub returns-clause-plan : goal.returns-clause-plan
returns-clause-plan g c =
    let p = c.in_ok-plan.ensures in
    unused_planned g.D.Disk.tells (g.D.Disk.state c.args.disk.now).contents c.args.store.now.overlay c.args.number c.args.was.now (slots_or_none (option_copied c.args.left)) c.args.changes.now c.in_ok-plan.plan
    c.requires.now p.unused p.nothing p.tree p.pointers
