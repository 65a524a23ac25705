use Rattle.std.specs.Option.{option_copied}
use Rattle.tree_plan.specs.Pages.{slots_or_none}
use Rattle.node_plan.proofs.NodeLaws.{names_planned, slots_fit}
use Rattle.node_plan.proofs.kinds.plan_names.Goals as goal

pub returns-clause-plan : goal.returns-clause-plan
returns-clause-plan g c =
    let p = c.in_ok-plan.ensures in
    names_planned g.D.Disk.tells (g.D.Disk.state c.args.disk.now).contents c.args.store.now.overlay c.args.number c.args.was.now (slots_or_none (option_copied c.args.left)) c.args.changes.now c.in_ok-plan.plan
    (slots_or_none (option_copied c.left_now-left.result)) c.left_now-left.ensures c.requires.now c.requires.slots p.inode p.shape p.planned p.at_most p.top p.used

pub written_pages-requires : goal.written_pages-requires
written_pages-requires g c = slots_fit c.args.store.now.overlay c.args.number (slots_or_none (option_copied c.args.left)) c.requires.slots

pub plan_directory-requires-clause-slots : goal.plan_directory-requires-clause-slots
plan_directory-requires-clause-slots g c = slots_fit c.args.store.now.overlay c.args.number (slots_or_none (option_copied c.args.left)) c.requires.slots
