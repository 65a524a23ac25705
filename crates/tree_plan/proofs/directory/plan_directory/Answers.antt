use Rattle.std.proofs.Common.{refl}
use Rattle.std.specs.Option.{option_copied}
use Rattle.block_format.specs.declared.inode.Inode.TheVariants.{Directory}
use Rattle.tree_plan.specs.Pages.{slots_or_none}
use Rattle.tree_plan.proofs.PageCounts.{no_top, none_at_most, none_paged}
use Rattle.tree_plan.proofs.PlannedLaws.{empty_directory}
use Rattle.tree_plan.proofs.directory.plan_directory.Goals as goal

pub returns-then-width-eq0-clause-planned : goal.returns-then-width-eq0-clause-planned
returns-then-width-eq0-clause-planned g c =
    empty_directory g.D.Disk.tells (g.D.Disk.state c.args.disk.now).contents c.args.store.now.overlay c.args.number c.width_now-width.result c.args.was.now (slots_or_none (option_copied c.args.left))
    c.if-width-eq0.true c.width_now-width.ensures.is c.without_blocks.result c.without_blocks.ensures.inode c.without_blocks.ensures.nothing c.without_blocks.ensures.dropped

pub returns-then-width-eq0-clause-at_most : goal.returns-then-width-eq0-clause-at_most
returns-then-width-eq0-clause-at_most g c = none_at_most g.D.Disk.tells (g.D.Disk.state c.args.disk.now).contents c.args.was.now c.without_blocks.result c.without_blocks.ensures.nothing

pub returns-then-width-eq0-clause-top : goal.returns-then-width-eq0-clause-top
returns-then-width-eq0-clause-top g c = no_top g.D.Disk.tells c.args.was.now (Directory c.width_now-width.result 0 0) refl c.without_blocks.result c.without_blocks.ensures.inode

pub returns-then-width-eq0-clause-used : goal.returns-then-width-eq0-clause-used
returns-then-width-eq0-clause-used g c = none_paged c.without_blocks.result c.without_blocks.ensures.nothing
