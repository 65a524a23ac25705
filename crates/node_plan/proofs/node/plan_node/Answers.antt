use Rattle.std.proofs.Common.{◌≡◌, ◌≤◌, ℕ, true, Err, sym, subst}
use Rattle.std.specs.Prelude.{IsTrue}
use Rattle.std.specs.Option.{option_copied}
use Rattle.vol_numbers.specs.Geometry.{layout_of}
use Rattle.disk_model.specs.Disk.{State}
use Rattle.disk_model.proofs.Moments.{adds_read}
use Rattle.block_tree.specs.Causes.{IfTreeDamaged}
use Rattle.block_tree.specs.Root.{tree_indexes}
use Rattle.block_tree.specs.Tree.{blocks_in}
use Rattle.block_tree.specs.declared.root.TreeRoot.{TreeRoot}
use Rattle.place_words.specs.Different.{is_among}
use Rattle.node_plan.specs.Nodes.{IsTreePlanned}
use Rattle.tree_plan.specs.Pages.{slots_or_none}
use Rattle.tree_plan.specs.Trees.{root_of, IsOldIndex}
use Rattle.node_plan.proofs.CountedLaws.{before_counted, now_counted, pages_counted}
use Rattle.node_plan.proofs.FaultLaws.{damage_after, tree_to_node, node_to_node, node_known}
use Rattle.node_plan.proofs.NodeLaws.{shape_low}
use Rattle.node_plan.proofs.node.plan_node.Goals as goal

pub index_count_with-indexes-requires-clause-height : goal.index_count_with-indexes-requires-clause-height
index_count_with-indexes-requires-clause-height g c = subst (λ (t : TreeRoot). t.height ≤ 2) (sym c.root_of-root.ensures) (shape_low c.in_ok-plan.plan.inode c.in_ok-plan.ensures.plan.shape)

pub returns-clause-shape : goal.returns-clause-shape
returns-clause-shape g c = c.in_ok-plan.ensures.plan.shape

pub returns-clause-kind : goal.returns-clause-kind
returns-clause-kind g c = c.in_ok-plan.ensures.plan.kind

pub returns-clause-used : goal.returns-clause-used
returns-clause-used g c = c.in_ok-plan.ensures.plan.used

pub returns-clause-planned : goal.returns-clause-planned
returns-clause-planned g c tells =
    let p = c.in_ok-plan.plan in
    let before = slots_or_none (option_copied c.args.left) in
    let plan = subst (λ (s : State). IsTreePlanned g.D.Disk.tells s.contents c.args.store.now.overlay c.args.number c.args.was.now before c.args.changes.now p) (c.in_ok-indexes_before.ensures.same tells) c.in_ok-plan.ensures.plan in
    plan.planned tells

pub returns-clause-metadata_before : goal.returns-clause-metadata_before
returns-clause-metadata_before g c tells r m at =
    before_counted g.D.Disk.tells (g.D.Disk.state c.args.disk.now).contents c.args.store.now.overlay c.args.number c.args.was.now (slots_or_none (option_copied c.args.left)) r m at
    c.root_of-root_before.result c.in_ok-indexes_before.indexes_before c.own_pages-own_before.result c.root_of-root_before.ensures (c.in_ok-indexes_before.ensures.count tells) c.own_pages-own_before.ensures.is

pub returns-clause-metadata : goal.returns-clause-metadata
returns-clause-metadata g c tells r m at new live stand =
    let p = c.in_ok-plan.plan in
    let before = slots_or_none (option_copied c.args.left) in
    let plan = subst (λ (s : State). IsTreePlanned g.D.Disk.tells s.contents c.args.store.now.overlay c.args.number c.args.was.now before c.args.changes.now p) (c.in_ok-indexes_before.ensures.same tells) c.in_ok-plan.ensures.plan in
    now_counted g.D.Disk.tells (g.D.Disk.state c.args.disk.now).contents c.args.store.now.overlay c.args.number c.args.was.now before c.args.changes.now p plan tells
    c.root_of-root_before.result c.root_of-root.result c.as_slice-pages.result.now c.in_ok-indexes_before.indexes_before c.index_count_with-indexes.result c.own_pages-own.result
    c.root_of-root_before.ensures c.root_of-root.ensures c.as_slice-pages.ensures (c.in_ok-indexes_before.ensures.count tells) c.index_count_with-indexes.ensures.count c.own_pages-own.ensures.is r m at new live stand

pub returns-clause-at_most : goal.returns-clause-at_most
returns-clause-at_most g c tells r m at new live stand =
    let p = c.in_ok-plan.plan in
    let before = slots_or_none (option_copied c.args.left) in
    let plan = subst (λ (s : State). IsTreePlanned g.D.Disk.tells s.contents c.args.store.now.overlay c.args.number c.args.was.now before c.args.changes.now p) (c.in_ok-indexes_before.ensures.same tells) c.in_ok-plan.ensures.plan in
    pages_counted g.D.Disk.tells (g.D.Disk.state c.args.disk.now).contents c.args.store.now.overlay c.args.number c.args.was.now before c.args.changes.now p plan tells
    c.root_of-root_before.result c.root_of-root.result c.as_slice-pages.result.now c.in_ok-indexes_before.indexes_before c.index_count_with-indexes.result c.own_pages-own.result
    c.root_of-root_before.ensures c.root_of-root.ensures c.as_slice-pages.ensures (c.in_ok-indexes_before.ensures.count tells) c.index_count_with-indexes.ensures.count c.own_pages-own.ensures.is r m at new live stand

pub returns-clause-moments : goal.returns-clause-moments
returns-clause-moments g c tells = adds_read (c.in_ok-indexes_before.ensures.moments tells) (c.in_ok-indexes_before.ensures.same tells) (c.in_ok-plan.ensures.moments tells)

pub returns-in_err-plan-clause-moments : goal.returns-in_err-plan-clause-moments
returns-in_err-plan-clause-moments g c tells = adds_read (c.in_ok-indexes_before.ensures.moments tells) (c.in_ok-indexes_before.ensures.same tells) (c.in_err-plan.ensures.moments tells)

pub returns-in_err-plan-clause-damaged : goal.returns-in_err-plan-clause-damaged
returns-in_err-plan-clause-damaged g c =
    damage_after (layout_of c.args.g.now) g.D.Disk.tells (blocks_in (g.D.Disk.state c.plan_tree.new.disk).contents) (g.D.Disk.given c.args.disk.now) (g.D.Disk.given c.index_count.new.disk) (g.D.Disk.given c.plan_tree.new.disk)
    c.from_residual-in_err-plan.result c.in_err-plan.field-0.0 c.from_residual-in_err-plan.ensures.1 c.in_ok-indexes_before.ensures.damaged c.in_err-plan.ensures.damaged

pub returns-in_err-indexes_before-clause-among : goal.returns-in_err-indexes_before-clause-among
returns-in_err-indexes_before-clause-among g c b is =
    let old = (g.D.Disk.state c.args.disk.now).contents in
    let r = c.from_residual.result in
    let fault = c.in_err-indexes_before.field-0.0 in
    let damaged =
    subst (λ (t : TreeRoot). IfTreeDamaged {T = ℕ} (Err fault) (λ x. IsTrue g.D.Disk.tells → is_among (tree_indexes (blocks_in old) t) x ≡ true)) c.root_of-root_before.ensures c.in_err-indexes_before.ensures.among in
    node_known r (IsOldIndex g.D.Disk.tells old c.args.was.now) b (tree_to_node r fault (IsOldIndex g.D.Disk.tells old c.args.was.now) c.from_residual.ensures.1 damaged) is

pub returns-in_err-plan-clause-among : goal.returns-in_err-plan-clause-among
returns-in_err-plan-clause-among g c b is tells =
    let between = (g.D.Disk.state c.index_count.new.disk).contents in
    let r = c.from_residual-in_err-plan.result in
    let fact = IsOldIndex g.D.Disk.tells between c.args.was.now in
    subst (λ (s : State). is_among (tree_indexes (blocks_in s.contents) (root_of c.args.was.now)) b ≡ true) (c.in_ok-indexes_before.ensures.same tells)
    (node_known r fact b (node_to_node r c.in_err-plan.field-0.0 fact c.from_residual-in_err-plan.ensures.1 c.in_err-plan.ensures.among) is tells)
