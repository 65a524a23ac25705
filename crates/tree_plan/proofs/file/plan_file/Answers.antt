use Rattle.std.proofs.Common.{◌≡◌, true, Err, refl, ap, subst, arith}
use Rattle.block_format.specs.Inode.{blocks_of}
use Rattle.block_format.specs.declared.inode.Inode.TheVariants.{File}
use Rattle.block_tree.specs.Notes.{page_blocks}
use Rattle.block_tree.specs.Root.{tree_indexes}
use Rattle.block_tree.specs.Tree.{blocks_in}
use Rattle.block_tree.specs.declared.fault.TreeFault.{TreeFault}
use Rattle.block_tree.specs.declared.root.TreeRoot.{TreeRoot}
use Rattle.place_words.specs.Different.{is_among}
use Rattle.tree_plan.specs.Trees.{IsOldIndex}
use Rattle.tree_plan.proofs.CutLaws.{map_within}
use Rattle.tree_plan.proofs.FaultLaws.{tree_known}
use Rattle.tree_plan.proofs.MetaLaws.{file_pointers}
use Rattle.tree_plan.proofs.PageCounts.{GivesPages, file_at_most, no_top, none_at_most, none_used}
use Rattle.tree_plan.proofs.TreeLaws.{empty_file, tree_planned, GivesMap, GivesFull, GivesPointers, GivesIndexes}
use Rattle.tree_plan.proofs.file.plan_file.Goals as goal

pub rewrite-requires-clause-kept : goal.rewrite-requires-clause-kept
rewrite-requires-clause-kept g c tells p lt le small = absurd (omega (arith, c.cut_within-cut.ensures, lt, le))

pub returns-then-size-eq0-clause-tree : goal.returns-then-size-eq0-clause-tree
returns-then-size-eq0-clause-tree g c =
    empty_file g.D.Disk.tells (g.D.Disk.state c.args.disk.now).contents c.args.was.now c.args.size c.args.cut_to c.args.changes.now c.if-size-eq0.true c.requires.changes c.without_blocks.result c.without_blocks.ensures.inode

pub returns-then-size-eq0-clause-at_most : goal.returns-then-size-eq0-clause-at_most
returns-then-size-eq0-clause-at_most g c = none_at_most g.D.Disk.tells (g.D.Disk.state c.args.disk.now).contents c.args.was.now c.without_blocks.result c.without_blocks.ensures.nothing

pub returns-then-size-eq0-clause-top : goal.returns-then-size-eq0-clause-top
returns-then-size-eq0-clause-top g c = no_top g.D.Disk.tells c.args.was.now (File c.args.size 0 0) refl c.without_blocks.result c.without_blocks.ensures.inode

pub returns-then-size-eq0-clause-used : goal.returns-then-size-eq0-clause-used
returns-then-size-eq0-clause-used g c = none_used c.args.changes.now c.without_blocks.result c.without_blocks.ensures.nothing

pub returns-clause-tree : goal.returns-clause-tree
returns-clause-tree g c tells ends full new carries =
    let old = (g.D.Disk.state c.args.disk.now).contents in
    let w = c.in_ok-made.made in
    let cut = c.cut_within-cut.result in
    let places = subst (GivesMap (blocks_in old) cut c.args.changes.now w.pages w.root) c.root_of-root.ensures (c.in_ok-made.ensures.map tells) in
    let whole = subst (GivesFull (blocks_in old) w.pages w.root) c.root_of-root.ensures (c.in_ok-made.ensures.full tells) in
    tree_planned old new c.args.was.now (File c.args.size w.root.height w.root.ptr) c.args.cut_to c.args.changes.now c.requires.changes ends
    (map_within old c.args.was.now c.args.cut_to cut (blocks_of c.args.size) c.args.changes.now _ c.cut_within-cut.ensures ends (places (blocks_in new) carries.stand carries.stays))
    (whole (blocks_in new) carries.stand carries.stays full)

pub returns-clause-pointers : goal.returns-clause-pointers
returns-clause-pointers g c tells n new carries =
    let old = (g.D.Disk.state c.args.disk.now).contents in
    let w = c.in_ok-made.made in
    let balance = subst (GivesPointers (blocks_in old) w.pages w.added w.dropped w.root) c.root_of-root.ensures (c.in_ok-made.ensures.pointers tells) in
    let indexes = subst (GivesIndexes (blocks_in old) w.pages (page_blocks w.pages) w.root) c.root_of-root.ensures (c.in_ok-made.ensures.indexes tells) in
    file_pointers old new n c.args.size w.root.height w.root.ptr c.args.was.now w.added w.dropped (page_blocks w.pages)
    (balance (blocks_in new) carries.stand carries.stays) (indexes (blocks_in new) carries.stand carries.stays)

pub returns-clause-at_most : goal.returns-clause-at_most
returns-clause-at_most g c tells n new carries =
    let old = (g.D.Disk.state c.args.disk.now).contents in
    let w = c.in_ok-made.made in
    let pages = subst (GivesPages (blocks_in old) w.pages (page_blocks w.pages) w.root) c.root_of-root.ensures (c.in_ok-made.ensures.pages tells) in
    file_at_most new n c.args.size w.root.height w.root.ptr (page_blocks w.pages) (pages (blocks_in new) carries.stand carries.stays)

pub returns-clause-top : goal.returns-clause-top
returns-clause-top g c tells two some none =
    let w = c.in_ok-made.made in
    subst (λ (r : TreeRoot). (r.height ≡ 2) × (w.root.ptr ≡ r.ptr)) c.root_of-root.ensures (c.in_ok-made.ensures.top tells two some none)

pub returns-in_err-made-clause-among : goal.returns-in_err-made-clause-among
returns-in_err-made-clause-among g c =
    let old = (g.D.Disk.state c.args.disk.now).contents in
    tree_known c.from_residual.result c.in_err-made.field-0.0 (IsOldIndex g.D.Disk.tells old c.args.was.now) c.from_residual.ensures.1
    (λ b e tells. subst (λ (r : TreeRoot). is_among (tree_indexes (blocks_in old) r) b ≡ true) c.root_of-root.ensures (c.in_err-made.ensures.among b (ap (λ (f : TreeFault). Err f) e) tells))
