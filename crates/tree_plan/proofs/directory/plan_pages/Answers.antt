use Rattle.std.proofs.Common.{◌≡◌, ◌≤◌, ◌++◌, ◌*◌, ℕ, List, length, true, Err, ap, sym, subst, inl, inr, ⊎_elim, ◌∙◌, append_assoc, arith}
use Rattle.std.specs.Prelude.{min}
use Rattle.std.proofs.lemmas.List.{map-append}
use Rattle.vol_numbers.specs.declared.runs.Page.{Page}
use Rattle.block_format.specs.Inode.{blocks_of}
use Rattle.block_format.specs.declared.inode.Inode.TheVariants.{Directory}
use Rattle.block_tree.specs.Notes.{Stand, page_blocks}
use Rattle.block_tree.specs.Root.{tree_indexes}
use Rattle.block_tree.specs.Tree.{blocks_in}
use Rattle.block_tree.specs.declared.fault.TreeFault.{TreeFault}
use Rattle.block_tree.specs.declared.root.TreeRoot.{TreeRoot}
use Rattle.place_words.specs.Different.{times, is_among}
use Rattle.point_model.specs.NodePlan.{node_metas}
use Rattle.tree_plan.specs.Trees.{IsOldIndex}
use Rattle.tree_plan.proofs.CutLaws.{map_within}
use Rattle.tree_plan.proofs.DirectoryLaws.{directory_pointers, few_leaves}
use Rattle.tree_plan.proofs.FaultLaws.{tree_known}
use Rattle.tree_plan.proofs.MetaLaws.{times_append}
use Rattle.tree_plan.proofs.PageCounts.{GivesPages, directory_at_most, none_behind}
use Rattle.tree_plan.proofs.PlannedLaws.{stand_rest, stand_front, apart_rising, apart_under, apart_some, under_more}
use Rattle.tree_plan.proofs.TreeLaws.{tree_planned, GivesMap, GivesFull, GivesPointers, GivesIndexes}
use Rattle.tree_plan.proofs.directory.plan_pages.Goals as goal

pub rewrite-requires-clause-free : goal.rewrite-requires-clause-free
rewrite-requires-clause-free g c = omega (arith, c.requires.free, few_leaves c.args.spelled.changes (apart_under 4096 c.args.spelled.changes c.requires.apart))

pub rewrite-requires-clause-kept : goal.rewrite-requires-clause-kept
rewrite-requires-clause-kept g c tells p lt le small = absurd (omega (arith, c.cut_within-cut.ensures, lt, le))

pub returns-clause-tree : goal.returns-clause-tree
returns-clause-tree g c tells ends full new carries =
    let cut = c.cut_within-cut.result in
    let old = (g.D.Disk.state c.args.disk.now).contents in
    let w = c.in_ok-made.made in
    let changes = c.args.spelled.changes in
    let stand = stand_rest c.args.spelled.pages.items w.pages (blocks_in new) (subst (λ (qs : List Page). Stand qs (blocks_in new)) c.in_ok-pages.ensures carries.stand) in
    let places = subst (GivesMap (blocks_in old) cut changes w.pages w.root) c.root_of-root.ensures (c.in_ok-made.ensures.map tells) in
    let whole = subst (GivesFull (blocks_in old) w.pages w.root) c.root_of-root.ensures (c.in_ok-made.ensures.full tells) in
    tree_planned old new c.args.was.now (Directory c.args.width w.root.height w.root.ptr) c.args.cut_to changes c.requires.changes ends
    (map_within old c.args.was.now c.args.cut_to cut (blocks_of (256 * c.args.width)) changes _ (c.cut_within-cut.ensures ∙ ap (λ (w : ℕ). min c.args.cut_to (blocks_of (256 * w))) c.from-size.ensures) ends (places (blocks_in new) stand carries.stays)) (whole (blocks_in new) stand carries.stays full)

pub returns-clause-pointers : goal.returns-clause-pointers
returns-clause-pointers g c tells kind n new carries =
    let cut = c.cut_within-cut.result in
    let old = (g.D.Disk.state c.args.disk.now).contents in
    let w = c.in_ok-made.made in
    let changes = c.args.spelled.changes in
    let first = c.args.spelled.pages.items in
    let stand = stand_rest first w.pages (blocks_in new) (subst (λ (qs : List Page). Stand qs (blocks_in new)) c.in_ok-pages.ensures carries.stand) in
    let places = subst (GivesMap (blocks_in old) cut changes w.pages w.root) c.root_of-root.ensures (c.in_ok-made.ensures.map tells) in
    let balance = subst (GivesPointers (blocks_in old) w.pages w.added w.dropped w.root) c.root_of-root.ensures (c.in_ok-made.ensures.pointers tells) in
    let fresh = subst (GivesIndexes (blocks_in old) w.pages (page_blocks w.pages) w.root) c.root_of-root.ensures (c.in_ok-made.ensures.indexes tells) in
    let joined : page_blocks c.in_ok-pages.pages ≡ page_blocks first ++ page_blocks w.pages =
    ap (λ (qs : List Page). page_blocks qs) c.in_ok-pages.ensures ∙ map-append (λ (p : Page). p.at) first w.pages in
    directory_pointers old new n c.args.width w.root.height w.root.ptr c.args.was.now cut changes w.added w.dropped (page_blocks w.pages) (page_blocks c.in_ok-pages.pages)
    (balance (blocks_in new) stand carries.stays) (fresh (blocks_in new) stand carries.stays) c.in_ok-made.ensures.used
    (λ b. omega (arith, ap (times b) joined, times_append b (page_blocks first) (page_blocks w.pages), ap (times b) c.requires.leads))
    (places (blocks_in new) stand carries.stays)
    (apart_rising 4096 changes c.requires.apart) (under_more 4096 1048576 _ (omega arith) (apart_under 4096 changes c.requires.apart)) (apart_some 4096 changes c.requires.apart)
    (⊎_elim inl (λ none. inr (omega (arith, none, c.cut_within-cut.ensures))) kind)

pub returns-clause-front : goal.returns-clause-front
returns-clause-front g c read stand = stand_front c.args.spelled.pages.items c.in_ok-made.made.pages read (subst (λ (qs : List Page). Stand qs read) c.in_ok-pages.ensures stand)

pub returns-clause-taken : goal.returns-clause-taken
returns-clause-taken g c =
    let first = c.args.spelled.pages.items in
    let w = c.in_ok-made.made in
    ap (λ (qs : List Page). page_blocks qs ++ c.rewrite.new.free) c.in_ok-pages.ensures
    ∙ ap (λ (bs : List ℕ). bs ++ c.rewrite.new.free) (map-append (λ (p : Page). p.at) first w.pages)
    ∙ append_assoc (page_blocks first) (page_blocks w.pages) c.rewrite.new.free
    ∙ ap (λ (bs : List ℕ). page_blocks first ++ bs) c.in_ok-made.ensures.taken

pub returns-clause-at_most : goal.returns-clause-at_most
returns-clause-at_most g c tells n new carries =
    let old = (g.D.Disk.state c.args.disk.now).contents in
    let w = c.in_ok-made.made in
    let cut = c.cut_within-cut.result in
    let changes = c.args.spelled.changes in
    let first = c.args.spelled.pages.items in
    let stand = stand_rest first w.pages (blocks_in new) (subst (λ (qs : List Page). Stand qs (blocks_in new)) c.in_ok-pages.ensures carries.stand) in
    let places = subst (GivesMap (blocks_in old) cut changes w.pages w.root) c.root_of-root.ensures (c.in_ok-made.ensures.map tells) in
    let pages = subst (GivesPages (blocks_in old) w.pages (page_blocks w.pages) w.root) c.root_of-root.ensures (c.in_ok-made.ensures.pages tells) in
    subst (λ (qs : List Page). length (page_blocks qs) ≤ length (node_metas new n (Directory c.args.width w.root.height w.root.ptr))) (sym c.in_ok-pages.ensures)
    (directory_at_most new n c.args.width w.root.height w.root.ptr first w.pages changes _ (places (blocks_in new) stand carries.stays)
    (apart_rising 4096 changes c.requires.apart) (under_more 4096 1048576 _ (omega arith) (apart_under 4096 changes c.requires.apart)) (apart_some 4096 changes c.requires.apart)
    c.requires.leads (pages (blocks_in new) stand carries.stays))

pub returns-clause-top : goal.returns-clause-top
returns-clause-top g c tells two some none =
    let w = c.in_ok-made.made in
    let first = c.args.spelled.pages.items in
    let joined : page_blocks c.in_ok-pages.pages ≡ page_blocks first ++ page_blocks w.pages =
    ap (λ (qs : List Page). page_blocks qs) c.in_ok-pages.ensures ∙ map-append (λ (p : Page). p.at) first w.pages in
    let apart = none_behind (page_blocks first) (page_blocks w.pages) w.root.ptr (sym (ap (λ (bs : List ℕ). is_among bs w.root.ptr) joined) ∙ none) in
    subst (λ (r : TreeRoot). (r.height ≡ 2) × (w.root.ptr ≡ r.ptr)) c.root_of-root.ensures (c.in_ok-made.ensures.top tells two some apart)

pub returns-clause-used : goal.returns-clause-used
returns-clause-used g c b =
    let first = c.args.spelled.pages.items in
    let w = c.in_ok-made.made in
    let joined : page_blocks c.in_ok-pages.pages ≡ page_blocks first ++ page_blocks w.pages =
    ap (λ (qs : List Page). page_blocks qs) c.in_ok-pages.ensures ∙ map-append (λ (p : Page). p.at) first w.pages in
    omega (arith, c.in_ok-made.ensures.used b, ap (times b) joined, times_append b (page_blocks first) (page_blocks w.pages), ap (times b) c.requires.leads)

pub returns-in_err-made-clause-among : goal.returns-in_err-made-clause-among
returns-in_err-made-clause-among g c =
    let old = (g.D.Disk.state c.args.disk.now).contents in
    tree_known c.from_residual.result c.in_err-made.field-0.0 (IsOldIndex g.D.Disk.tells old c.args.was.now) c.from_residual.ensures.1
    (λ b e tells. subst (λ (r : TreeRoot). is_among (tree_indexes (blocks_in old) r) b ≡ true) c.root_of-root.ensures (c.in_err-made.ensures.among b (ap (λ (f : TreeFault). Err f) e) tells))
