use Rattle.std.proofs.Common.{◌≡◌, ◌<◌, ◌≤◌, ◌*◌, ℕ, List, true, Some, length, ap, sym, subst, ◌∙◌, arith}
use Rattle.std.specs.Prelude.{◌⊎◌, All}
use Rattle.std.specs.Option.{option_copied}
use Rattle.vol_numbers.specs.Geometry.{layout_of}
use Rattle.vol_numbers.specs.declared.runs.Change.{Change}
use Rattle.block_format.specs.Index.{IsPointer}
use Rattle.block_format.specs.Inode.{blocks_of}
use Rattle.block_tree.specs.Notes.{page_blocks}
use Rattle.block_tree.specs.Tree.{blocks_in}
use Rattle.dir_slots.specs.Pages.{pages_for}
use Rattle.dirty_store.specs.Overlay.{node_of, least_cut}
use Rattle.point_model.specs.Holding.{kind_of}
use Rattle.tree_plan.specs.Pages.{slots_or_none, width_with}
use Rattle.tree_plan.specs.Trees.{EndsAt}
use Rattle.tree_plan.proofs.PlannedLaws.{all_front, all_behind, lead_into, directory_planned}
use Rattle.tree_plan.proofs.directory.plan_slots.Goals as goal

pub plan_pages-requires-clause-changes : goal.plan_pages-requires-clause-changes
plan_pages-requires-clause-changes g c =
    subst (λ (w : ℕ). All (λ (x : Change). x.place < blocks_of (256 * w)) c.in_ok-spelled.spelled.changes) (sym c.requires.width) c.in_ok-spelled.ensures.within

pub plan_pages-requires-clause-free : goal.plan_pages-requires-clause-free
plan_pages-requires-clause-free g c = omega (arith, c.requires.free, c.in_ok-spelled.ensures.left, ap (λ (l : List ℕ). length l) c.in_ok-rest.ensures)

pub returns-clause-planned : goal.returns-clause-planned
returns-clause-planned g c tells holds new carries m placed =
    let old = (g.D.Disk.state c.args.disk.now).contents in
    let left = slots_or_none (option_copied c.args.left) in
    let o = c.args.store.now.overlay in
    let n = c.args.number in
    let was = c.args.was.now in
    let p = c.in_ok-plan.plan in
    let s = c.in_ok-spelled.spelled in
    let few : pages_for (width_with left o n) ≤ 4096 = omega (arith, c.requires.width, c.requires.wide) in
    let ends =
    subst (λ (k : ℕ). EndsAt old was k (blocks_of (256 * c.args.width))) (sym c.cut_to-cut_to.ensures)
    (subst (λ (w : ℕ). EndsAt old was (least_cut (node_of o n)) (blocks_of (256 * w))) (sym c.requires.width) holds.ends) in
    let kind = subst (λ (k : ℕ). (kind_of was ≡ Some true) ⊎ (k ≡ 0)) (sym c.cut_to-cut_to.ensures) holds.renewed in
    directory_planned old new o m placed n c.args.width c.cut_to-cut_to.result was p.inode left s.changes s.pages.items p.added p.dropped (page_blocks p.pages)
    holds few c.cut_to-cut_to.ensures c.in_ok-plan.ensures.inode c.in_ok-spelled.ensures.spelled (c.in_ok-plan.ensures.front (blocks_in new) carries.stand)
    (c.in_ok-plan.ensures.tree tells ends holds.full new carries) (c.in_ok-plan.ensures.pointers tells kind n new carries)

pub returns-clause-taken : goal.returns-clause-taken
returns-clause-taken g c = c.in_ok-plan.ensures.taken ∙ c.in_ok-spelled.ensures.taken ∙ c.in_ok-rest.ensures

pub returns-clause-begins : goal.returns-clause-begins
returns-clause-begins g c all =
    let layout = layout_of c.args.g.now in
    let s = c.in_ok-spelled.spelled in
    let whole = subst (All (IsPointer layout)) (sym (c.in_ok-spelled.ensures.taken ∙ c.in_ok-rest.ensures)) all in
    let blocks = subst (All (IsPointer layout)) (sym c.in_ok-spelled.ensures.leads) (all_front (IsPointer layout) (page_blocks s.pages.items) _ whole) in
    c.in_ok-plan.ensures.begins (lead_into layout s.changes blocks) (all_behind (IsPointer layout) (page_blocks s.pages.items) _ whole)
