-- The metadata that is counted of a node that is planned.
use Rattle.std.proofs.Common.{◌≡◌, ℕ, ◌+◌, ◌≤◌, Bool, false, List, length, ap, subst, ◌∙◌, arith}
use Rattle.std.specs.Prelude.{IsTrue}
use Rattle.vol_numbers.specs.declared.block.Block.{Block}
use Rattle.vol_numbers.specs.declared.runs.Change.{Change}
use Rattle.vol_numbers.specs.declared.runs.Page.{Page}
use Rattle.block_format.specs.declared.inode.Inode.{Inode}
use Rattle.block_format.specs.declared.slot.Slot.{Slot}
use Rattle.block_tree.specs.Notes.{page_blocks, Stand}
use Rattle.block_tree.specs.Root.{tree_indexes}
use Rattle.block_tree.specs.Tree.{Blocks, blocks_in}
use Rattle.block_tree.specs.declared.root.TreeRoot.{TreeRoot}
use Rattle.dir_slots.specs.Pages.{pages_for}
use Rattle.dirty_store.specs.Overlay.{Overlay}
use Rattle.place_words.specs.Different.{is_among}
use Rattle.point_model.specs.Holding.{width_in}
use Rattle.point_model.specs.NodePlan.{node_metas}
use Rattle.point_model.specs.PointPlan.{LiveStays}
use Rattle.volume_model.specs.Machine.{Machine, Rules, stored}
use Rattle.node_plan.specs.Nodes.{IsAtPoint, IsTreePlanned}
use Rattle.tree_plan.specs.Trees.{root_of, HasTopIndex}
use Rattle.tree_plan.specs.declared.plan.TreePlan.{TreePlan}
use Rattle.node_plan.proofs.AtPoint.{carries}
use Rattle.node_plan.proofs.MetaCounts.{metas_before, top_count}

-- what counts the index blocks of a tree in each image in which these pages stand
abbrev pub CountsIndexes : List Page → TreeRoot → ℕ → ℕ → Type 0
CountsIndexes pages root before count = (read : Blocks) → Stand pages read → (HasTopIndex root → is_among (page_blocks pages) root.ptr ≡ false → before ≡ length (tree_indexes read root))
    → count ≡ length (tree_indexes read root)

module _ (tells : Bool) (old : List Block) (o : Overlay) (n : ℕ) (was : Inode) (before : List Slot) where
  pub before_counted : (r : Rules) (m : Machine) → IsAtPoint r old o m n was before → (root : TreeRoot) (indexes own : ℕ) → root ≡ root_of was
      → indexes ≡ length (tree_indexes (blocks_in old) root) → own ≡ pages_for (width_in was) → indexes + own ≡ length (node_metas old n was)
  before_counted r m at root indexes own is count pages =
      omega (arith, count, ap (λ (t : TreeRoot). length (tree_indexes (blocks_in old) t)) is, pages, metas_before old (stored m) at.stands n was at.inode)

  module _ (changes : List Change) (p : TreePlan) (plan : IsTreePlanned tells old o n was before changes p) (yes : IsTrue tells) (at_root root : TreeRoot) (pages : List Page) (indexes_before indexes own : ℕ)
      (began : at_root ≡ root_of was) (begins : root ≡ root_of p.inode) (same : pages ≡ p.pages) (counted_before : indexes_before ≡ length (tree_indexes (blocks_in old) at_root))
      (counted : CountsIndexes pages root indexes_before indexes) (wide : own ≡ pages_for (width_in p.inode)) (r : Rules) (m : Machine) (at : IsAtPoint r old o m n was before) (new : List Block) (live : LiveStays old new)
      (stand : Stand p.pages (blocks_in new)) where
    pub now_counted : indexes + own ≡ length (node_metas new n p.inode)
    now_counted = omega (arith, count, wide, plan.metas yes r m at new live stand)
      where
        counts : CountsIndexes p.pages (root_of p.inode) indexes_before indexes
        counts = subst (λ (t : TreeRoot). CountsIndexes p.pages t indexes_before indexes) begins (subst (λ (qs : List Page). CountsIndexes qs root indexes_before indexes) same counted)

        count : indexes ≡ length (tree_indexes (blocks_in new) (root_of p.inode))
        count = counts (blocks_in new) stand (λ has none.
            counted_before ∙ ap (λ (t : TreeRoot). length (tree_indexes (blocks_in old) t)) began
            ∙ top_count old new was p.inode (carries r old o m n was before at new p.pages live stand).stays has.0 (plan.top yes has.0 has.1 none))

    pub pages_counted : length (page_blocks p.pages) ≤ indexes + own
    pages_counted = omega (arith, now_counted, plan.at_most yes new (carries r old o m n was before at new p.pages live stand))
