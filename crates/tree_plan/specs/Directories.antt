-- What holds of a directory where a point is taken.
use Rattle.std.specs.Prelude.{◌≡◌, ◌<◌, ◌≤◌, ◌⊎◌, ℕ, ◌==◌, ◌*◌, true, false, List, length, Some}
use Rattle.vol_numbers.specs.declared.block.Block.{Block}
use Rattle.block_format.specs.Inode.{blocks_of}
use Rattle.block_format.specs.declared.inode.Inode.{Inode}
use Rattle.block_format.specs.declared.slot.Slot.{Slot}
use Rattle.dir_slots.specs.Pages.{pages_for}
use Rattle.dirty_store.specs.Overlay.{Overlay, node_of, least_cut}
use Rattle.point_model.specs.Holding.{inode_before, slots_left, kind_of}
use Rattle.point_model.specs.NodePlan.{block_of_place}
use Rattle.tree_plan.specs.Pages.{width_with}
use Rattle.tree_plan.specs.Trees.{IsFullTree, EndsAt}

-- The inode and the slots are those of the last point, as far as the directory wasn't cut to no block, and their pages are there. The cut takes no page of them,
-- and no place outlives it from the pages of now on. A number that was no directory is cut to no block.
pub record HoldsDirectory (old : List Block) (o : Overlay) (n : ℕ) (was : Inode) (left : List Slot) : Type 0 where
  pub before : was ≡ inode_before old n
  pub slots : left ≡ slots_left old o n
  pub full : IsFullTree old was
  pub there : (place : ℕ) → place < pages_for (length left) → (block_of_place old was place == 0) ≡ false
  pub uncut : pages_for (length left) ≤ least_cut (node_of o n)
  pub ends : EndsAt old was (least_cut (node_of o n)) (blocks_of (256 * width_with left o n))
  pub renewed : (kind_of was ≡ Some true) ⊎ (least_cut (node_of o n) ≡ 0)
