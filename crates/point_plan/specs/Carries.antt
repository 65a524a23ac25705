-- An image that carries a plan over the image of the last point.
use Rattle.std.specs.Prelude.{◌≡◌, ◌<◌, ℕ, ◌+◌, List, All, Some}
use Rattle.std.specs.FinMap.{find}
use Rattle.vol_numbers.specs.Geometry.{layout_of}
use Rattle.vol_numbers.specs.Layout.{count_blocks}
use Rattle.vol_numbers.specs.declared.block.Block.{Block}
use Rattle.block_format.specs.Root.{root_of}
use Rattle.block_tree.specs.Notes.{Stand}
use Rattle.block_tree.specs.Tree.{Blocks, blocks_in}
use Rattle.count_pairs.specs.Table.{AllStand}
use Rattle.dirty_store.specs.Overlay.{Overlay}
use Rattle.point_model.specs.PointPlan.{LiveStays}
use Rattle.point_plan.specs.declared.planned.Plan.{Plan}
use Rattle.point_plan.specs.declared.planned_node.PlannedNode.{PlannedNode}
use Rattle.root_switch.specs.Current.{root_of_image, HasRoot, FitsImage}
use Rattle.tree_model.specs.declared.report.Line.{Line}
use Rattle.volume_model.specs.Lines.{fresh_only}
use Rattle.volume_model.specs.Places.{spot_cmp}

-- the blocks of a line hold what is staged at its places
abbrev pub LineStands : Overlay → Blocks → Line → Type 0
LineStands o read l = (k : ℕ) (staged : Block) → k < l.length → find spot_cmp (l.number, l.place + k) o.blocks ≡ Some staged → read (l.block + k) ≡ staged.bytes

-- New has the live blocks of old as they were, the pages of nodes and of inodes, the staged blocks of the fresh lines, the new root, and these
-- counts in the homes that it names.
pub record Carries (old new : List Block) (o : Overlay) (plan : Plan) (counts : List ℕ) : Type 0 where
  pub live : LiveStays old new
  pub nodes : All (λ (p : PlannedNode). Stand p.pages (blocks_in new)) plan.nodes
  pub inode_pages : Stand plan.inode_pages (blocks_in new)
  pub lines : All (LineStands o (blocks_in new)) (fresh_only plan.report.lines)
  pub there : HasRoot new
  pub fits : FitsImage new
  pub root : root_of_image new ≡ record (root_of plan.root) { homes = (root_of_image new).homes }
  pub counts_stand : AllStand (blocks_in new) (root_of_image new).homes (count_blocks (layout_of plan.root.geometry)) counts
