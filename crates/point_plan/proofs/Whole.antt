-- All of a plan.
use Rattle.std.proofs.Common.{◌≡◌, ℕ, ◌*◌, false, List, length, refl, sym, ap, ◌∙◌}
use Rattle.vol_numbers.specs.Geometry.{layout_of}
use Rattle.vol_numbers.specs.Layout.{Layout, count_blocks}
use Rattle.vol_numbers.specs.declared.block.Block.{Block}
use Rattle.block_format.specs.Root.{Root}
use Rattle.block_tree.specs.declared.plan.Rewritten.{Rewritten}
use Rattle.image_model.specs.Stands.{layout_in}
use Rattle.image_model.specs.Walk.{is_used}
use Rattle.inode_file.specs.Inodes.{InodeTable, inode_of}
use Rattle.point_model.specs.Holding.{node_now}
use Rattle.point_model.proofs.Numbers.{unused_zero}
use Rattle.block_tree.specs.Tree.{blocks_in}
use Rattle.point_plan.specs.Carries.{Carries}
use Rattle.point_plan.specs.Laws.{IsMadeFor, MadeIsPlanned}
use Rattle.point_plan.specs.State.{HoldsPoint, IsOfSize}
use Rattle.point_plan.specs.declared.planned.Plan.{Plan}
use Rattle.point_plan.specs.declared.state.PointState.{PointState}
use Rattle.point_plan.proofs.Put.{point_is_planned, kinds}
use Rattle.point_plan.proofs.Stays.{table_stands}
use Rattle.point_plan.proofs.Written.{lines_written}
use Rattle.root_switch.specs.Current.{root_of_image}
use Rattle.volume_model.specs.Machine.{Machine, Rules, stored}
use Rattle.volume_model.specs.Point.{placed_after, fresh_in}
use Rattle.volume_model.specs.ReportLaws.{IsReport}

pub made_is_planned : MadeIsPlanned
made_is_planned r m old new blocks s t counts plan w holds size report made carries =
    let o = s.dirty.overlay in
    let fresh : List ℕ = fresh_in plan.report in
    let placed = placed_after r m fresh in
    let index : (root_of_image old).inode_index ≡ s.inodes.index = sym (ap (λ (x : Root). x.inode_index) holds.root) ∙ sym size.index in
    let layout : layout_of s.geometry ≡ layout_in old = ap (λ g. layout_of g) (sym size.root) ∙ ap (λ (x : Root). x.layout) holds.root in
    let tells = kinds old new o m placed fresh s.inodes t s.counts.counts counts plan w holds.stands made carries holds.nodes in
    let zero : is_used (inode_of t.inodes 0) ≡ false = unused_zero (node_now old o) m.tree holds.coherent.tree holds.staged.nodes (inode_of t.inodes) tells in
    let long : length s.counts.counts ≡ 1024 * count_blocks (layout_in old) = size.counts ∙ ap (λ (g : Layout). 1024 * count_blocks g) layout in
    let stays = table_stands old new (stored m) s.inodes holds.stands carries.live size.table holds.inodes index in
    point_is_planned old new o m placed fresh s.inodes t s.counts.counts counts plan w holds.stands made carries holds.nodes size.table holds.inodes index zero holds.counts long stays
    (lines_written r m plan.report holds.coherent report o (blocks_in new) carries.lines)

-- its inodes are those of the table
pub made_inode : (r : Rules) (m : Machine) (old new : List Block) (blocks : ℕ) (s : PointState) (t : InodeTable) (counts : List ℕ) (plan : Plan) (w : Rewritten)
    (holds : HoldsPoint r m old s) (size : IsOfSize blocks s) (report : IsReport r m plan.report) (made : IsMadeFor r m old s t counts plan w) (carries : Carries old new s.dirty.overlay plan counts)
    (n : ℕ) → (made_is_planned r m old new blocks s t counts plan w holds size report made carries).inode n ≡ inode_of t.inodes n
unfolding made_is_planned point_is_planned
made_inode r m old new blocks s t counts plan w holds size report made carries n = refl
