-- An image in which a point is planned has all that a point owes.
use Rattle.std.proofs.Common.{◌≡◌, ℕ, ◌≤◌, Some, refl, sym, subst, ◌∙◌}
use Rattle.vol_numbers.specs.Layout.{Layout}
use Rattle.std.specs.FinMap.{find}
use Rattle.block_tree.specs.Tree.{blocks_in}
use Rattle.image_model.specs.Plan.{taken_in}
use Rattle.image_model.specs.Standing.{as_block}
use Rattle.image_states.proofs.SeenPlaces.{reads_block}
use Rattle.image_model.proofs.PointLaws.{point_stands}
use Rattle.point_model.specs.Laws.{PlannedHasPoint, PlannedIsSeen, PlannedStands}
use Rattle.point_model.proofs.Counted.{counts_new}
use Rattle.point_model.proofs.FilePlaces.{places_new, files_new}
use Rattle.point_model.proofs.DirectoriesStand.{directories_stand}
use Rattle.point_model.proofs.KeptPages.{old_pages}
use Rattle.point_model.proofs.Nodes.{tails_new, directories_new, holds_new, slots_new}
use Rattle.point_model.proofs.Spelled.{inodes_new, no_faults, leads}
use Rattle.volume_model.specs.Machine.{stored, block_at}
use Rattle.volume_model.specs.Places.{Spot, spot_cmp}
use Rattle.volume_model.specs.Point.{placed_after, fresh_in}
use Rattle.volume_model.specs.Space.{free_blocks}
use Rattle.volume_model.proofs.PointSpace.{point_fits}

pub has_point : PlannedHasPoint
has_point r old new o m report may plan =
    let bytes : (spot : Spot) (block : ℕ) → find spot_cmp spot m.stored_places ≡ Some block → as_block (blocks_in old block) ≡ block_at m.stored_tree spot =
    λ spot block found. sym (reads_block old (stored m) may.stands spot block found) in
    let pages = old_pages r old new o m report may plan (directories_stand old may.stands.sound) in
    let layout = may.stands.layout ∙ sym plan.root.layout in
    record {
      laid = record {
        root = plan.root.there;
        fits = plan.root.fits;
        layout = layout;
        point = sym plan.root.point;
        log_empty = (refl, plan.root.records, plan.root.log_used);
        counts = counts_new r old new o m report may plan;
        tails = tails_new r old new o m report may plan bytes pages;
        directories = directories_new r old new o m report may plan bytes pages;
        is_tree = may.coherent.tree;
        holds = holds_new r old new o m report may plan bytes pages;
        places = sym (places_new r old new o m report may plan);
        reserve = subst (λ (g : Layout). 16 ≤ free_blocks g m.tree (placed_after r m (fresh_in report))) layout (point_fits r m (fresh_in report) may.is_report.positive may.is_report.whole may.is_report.point.may may.long);
      };
      layout = plan.root.layout;
      for_metadata = taken_in plan.inodes_added plan.taken;
      for_files = fresh_in report;
      fresh = plan.free;
      leads = record {
        whole = no_faults r old new o m report may plan;
        metas = leads r old new o m report may plan;
        files = files_new r old new o m report may plan;
      };
    }

pub planned_stands : PlannedStands
planned_stands r old new o m report may plan = point_stands old new (stored m) _ may.stands (has_point r old new o m report may plan)

pub planned_is_seen : PlannedIsSeen
planned_is_seen r old new o m report may plan =
    let bytes : (spot : Spot) (block : ℕ) → find spot_cmp spot m.stored_places ≡ Some block → as_block (blocks_in old block) ≡ block_at m.stored_tree spot =
    λ spot block found. sym (reads_block old (stored m) may.stands spot block found) in
    let pages = old_pages r old new o m report may plan (directories_stand old may.stands.sound) in
    record { inodes = inodes_new r old new o m report may plan; slots = slots_new r old new o m report may plan bytes pages }
