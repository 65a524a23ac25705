-- The root that a switch leaves is the one that is planned.
use Rattle.std.proofs.Common.{◌≡◌, ℕ, List, length, sym, ap, subst, ◌∙◌, arith}
use Rattle.std.specs.Prelude.{Option, unwrap_or}
use Rattle.vol_numbers.specs.Block.{zero_block}
use Rattle.vol_numbers.specs.Layout.{Layout}
use Rattle.vol_numbers.specs.declared.block.Block.{Block}
use Rattle.disk_model.specs.Disk.{State}
use Rattle.block_format.specs.Root.{Root, root_of, root_in, root_bytes, HasGeometry}
use Rattle.block_format.specs.declared.root.RootBody.{RootBody}
use Rattle.image_model.specs.Stands.{layout_in}
use Rattle.point_model.specs.PointPlan.{RootIsPlanned}
use Rattle.point_model.specs.RootPlan.{IsBodyFor, SwitchedRootIsPlanned}
use Rattle.root_switch.specs.Current.{root_of_image, root_bytes_in, HasRoot, FitsImage}
use Rattle.root_switch.specs.Switch.{HasNewRoot}
use Rattle.volume_model.specs.Machine.{Machine}

module _ (old new : List Block) (m : Machine) (written : State) (slot : ℕ) (body : RootBody) (has : HasRoot old) (fits : FitsImage old) (as_long : length written.contents ≡ length old)
    (is_body : IsBodyFor old m body) (switched : HasNewRoot written slot body new) where
  bytes : root_bytes_in new ≡ root_bytes (root_of body)
  bytes = ap (λ (root : Option Block). (unwrap_or root zero_block).bytes) switched.root

  root_is : root_of_image new ≡ root_of body
  root_is = ap root_in bytes ∙ is_body.reads_back

  layout : layout_in new ≡ layout_in old
  layout = ap (λ (r : Root). r.layout) root_is ∙ is_body.layout

  long : length new ≡ length old
  long = switched.as_long ∙ as_long

  root : RootIsPlanned old new m
  root = record {
    there = record { slots = omega (arith, has.slots, long); shape = bytes ∙ ap root_bytes (sym is_body.reads_back) ∙ ap (λ (bs : List ℕ). root_bytes (root_in bs)) (sym bytes) };
    fits = record {
      geometry = subst HasGeometry (sym root_is) is_body.geometry;
      size = ap (λ (l : Layout). l.blocks) layout ∙ fits.size ∙ sym long;
    };
    layout = layout;
    point = ap (λ (r : Root). r.point) root_is ∙ is_body.point;
    records = ap (λ (r : Root). r.records) root_is ∙ is_body.records;
    log_used = ap (λ (r : Root). r.log_used) root_is ∙ is_body.log_used;
  }

pub switched_root_is_planned : SwitchedRootIsPlanned
switched_root_is_planned old new m written slot body has fits as_long is_body switched =
    (root old new m written slot body has fits as_long is_body switched, root_is old new m written slot body has fits as_long is_body switched)
