-- What a mount reads, and what the image stands for.
use Rattle.std.proofs.Common.{◌≡◌, ◌∙◌, ◌+◌, ◌↔◌, ℕ, Bool, List, Some, sym, ap, subst, IsTrue}
use Rattle.std.specs.Prelude.{slice_get}
use Rattle.vol_numbers.specs.Layout.{Layout, area_start}
use Rattle.vol_numbers.specs.declared.block.Block.{Block}
use Rattle.block_format.specs.Root.{Root}
use Rattle.root_switch.specs.Current.{root_of_image}
use Rattle.volume_format.specs.Blocks.{index_block, inode_block}
use Rattle.log_volume.specs.Image.{IsBuilt, layout_in}
use Rattle.log_volume.specs.Mounting.{HasFreshFields, HasCounts, HasInodes}

-- both blocks stand there
pub inodes_stand : (g : Layout) (image later : List Block) (at at_second : ℕ) (first second : Block) (is : Bool) → at ≡ area_start g → at_second ≡ area_start g + 1 → first ≡ inode_block → second ≡ index_block g
    → slice_get image at ≡ Some first → later ≡ image → (IsTrue is ↔ (slice_get later at_second ≡ Some second)) → IsTrue is ↔ HasInodes g image
inodes_stand g image later at at_second first second is at_is second_at first_is second_is there same iff =
    let inodes : slice_get image (area_start g) ≡ Some inode_block = ap (λ (k : ℕ). slice_get image k) (sym at_is) ∙ there ∙ ap (λ (b : Block). Some b) first_is in
    let moved : slice_get later at_second ≡ slice_get image (area_start g + 1) = λ i. slice_get (same i) (second_at i) in (
      λ true_is. record { inodes = inodes; index = sym moved ∙ iff.0 true_is ∙ ap (λ (b : Block). Some b) second_is },
      λ has. iff.1 (moved ∙ has.index ∙ ap (λ (b : Block). Some b) (sym second_is)),
    )

-- what a format writes stands in an image with this root, if its parts do
pub built_from : (r : Root) (image : List Block) → root_of_image image ≡ r → HasFreshFields r → HasCounts r.layout image → HasInodes r.layout image → IsBuilt image
built_from r image root fields counts blocks =
    let layout : r.layout ≡ layout_in image = ap (λ (q : Root). q.layout) (sym root) in
    let there : HasInodes (layout_in image) image = subst (λ (g : Layout). HasInodes g image) layout blocks in
    let same : HasFreshFields (root_of_image image) = subst HasFreshFields (sym root) fields in record {
      point = same.point;
      inode_index = same.inode_index;
      homes = same.homes;
      counts = subst (λ (g : Layout). HasCounts g image) layout counts;
      inodes = there.inodes;
      index = there.index;
    }

pub built_inodes : (r : Root) (image : List Block) → root_of_image image ≡ r → IsBuilt image → HasInodes r.layout image
built_inodes r image root built = subst (λ (q : Root). HasInodes q.layout image) root (record { inodes = built.inodes; index = built.index })
