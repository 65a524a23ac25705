-- The blocks of a fresh volume make an image that image_model calls fresh.
use Rattle.std.proofs.Common.{◌≡◌, ◌∙◌, ◌+◌, ◌*◌, ◌/◌, ◌%◌, ◌^◌, ◌<◌, ℕ, List, Some, Option, refl, sym, ap, subst, arith}
use Rattle.std.specs.Prelude.{slice_get, slice_index, unwrap_or, replicate}
use Rattle.std.proofs.Math.Nat.{zero-div}
use Rattle.std.proofs.lemmas.List.{get_or-replicate}
use Rattle.std.proofs.lemmas.Option.{get_or_from_slice_get}
use Rattle.vol_numbers.specs.Block.{zero_block}
use Rattle.vol_numbers.specs.Layout.{Layout, IsValid, area_start}
use Rattle.vol_numbers.specs.declared.block.Block.{Block}
use Rattle.block_format.specs.Homes.{home_bit}
use Rattle.block_format.specs.Root.{Root, root_in, root_bytes, HasGeometry}
use Rattle.block_format.proofs.RootLaws.{root_in-root_bytes}
use Rattle.block_tree.specs.Tree.{blocks_in}
use Rattle.root_switch.specs.Current.{root_bytes_in, root_of_image, HasRoot, FitsImage}
use Rattle.image_model.specs.Fresh.{fresh_root, IsFresh as IsImageFresh}
use Rattle.volume_format.specs.Fresh.{IsFresh}
use Rattle.volume_format.proofs.BlockLemmas.{inodes_spelled}

pub no_home_bit : (i : ℕ) → i < 1024 → home_bit (replicate 128 0) i ≡ 0
no_home_bit i lt =
    let byte : slice_index (replicate 128 0) (i / 8) ≡ 0 = get_or-replicate 128 (i / 8) 0 0 (omega (arith, lt)) in
    ap (λ (b : ℕ). b / 2 ^ (i % 8) % 2) byte ∙ ap (λ (b : ℕ). b % 2) (zero-div (2 ^ (i % 8)))

fresh_reads_back : (g : Layout) → IsValid g → root_in (root_bytes (fresh_root g)) ≡ fresh_root g
fresh_reads_back g valid = root_in-root_bytes (fresh_root g) (record {
  blocks = omega (arith, valid.blocks_at_most);
  log_blocks = omega (arith, valid.log_at_most);
  point = omega arith;
  inode_index = omega (arith, valid.blocks_at_most, valid.area_at_least);
  records = omega arith;
  log_used = omega arith;
  homes = refl;
})

-- the bytes of a block that is there
block_bytes : (image : List Block) (at : ℕ) (block : Block) → slice_get image at ≡ Some block → blocks_in image at ≡ block.bytes
block_bytes image at block there = ap (λ (b : Block). b.bytes) (get_or_from_slice_get image at block zero_block there)

module _ (g : Layout) (valid : IsValid g) (image : List Block) (fresh : IsFresh g image) where
  root_spelled : root_bytes_in image ≡ root_bytes (fresh_root g)
  root_spelled = ap (λ (k : ℕ). (unwrap_or (slice_get image (1 + k)) zero_block).bytes) fresh.slot ∙ ap (λ (o : Option Block). (unwrap_or o zero_block).bytes) fresh.root

  pub root_says : root_of_image image ≡ fresh_root g
  root_says = ap root_in root_spelled ∙ fresh_reads_back g valid

  pub has_root : HasRoot image
  has_root = record { slots = omega (arith, fresh.as_long, valid.area_at_least); shape = root_spelled ∙ ap root_bytes (sym root_says) }

  pub fits_image : FitsImage image
  fits_image = record { geometry = subst HasGeometry (sym root_says) fresh.geometry; size = ap (λ (r : Root). r.layout.blocks) root_says ∙ sym fresh.as_long }

  pub image_fresh : IsImageFresh g image
  image_fresh = record {
    has_root = has_root;
    fits = fits_image;
    root = root_says;
    counts = λ i lt.
        let home : 3 + 2 * i + home_bit (replicate 128 0) i ≡ 3 + 2 * i = omega (arith, no_home_bit i (omega (arith, lt, valid.blocks_at_most))) in
        ap (blocks_in image) home ∙ block_bytes image (3 + 2 * i) _ (fresh.counts i lt);
    inodes = block_bytes image (area_start g) _ fresh.inodes ∙ inodes_spelled;
    index = block_bytes image (area_start g + 1) _ fresh.index;
  }
