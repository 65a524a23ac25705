-- The row of a fresh volume.
use Rattle.std.proofs.Common.{◌≡◌, zero, suc, None, refl, arith}
use Rattle.block_format.specs.Root.{root_in}
use Rattle.block_tree.specs.Planned.{pointers_of}
use Rattle.image_model.specs.Fresh.{fresh_count}
use Rattle.image_model.specs.Planned.{CountsStand, inodes_bytes}
use Rattle.image_model.specs.Roots.{root_finding}
use Rattle.image_model.proofs.RootExact.{roots_are_found}
use Rattle.block_tree.specs.Tree.{blocks_in}
use Rattle.image_rows.specs.Fresh.{layout, FreshIsMet}
use Rattle.image_rows.specs.Sound.{blank}
use Rattle.std.specs.Prelude.{replicate}
use Rattle.vol_numbers.specs.Layout.{count_blocks}

root_none : root_finding blank ≡ None
unfolding root_finding root_in
root_none = refl

counted : CountsStand (blocks_in blank) (replicate 128 0) (fresh_count layout) (count_blocks layout)
unfolding pointers_of
counted zero lt = refl
counted (suc i) lt = absurd (omega arith)

pub fresh_is_met : FreshIsMet
unfolding inodes_bytes root_in
fresh_is_met = record {
  has_root = ((roots_are_found.none blank).0 root_none).0;
  fits = ((roots_are_found.none blank).0 root_none).1;
  root = refl;
  counts = counted;
  inodes = refl;
  index = refl;
}
