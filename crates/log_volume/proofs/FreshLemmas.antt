-- A fresh image stands for the empty root directory.
use Rattle.std.proofs.Common.{◌≡◌, List, [], refl, sym, ap, arith}
use Rattle.vol_numbers.specs.Layout.{Layout, IsValid}
use Rattle.vol_numbers.specs.declared.block.Block.{Block}
use Rattle.block_format.specs.Root.{Root}
use Rattle.root_switch.specs.Current.{root_of_image}
use Rattle.image_model.specs.Fresh.{fresh_root}
use Rattle.volume_format.specs.Fresh.{IsFresh}
use Rattle.volume_format.proofs.FreshLaws.{root_says, has_root, fits_image}
use Rattle.log_volume.specs.Image.{Stands}
use Rattle.log_volume.specs.Replay.{nothing_kept}
use Rattle.log_volume.proofs.MountLemmas.{built_from}

pub fresh_stands : (g : Layout) (image : List Block) → IsFresh g image → IsValid g → Stands image nothing_kept
fresh_stands g image fresh valid =
    let says : root_of_image image ≡ fresh_root g = root_says g valid image fresh in
    record {
      root = has_root g valid image fresh;
      fits = fits_image g valid image fresh;
      built = built_from (fresh_root g) image says (record { point = refl; inode_index = refl; homes = refl }) fresh.counts (record { inodes = fresh.inodes; index = fresh.index });
      logs = record {
        commands = [];
        count = sym (ap (λ (r : Root). r.records) says);
        logged = record { stand = tt; within = omega arith };
        filled = sym (ap (λ (r : Root). r.log_used) says);
        done = tt;
        is = refl;
      };
    }
