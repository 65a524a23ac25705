-- What an image shows in which nothing is found before the log.
use Rattle.std.proofs.Common.{◌≡◌, [], Some, None, refl, arith}
use Rattle.vol_numbers.specs.Layout.{Layout, count_blocks}
use Rattle.root_switch.specs.Current.{root_of_image}
use Rattle.block_tree.specs.Tree.{blocks_in}
use Rattle.volume_model.specs.Machine.{Stored}
use Rattle.image_model.specs.Exact.{seen_stored, NoneFoundShows}
use Rattle.image_model.specs.Roots.{root_finding}
use Rattle.image_model.specs.Seen.{seen}
use Rattle.image_model.specs.Stands.{Shows, layout_in}
use Rattle.image_model.proofs.FindingLaws.{then_first, then_second}
use Rattle.image_model.proofs.HeldLaws.{held}
use Rattle.image_model.proofs.NameLaws.{none_found_sound}
use Rattle.image_model.proofs.RootExact.{roots_are_found}
use Rattle.image_model.proofs.SpaceLaws.{free_seen}
use Rattle.image_model.proofs.StandingTree.{is_tree}
use Rattle.image_model.proofs.TreeBuilt.{tree_exists}

pub none_found_shows : NoneFoundShows
unfolding seen
none_found_shows image none =
    let root = (roots_are_found.none image).0 (then_first (root_finding image) _ none) in
    let sound = none_found_sound image (then_second (root_finding image) _ none) in
    let tree = tree_exists (seen image) sound.named in
    let s : Stored = seen_stored image tree.0 [] in
    let shows : Shows (seen image) s = record { ordered = tree.1; tree = tree.2; places = refl } in
    let at = (root_of_image image).inode_index in
    let homes = (root_of_image image).homes in
    let g : Layout = layout_in image in (
      s,
      record {
        shows = shows;
        is_tree = is_tree (blocks_in image) at homes (count_blocks g) g sound tree.0 tree.1 tree.2;
        held = held (seen image) tree.0 tree.2 sound.named;
        free = free_seen (blocks_in image) at homes (count_blocks g) g s sound.pointers sound.directories sound.named sound.counts shows (omega (arith, root.1.geometry.valid.area_at_least));
        stands = λ records logs. record { root = root.0; fits = root.1; layout = refl; sound = sound; shows = record { ordered = tree.1; tree = tree.2; places = refl }; logs = logs; point = refl };
      },
    )
