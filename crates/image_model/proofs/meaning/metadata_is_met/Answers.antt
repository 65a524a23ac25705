use Rattle.vol_numbers.specs.Layout.{count_blocks}
use Rattle.root_switch.specs.Current.{root_of_image}
use Rattle.image_model.specs.Seen.{seen}
use Rattle.block_tree.specs.Tree.{blocks_in}
use Rattle.image_model.specs.Stands.{layout_in}
use Rattle.image_model.proofs.SpaceLaws.{metadata_seen}
use Rattle.image_model.proofs.meaning.metadata_is_met.Goals as goal

pub returns : goal.returns
unfolding seen
returns c = λ image s stands.
    metadata_seen (blocks_in image) (root_of_image image).inode_index (root_of_image image).homes (count_blocks (layout_in image)) (layout_in image) s stands.sound.pointers stands.sound.directories stands.sound.named stands.shows
