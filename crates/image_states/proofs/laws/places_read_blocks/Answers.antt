use Rattle.image_states.proofs.SeenPlaces.{reads_block}
use Rattle.image_states.proofs.laws.places_read_blocks.Goals as goal

pub returns : goal.returns
returns c = reads_block
