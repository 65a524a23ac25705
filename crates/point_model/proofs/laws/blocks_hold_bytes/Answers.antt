use Rattle.std.proofs.Common.{sym, ◌∙◌}
use Rattle.image_states.proofs.SeenPlaces.{reads_block}
use Rattle.point_model.proofs.FileBytes.{block_whole}
use Rattle.point_model.proofs.laws.blocks_hold_bytes.Goals as goal

pub returns : goal.returns
returns c = λ image s stands spot block found long. sym (reads_block image s stands spot block found ∙ block_whole _ long)
