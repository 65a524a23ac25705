use Rattle.std.proofs.Common.{rules, ◌≡◌, length}
use Rattle.place_read.proofs.place.block_is_whole.Goals as goal

pub returns : goal.returns
returns c =
    let fits = c.well_formed in
    let whole : length c.args.block.now.bytes ≡ 4096 = search rules in
    whole
