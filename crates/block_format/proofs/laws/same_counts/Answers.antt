use Rattle.std.proofs.Common.{◌∙◌, sym}
use Rattle.block_format.proofs.WordLaws.{words-counted}
use Rattle.block_format.proofs.laws.same_counts.Goals as goal

pub returns : goal.returns
returns c =
    let bytes = c.args.block.now.bytes in
    sym (words-counted c.args.counts.now bytes c.requires.counts) ∙ words-counted c.args.other.now bytes c.requires.other
