use Rattle.std.proofs.Common.{◌∙◌, ap}
use Rattle.block_format.specs.Index.{index_bytes}
use Rattle.volume_format.proofs.fresh.count_block.Goals as goal

pub returns : goal.returns
returns c = λ i. record { bytes = (c.block_of_words.ensures ∙ ap index_bytes c.fresh_counts.ensures) i }
