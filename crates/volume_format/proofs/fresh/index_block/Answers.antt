use Rattle.std.proofs.Common.{◌∙◌, ◌∷◌, ℕ, ap}
use Rattle.std.specs.Prelude.{replicate}
use Rattle.block_format.specs.Index.{index_bytes}
use Rattle.volume_format.proofs.fresh.index_block.Goals as goal

pub returns : goal.returns
returns c = λ i. record { bytes = (c.block_of_words.ensures ∙ ap (λ (a : ℕ). index_bytes (a ∷ replicate 1023 0)) c.area_start.ensures) i }
