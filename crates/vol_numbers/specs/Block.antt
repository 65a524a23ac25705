-- Blocks of one byte.
use Rattle.std.specs.Prelude.{ℕ, replicate}
use Rattle.vol_numbers.specs.declared.block.Block.{Block}

-- 4,096 times the byte
abbrev pub block_of : ℕ → Block
block_of byte = record { bytes = replicate 4096 byte }

abbrev pub zero_block : Block
zero_block = block_of 0
