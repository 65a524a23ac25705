-- The two homes of each count block, and the counts that stand in those that home bits name.
use Rattle.std.specs.Prelude.{◌+◌, ◌*◌, ◌-◌, ℕ, zero, suc, List, [], ◌++◌, get_or}
use Rattle.vol_numbers.specs.Block.{zero_block}
use Rattle.vol_numbers.specs.declared.block.Block.{Block}
use Rattle.block_format.specs.Homes.{home_bit}
use Rattle.block_format.specs.Words.{words}

-- the bytes of each block, by its number
abbrev pub Blocks : Type 0
Blocks = ℕ → List ℕ

-- those of a disk or an image, zeros where it has no block
abbrev pub blocks_in : List Block → Blocks
blocks_in contents b = (get_or contents b zero_block).bytes

-- the home of count block i that is named
abbrev pub home_of : List ℕ → ℕ → ℕ
home_of homes i = 3 + 2 * i + home_bit homes i

-- its other home
abbrev pub other_of : List ℕ → ℕ → ℕ
other_of homes i = 3 + 2 * i + (1 - home_bit homes i)

-- the counts that the named homes of n count blocks spell, from count block i on
abbrev pub counts_from : Blocks → List ℕ → ℕ → ℕ → List ℕ
counts_from read homes i zero = []
counts_from read homes i (suc n) = words (read (home_of homes i)) ++ counts_from read homes (i + 1) n
