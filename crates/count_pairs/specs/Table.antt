-- Counts in memory, and which of them stand on the disk.
use Rattle.std.specs.Prelude.{◌≡◌, ◌<◌, ◌*◌, ℕ, Bool, false, List, length, take, drop, slice_index_or}
use Rattle.count_pairs.specs.Homes.{Blocks, home_of}
use Rattle.block_format.specs.Words.{words}

pub record Table : Type 0 where
  -- how many pointers lead to each block
  pub counts : List ℕ
  -- for each count block, whether a count of it was touched since it was read or written
  pub touched : List Bool

-- the counts of count block i
abbrev pub count_block : List ℕ → ℕ → List ℕ
count_block counts i = take 1024 (drop (1024 * i) counts)

-- whether a count of count block i was touched; none is where there is no such count block
abbrev pub is_touched : List Bool → ℕ → Bool
is_touched touched i = slice_index_or touched i false

-- Each count block of which no count was touched stands in its named home.
pub record IsKept (read : Blocks) (homes : List ℕ) (t : Table) : Type 0 where
  pub each : (i : ℕ) → i < length t.touched → is_touched t.touched i ≡ false → words (read (home_of homes i)) ≡ count_block t.counts i

-- Each of n count blocks stands in its named home.
pub record AllStand (read : Blocks) (homes : List ℕ) (n : ℕ) (counts : List ℕ) : Type 0 where
  pub each : (i : ℕ) → i < n → words (read (home_of homes i)) ≡ count_block counts i
