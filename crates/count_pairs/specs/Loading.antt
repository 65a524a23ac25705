-- What reading the counts gives, on every disk.
use Rattle.std.specs.Prelude.{◌≡◌, ◌-◌, ℕ, List}
use Rattle.disk_model.specs.Disk.{Given}
use Rattle.count_pairs.specs.Homes.{home_of}
use Rattle.count_pairs.specs.Table.{count_block}
use Rattle.block_format.specs.Words.{words}

-- The block that was read last is the named home of the last of n count blocks, and spells the last 1,024 counts.
pub record GivesLast (given : Given) (homes : List ℕ) (n : ℕ) (counts : List ℕ) : Type 0 where
  pub at : given.at ≡ home_of homes (n - 1)
  pub spelled : words given.block.bytes ≡ count_block counts (n - 1)
