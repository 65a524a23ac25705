-- Where the parts of a volume lie.
use Rattle.std.specs.Prelude.{ℕ, ◌+◌, ◌-◌, ◌*◌, ◌/◌, ◌≤◌}

-- how many blocks a volume has, and how many of them are of the log
pub record Layout : Type 0 where
  pub blocks : ℕ
  pub log_blocks : ℕ

-- a count block has the counts of 1,024 blocks
abbrev pub count_blocks : Layout → ℕ
count_blocks g = (g.blocks + 1023) / 1024

-- The log lies behind the selector, two root slots and two homes of each count block.
abbrev pub log_start : Layout → ℕ
log_start g = 3 + 2 * count_blocks g

-- The area lies behind the log and 32 spare blocks, and goes to the end.
abbrev pub area_start : Layout → ℕ
area_start g = log_start g + g.log_blocks + 32

abbrev pub area_size : Layout → ℕ
area_size g = g.blocks - area_start g

-- the limits of a volume, whose area has at least 64 blocks
pub record IsValid (g : Layout) : Type 0 where
  pub blocks_at_most : g.blocks ≤ 65536
  pub log_at_least : 64 ≤ g.log_blocks
  pub log_at_most : g.log_blocks ≤ 4096
  pub area_at_least : area_start g + 64 ≤ g.blocks
