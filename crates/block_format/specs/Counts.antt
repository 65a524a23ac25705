-- A count block of 4,096 bytes: how many pointers lead to each of 1,024 blocks.
use Rattle.std.specs.Prelude.{◌≡◌, ◌<◌, ◌^◌, ℕ, List, length, All}
use Rattle.std.specs.List.{flat_map}
use Rattle.byteorder.specs.Endian.{little_bytes}

-- four bytes each
abbrev pub count_bytes : List ℕ → List ℕ
count_bytes counts = flat_map (little_bytes 4) counts

-- The bytes are the spelling of these 1,024 counts.
pub record SpellsCounts (counts : List ℕ) (bytes : List ℕ) : Type 0 where
  pub count : length counts ≡ 1024
  pub each : All (λ n. n < 2 ^ 32) counts
  pub spelled : bytes ≡ count_bytes counts
