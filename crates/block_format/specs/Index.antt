-- An index block of 4,096 bytes.
use Rattle.std.specs.Prelude.{◌≡◌, ◌≤◌, ◌<◌, ◌⊎◌, ℕ, List, length, All}
use Rattle.std.specs.List.{flat_map}
use Rattle.byteorder.specs.Endian.{little_bytes}
use Rattle.vol_numbers.specs.Layout.{Layout, area_start}

-- the number of a block of the area
abbrev pub IsInArea : Layout → ℕ → Type 0
IsInArea g b = (area_start g ≤ b) × (b < g.blocks)

-- no block, or one of the area
abbrev pub IsPointer : Layout → ℕ → Type 0
IsPointer g b = (b ≡ 0) ⊎ IsInArea g b

-- four bytes each
abbrev pub index_bytes : List ℕ → List ℕ
index_bytes ptrs = flat_map (little_bytes 4) ptrs

-- The bytes are the spelling of these 1,024 pointers.
pub record SpellsIndex (g : Layout) (ptrs : List ℕ) (bytes : List ℕ) : Type 0 where
  pub count : length ptrs ≡ 1024
  pub each : All (IsPointer g) ptrs
  pub spelled : bytes ≡ index_bytes ptrs
