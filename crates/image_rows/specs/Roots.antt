-- What is found in roots.
use Rattle.std.specs.Prelude.{◌≡◌, List, [], ◌∷◌, Some, replicate}
use Rattle.vol_numbers.specs.declared.block.Block.{Block}
use Rattle.block_format.specs.Root.{root_bytes}
use Rattle.image_model.specs.Finds.{early_finding}
use Rattle.image_model.specs.declared.finding.Finding.TheVariants.{NoRoot, BadGeometry}
use Rattle.image_rows.specs.Images.{filled, standing, image_from, root, small_blocks, with_blocks, with_byte}

-- the first byte of the root is 0
abbrev pub zero_first_byte : List Block
zero_first_byte = with_blocks ((1, with_byte (root_bytes root) 0 0) ∷ [])

-- the root is of version 2
abbrev pub second_version : List Block
second_version = with_blocks ((1, with_byte (root_bytes root) 8 2) ∷ [])

-- a byte of the root that has to be 0 is 1
abbrev pub used_field : List Block
used_field = with_blocks ((1, with_byte (root_bytes root) 44 1) ∷ [])

-- so is the last one
abbrev pub used_end : List Block
used_end = with_blocks ((1, with_byte (root_bytes root) 4095 1) ∷ [])

-- the selector names slot 1, where there is nothing
abbrev pub wrong_slot : List Block
wrong_slot = with_blocks ((0, filled (1 ∷ [])) ∷ [])

-- two blocks, of which the second is a root
abbrev pub two_blocks : List Block
two_blocks = image_from (standing small_blocks) 0 2

-- no root
pub record NoRootRows : Type 0 where
  pub found_in_zero_first_byte : early_finding zero_first_byte ≡ Some NoRoot
  pub found_in_second_version : early_finding second_version ≡ Some NoRoot
  pub found_in_used_field : early_finding used_field ≡ Some NoRoot
  pub found_in_used_end : early_finding used_end ≡ Some NoRoot
  pub found_in_wrong_slot : early_finding wrong_slot ≡ Some NoRoot
  pub found_in_two_blocks : early_finding two_blocks ≡ Some NoRoot

-- the log has 63 blocks
abbrev pub short_log : List Block
short_log = with_blocks ((1, root_bytes (record root { layout = record { blocks = 165; log_blocks = 63 } })) ∷ [])

-- the root is that of 166 blocks
abbrev pub other_size : List Block
other_size = with_blocks ((1, root_bytes (record root { layout = record { blocks = 166; log_blocks = 64 } })) ∷ [])

-- a volume of 164 blocks has an area of 63
abbrev pub small_area : List Block
small_area =
    image_from (standing ((1, root_bytes (record root { layout = record { blocks = 164; log_blocks = 64 } })) ∷ small_blocks)) 0 164

-- two records in one block
abbrev pub many_records : List Block
many_records = with_blocks ((1, root_bytes (record root { records = 2; log_used = 1 })) ∷ [])

-- 65 blocks of 64 are used
abbrev pub long_log : List Block
long_log = with_blocks ((1, root_bytes (record root { log_used = 65 })) ∷ [])

-- a home bit is set for which there is no count block
abbrev pub spare_home : List Block
spare_home = with_blocks ((1, root_bytes (record root { homes = 2 ∷ replicate 127 0 })) ∷ [])

-- a root that breaks a rule of the geometry
pub record BadGeometryRows : Type 0 where
  pub found_in_short_log : early_finding short_log ≡ Some BadGeometry
  pub found_in_other_size : early_finding other_size ≡ Some BadGeometry
  pub found_in_small_area : early_finding small_area ≡ Some BadGeometry
  pub found_in_many_records : early_finding many_records ≡ Some BadGeometry
  pub found_in_long_log : early_finding long_log ≡ Some BadGeometry
  pub found_in_spare_home : early_finding spare_home ≡ Some BadGeometry
