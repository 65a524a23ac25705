-- Which of the two root slots is current, and the root that it has.
use Rattle.std.specs.Prelude.{◌≡◌, ◌≤◌, ◌+◌, ◌%◌, ℕ, List, ◌∷◌, length, replicate, slice_get, slice_index, Option, option_map, unwrap_or}
use Rattle.vol_numbers.specs.Block.{zero_block}
use Rattle.vol_numbers.specs.declared.block.Block.{Block}
use Rattle.block_format.specs.Root.{Root, root_in, HasShape, HasGeometry}

-- the selector of a slot: its number in the first byte, and zeros behind it
abbrev pub selector_block : ℕ → Block
selector_block slot = record { bytes = slot ∷ replicate 4095 0 }

-- the slot that the selector names: slot 0 or 1, by the parity of the first byte of block 0
abbrev pub current_slot : List Block → ℕ
current_slot image = unwrap_or (option_map (λ (selector : Block). slice_index selector.bytes 0) (slice_get image 0)) 0 % 2

-- the block of the current slot, where there is one
abbrev pub current_root : List Block → Option Block
current_root image = slice_get image (1 + current_slot image)

-- the bytes of the current slot, zeros where there is none
abbrev pub root_bytes_in : List Block → List ℕ
root_bytes_in image = (unwrap_or (current_root image) zero_block).bytes

-- what the fields of the current slot say
abbrev pub root_of_image : List Block → Root
root_of_image image = root_in (root_bytes_in image)

-- There are a selector and two slots, and the current one has the shape of a root.
pub record HasRoot (image : List Block) : Type 0 where
  pub slots : 3 ≤ length image
  pub shape : HasShape (root_bytes_in image)

-- The root is within the geometry rules, and is that of as many blocks as there are.
pub record FitsImage (image : List Block) : Type 0 where
  pub geometry : HasGeometry (root_of_image image)
  pub size : (root_of_image image).layout.blocks ≡ length image
