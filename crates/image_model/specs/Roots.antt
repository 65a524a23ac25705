-- What is wrong with the root of an image, if anything.
use Rattle.std.specs.Prelude.{ℕ, zero, suc, ◌+◌, ◌-◌, ◌==◌, ◌&&◌, not, nat_le, bytes_eq, Bool, true, List, length, Option}
use Rattle.vol_numbers.specs.Layout.{Layout, area_start, count_blocks}
use Rattle.vol_numbers.specs.declared.block.Block.{Block}
use Rattle.block_format.specs.Homes.{home_bit}
use Rattle.block_format.specs.Root.{Root, root_in, root_bytes}
use Rattle.root_switch.specs.Current.{root_bytes_in, root_of_image}
use Rattle.image_model.specs.Findings.{◌then◌, bad_if}
use Rattle.image_model.specs.declared.finding.Finding.{Finding}
use Rattle.image_model.specs.declared.finding.Finding.TheVariants.{NoRoot, BadGeometry}

-- whether a layout is within its limits
abbrev pub is_valid : Layout → Bool
is_valid g = nat_le g.blocks 65536 && nat_le 64 g.log_blocks && nat_le g.log_blocks 4096 && nat_le (area_start g + 64) g.blocks

-- whether each of k home bits from one on is 0
abbrev pub are_clear : List ℕ → ℕ → ℕ → Bool
are_clear homes i zero = true
are_clear homes i (suc k) = home_bit homes i == 0 && are_clear homes (i + 1) k

-- whether a root is within the geometry rules; it has 1,024 home bits, of which one stands for each count block
abbrev pub is_geometry : Root → Bool
is_geometry r =
    is_valid r.layout && nat_le r.records r.log_used && nat_le r.log_used r.layout.log_blocks && are_clear r.homes (count_blocks r.layout) (1024 - count_blocks r.layout)

-- whether there are a selector and two slots, and the current one has the shape of a root
abbrev pub has_root : List Block → Bool
has_root image = nat_le 3 (length image) && bytes_eq (root_bytes (root_in (root_bytes_in image))) (root_bytes_in image)

-- whether the root is within the geometry rules, and is that of as many blocks as there are
abbrev pub fits_image : List Block → Bool
fits_image image = is_geometry (root_of_image image) && (root_of_image image).layout.blocks == length image

-- the two phases of the root
unfoldable pub root_finding : List Block → Option Finding
root_finding image = bad_if (not (has_root image)) NoRoot then bad_if (not (fits_image image)) BadGeometry
