-- A volume as a format leaves it can be met.
use Rattle.vol_numbers.specs.Layout.{Layout}
use Rattle.image_model.specs.Fresh.{IsFresh}
use Rattle.image_rows.specs.Sound.{blank}

-- the layout of the images
abbrev pub layout : Layout
layout = record { blocks = 165; log_blocks = 64 }

abbrev pub FreshIsMet : Type 0
FreshIsMet = IsFresh layout blank
