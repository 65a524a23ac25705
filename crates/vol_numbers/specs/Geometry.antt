-- The layout that a geometry has.
use Rattle.vol_numbers.specs.Layout.{Layout}
use Rattle.vol_numbers.specs.declared.geometry.Geometry.{Geometry}

abbrev pub layout_of : Geometry → Layout
layout_of g = record { blocks = g.blocks; log_blocks = g.log_blocks }
