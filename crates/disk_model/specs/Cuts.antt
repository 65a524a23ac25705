-- Which images come by a power cut.
use Rattle.std.specs.Prelude.{◌≡◌, true, List}
use Rattle.std.specs.List.{All}
use Rattle.vol_numbers.specs.declared.block.Block.{Block}
use Rattle.disk_model.specs.Disk.{State, IsImage, is_among, picked}
use Rattle.disk_model.specs.declared.pick.Pick.{Pick}

-- each image of a state comes by picks of blocks that are unsynced
abbrev pub EachImageIsPicked : Type 0
EachImageIsPicked = (s : State) (image : List Block) → IsImage s image
    → (picks : List Pick) × (All (λ pick. is_among s.unsynced pick.at ≡ true) picks) × (picked picks s.contents ≡ image)
