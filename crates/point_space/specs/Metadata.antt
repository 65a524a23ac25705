-- How many blocks of metadata each number has.
use Rattle.std.specs.Prelude.{◌≡◌, ◌<◌, ℕ, true, if◌then◌else◌, [], ◌∷◌, nat_eq, Some}
use Rattle.std.specs.FinMap.{find}
use Rattle.tree_model.specs.Tree.{Tree}
use Rattle.volume_model.specs.Machine.{Machine}
use Rattle.volume_model.specs.Places.{Spot, Places, spot_cmp, has_spot}
use Rattle.volume_model.specs.Space.{content_blocks}

-- the metadata of the tree's node of a number, and 0 where no node has it
abbrev pub node_metadata : Tree → Places → ℕ → ℕ
node_metadata [] placed n = 0
node_metadata (e ∷ es) placed n = if nat_eq e.1.number n then content_blocks placed n e.1.content else node_metadata es placed n

-- no dirty place has the block 0
abbrev pub DirtyHaveBlocks : Machine → Places → Type 0
DirtyHaveBlocks m placed = (spot : Spot) (block : ℕ) → has_spot m.dirty spot ≡ true → find spot_cmp spot placed ≡ Some block → 0 < block
