-- Places of files in a tree, and their bytes.
use Rattle.std.specs.Prelude.{◌≡◌, ◌<◌, ℕ, Bool, true, false, List, length, replicate, Some}
use Rattle.std.specs.FinMap.{find}
use Rattle.place_words.specs.Different.{up}
use Rattle.tree_model.specs.declared.node.Content.TheVariants.{File}
use Rattle.tree_model.specs.Path.{Path}
use Rattle.tree_model.specs.Tree.{Tree, node_at}
use Rattle.volume_model.specs.Machine.{block_at}
use Rattle.volume_model.specs.Places.{Spot, Places, spot_cmp}

-- The spot is a place of a file of the tree: the file has the spot's number, and the place is below its number of blocks.
pub record HasPlace (tree : Tree) (spot : Spot) : Type 0 where
  pub path : Path
  pub bytes : List ℕ
  pub stands : node_at tree path ≡ Some (record { number = spot.0; content = File bytes })
  pub within : spot.1 < up (length bytes) 4096

unfoldable pub zero_block : List ℕ
zero_block = replicate 4096 0

-- places that have the same block have the same bytes
abbrev pub HasSameBytes : Tree → Places → Type 0
HasSameBytes tree placed = (a b : Spot) (block : ℕ) → find spot_cmp a placed ≡ Some block → find spot_cmp b placed ≡ Some block → block_at tree a ≡ block_at tree b

-- What becomes of the places of files, by what is cut off and what is touched: what is cut off reads as zeros, what is touched is a place of
-- a file, and every other place reads as it did and stays a place of a file if it was one.
pub record PlacesFollow (old new : Tree) (is_cut is_touched : Spot → Bool) : Type 0 where
  pub cut : (spot : Spot) → is_cut spot ≡ true → block_at new spot ≡ zero_block
  pub touched : (spot : Spot) → is_touched spot ≡ true → HasPlace new spot
  pub same : (spot : Spot) → is_cut spot ≡ false → is_touched spot ≡ false → block_at new spot ≡ block_at old spot
  pub stays : (spot : Spot) → is_cut spot ≡ false → HasPlace old spot → HasPlace new spot
