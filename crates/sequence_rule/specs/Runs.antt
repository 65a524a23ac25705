-- The dirty places of a file, with their blocks.
use Rattle.std.specs.Prelude.{ℕ, ◌+◌, ◌<◌, ◌≤◌, List, [], ◌∷◌, ◌++◌, length, map}
use Rattle.std.specs.Coded.{×_prop, Unit-prop, le_prop}
use Rattle.vol_numbers.specs.declared.block.Block.{Block}
use Rattle.sequence_rule.specs.declared.dirty.DirtyRun.{DirtyRun}

-- a place with the block that is to stand there
abbrev pub DirtyBlock : Type 0
DirtyBlock = ℕ × Block

-- blocks from a place on
abbrev pub blocks_from : ℕ → List Block → List DirtyBlock
blocks_from place [] = []
blocks_from place (b ∷ bs) = (place, b) ∷ blocks_from (place + 1) bs

-- the blocks of all runs with their places
abbrev pub dirty_blocks : List DirtyRun → List DirtyBlock
dirty_blocks [] = []
dirty_blocks (r ∷ rs) = blocks_from r.first r.blocks ++ dirty_blocks rs

abbrev pub places_of : List DirtyBlock → List ℕ
places_of dirty = map (λ e. e.0) dirty

abbrev pub dirty_places : List DirtyRun → List ℕ
dirty_places runs = places_of (dirty_blocks runs)

-- Runs from a place on: each has a block, and no two overlap or touch. Their places are below 1,048,576.
abbrev pub AreRuns : ℕ → List DirtyRun → Type 0
AreRuns from [] = Unit {0}
AreRuns from (r ∷ rs) = (from ≤ r.first) × ((0 < length r.blocks) × ((r.first + length r.blocks ≤ 1048576) × AreRuns (r.first + length r.blocks + 1) rs))

-- that they are runs has one proof
pub AreRuns-prop : (from : ℕ) (rs : List DirtyRun) → IsProp (AreRuns from rs)
AreRuns-prop from [] = Unit-prop
AreRuns-prop from (r ∷ rs) = ×_prop le_prop (×_prop le_prop (×_prop le_prop (AreRuns-prop (r.first + length r.blocks + 1) rs)))
