-- What the definitions of records and logs imply.
use Rattle.std.specs.Prelude.{◌≡◌, ◌<◌, ◌≤◌, ℕ, ◌+◌, List, [], ◌∷◌, ◌++◌, length, slice_get}
use Rattle.vol_numbers.specs.declared.block.Block.{Block}
use Rattle.tree_model.specs.declared.command.Command.{Command}
use Rattle.op_log.specs.Log.{HoldsRecords, IsFirstBad, RecordStands, blocks_of}
use Rattle.op_log.specs.Record.{HasRecord, record_blocks}

-- a command is spelled by the same blocks wherever its record stands
abbrev pub OneSpelling : Type 0
OneSpelling = (image other : List Block) (at place : ℕ) (c : Command) → RecordStands image at c → RecordStands other place c
    → (i : ℕ) → i < record_blocks c → slice_get image (at + i) ≡ slice_get other (place + i)

-- the record of only one command stands at a place
abbrev pub OneCommand : Type 0
OneCommand = (image : List Block) (at : ℕ) (c d : Command) → HasRecord c → HasRecord d → RecordStands image at c → RecordStands image at d → c ≡ d

-- as many records of one log are the same
abbrev pub OneLog : Type 0
OneLog = (image : List Block) (first used : ℕ) (cs ds : List Command) → HoldsRecords image first used cs → HoldsRecords image first used ds → length cs ≡ length ds → cs ≡ ds

-- where a record is the first bad one, there are no more records than stand before it
abbrev pub NoneBehindBad : Type 0
NoneBehindBad = (image : List Block) (first used number : ℕ) (cs : List Command) → IsFirstBad image first used number → HoldsRecords image first used cs → length cs ≤ number

-- an image with the same used blocks has the same records
abbrev pub UsedBlocksTell : Type 0
UsedBlocksTell = (image other : List Block) (first used : ℕ) (cs : List Command) → HoldsRecords image first used cs
    → ((k : ℕ) → first ≤ k → k < first + used → slice_get other k ≡ slice_get image k) → HoldsRecords other first used cs

-- Where the records fill the used blocks and one more stands behind them, the log has that one too, and is filled.
abbrev pub OneRecordMore : Type 0
OneRecordMore = (image : List Block) (first used : ℕ) (cs : List Command) (c : Command) → HoldsRecords image first used cs → blocks_of cs ≡ used → HasRecord c
    → RecordStands image (first + used) c → HoldsRecords image first (used + record_blocks c) (cs ++ c ∷ []) × (blocks_of (cs ++ c ∷ []) ≡ used + record_blocks c)
