-- The records in a log.
use Rattle.std.specs.Prelude.{◌≡◌, ◌<◌, ◌≤◌, ℕ, ◌+◌, List, [], ◌∷◌, ◌++◌, length, slice_get, Some}
use Rattle.vol_numbers.specs.declared.block.Block.{Block}
use Rattle.tree_model.specs.declared.command.Command.{Command}
use Rattle.op_log.specs.Record.{HasRecord, record_blocks, record_block}

-- the record of a command stands from this block on
abbrev pub RecordStands : List Block → ℕ → Command → Type 0
RecordStands image at c = (i : ℕ) → i < record_blocks c → slice_get image (at + i) ≡ Some (record_block c i)

-- from this block on the records of these commands stand, one after the other
abbrev pub RecordsStand : List Block → ℕ → List Command → Type 0
RecordsStand image at [] = Unit {0}
RecordsStand image at (c ∷ cs) = HasRecord c × RecordStands image at c × RecordsStand image (at + record_blocks c) cs

-- how many blocks the records of these commands take
abbrev pub blocks_of : List Command → ℕ
blocks_of [] = 0
blocks_of (c ∷ cs) = record_blocks c + blocks_of cs

-- the used blocks of a log, from its first block on, begin with the records of these commands
pub record HoldsRecords (image : List Block) (first used : ℕ) (commands : List Command) : Type 0 where
  pub stand : RecordsStand image first commands
  pub within : blocks_of commands ≤ used

-- The used blocks begin with so many records, and with no record more: what follows is outside the grammar, or passes the used blocks.
pub record IsFirstBad (image : List Block) (first used number : ℕ) : Type 0 where
  pub before : List Command
  pub count : length before ≡ number
  pub good : HoldsRecords image first used before
  pub none : (c : Command) → HoldsRecords image first used (before ++ c ∷ []) → ⊥
