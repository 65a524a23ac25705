-- A record as it is read.
use Rattle.std.specs.Prelude.{◌≡◌, ◌<◌, ◌≤◌, ℕ, ◌+◌, ◌*◌, Bool, IsTrue, List, [], ◌∷◌, ◌++◌, length, take, drop, slice_index, slice_get, Some}
use Rattle.byteorder.specs.Endian.{little_number}
use Rattle.vol_numbers.specs.declared.block.Block.{Block}
use Rattle.tree_model.specs.declared.command.Command.{Command}
use Rattle.op_log.specs.Log.{RecordStands}
use Rattle.op_log.specs.Record.{Fields, HasRecord, blocks_for, record_blocks, record_block}
use Rattle.op_log.specs.declared.head.Head.{Head}

-- what the first 24 bytes say, whatever they are
unfoldable pub head_in : List ℕ → Head
head_in bytes = record {
  kind = slice_index bytes 0;
  path_len = little_number 4 (drop 4 bytes);
  number = little_number 8 (drop 8 bytes);
  rest_len = little_number 4 (drop 16 bytes);
}

-- how many blocks the record has whose first bytes say this
abbrev pub blocks_in : Head → ℕ
blocks_in h = blocks_for (24 + h.path_len + h.rest_len)

-- the parts are within their limits
pub record HasLimits (h : Head) : Type 0 where
  pub path : h.path_len ≤ 1024
  pub rest : h.rest_len ≤ 65536

-- what the fields say, in bytes of any shape
abbrev pub fields_in : List ℕ → Fields
fields_in bytes = record {
  kind = (head_in bytes).kind;
  number = (head_in bytes).number;
  path = take (head_in bytes).path_len (drop 24 bytes);
  rest = take (head_in bytes).rest_len (drop (24 + (head_in bytes).path_len) bytes);
}

-- the i-th block of bytes
abbrev pub bytes_block : List ℕ → ℕ → Block
bytes_block bytes i = record { bytes = take 4096 (drop (4096 * i) bytes) }

-- the bytes are those of so many blocks, from this one on
abbrev pub AreBlocks : List Block → ℕ → ℕ → List ℕ → Type 0
AreBlocks image at count bytes = (i : ℕ) → i < count → slice_get image (at + i) ≡ Some (bytes_block bytes i)

-- the bytes are those of the blocks of the record of a command
pub record Spells (c : Command) (bytes : List ℕ) : Type 0 where
  pub long : length bytes ≡ 4096 * record_blocks c
  pub blocks : (i : ℕ) → i < record_blocks c → bytes_block bytes i ≡ record_block c i

-- so many bytes have the blocks that their first 24 speak of, and these are at most so many
pub record IsWhole (bytes : List ℕ) (left : ℕ) : Type 0 where
  pub long : length bytes ≡ 4096 * blocks_in (head_in bytes)
  pub within : blocks_in (head_in bytes) ≤ left

-- no record of at most so many blocks stands from this block on
abbrev pub NoRecordStands : List Block → ℕ → ℕ → Type 0
NoRecordStands image at left = (c : Command) → HasRecord c → record_blocks c ≤ left → RecordStands image at c → ⊥

-- the command of a record that stands from this block on came behind the others, and its record takes so many blocks, of at most so many that are left
pub record GainsRecord (tells : Bool) (image : List Block) (at left : ℕ) (old new : List Command) (count : ℕ) : Type 0 where
  pub command : Command
  pub gained : new ≡ old ++ command ∷ []
  pub has_record : HasRecord command
  pub counted : count ≡ record_blocks command
  pub within : count ≤ left
  pub stands : IsTrue tells → RecordStands image at command
