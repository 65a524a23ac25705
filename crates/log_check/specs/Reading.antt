-- What the private functions that read a log answer.
use Rattle.std.specs.Prelude.{◌≡◌, ◌<◌, ◌≤◌, ◌⊎◌, ℕ, Bool, All, List, length, Some, None, IfSome, IfNone, IsTrue}
use Rattle.vol_numbers.specs.Layout.{log_start}
use Rattle.vol_numbers.specs.declared.block.Block.{Block}
use Rattle.block_format.specs.declared.root.RootBody.{RootBody}
use Rattle.block_format.specs.Root.{root_of}
use Rattle.op_log.specs.Log.{HoldsRecords, IsFirstBad, blocks_of}
use Rattle.op_log.specs.Record.{HasRecord}
use Rattle.log_check.specs.declared.reading.Front.{Front}

-- The records that a root's log begins with: all of them, or those before the first bad one.
pub record ReadsFront (tells : Bool) (image : List Block) (body : RootBody) (front : Front) : Type 0 where
  pub have_records : All HasRecord front.commands
  pub within : blocks_of front.commands ≤ body.log_used
  pub few : length front.commands ≤ 4096
  pub whole : IfNone front.bad (length front.commands ≡ body.records)
  pub part : IfSome front.bad (λ i. (length front.commands ≡ i) × (i < body.records))
  pub logged : IsTrue tells → HoldsRecords image (log_start (root_of body).layout) body.log_used front.commands
  pub bad : IsTrue tells → IfSome front.bad (IsFirstBad image (log_start (root_of body).layout) body.log_used)

-- no record is bad, and together they fill the used blocks
pub record IsWhole (body : RootBody) (front : Front) : Type 0 where
  pub none_bad : front.bad ≡ None
  pub full : body.log_used ≤ blocks_of front.commands

-- the record of this index is bad; or it is the number of records, none is bad, and they take fewer blocks than the root says
abbrev pub IsPart : RootBody → Front → ℕ → Type 0
IsPart body front i = (front.bad ≡ Some i) ⊎ ((front.bad ≡ None) × (i ≡ body.records) × (blocks_of front.commands < body.log_used))
