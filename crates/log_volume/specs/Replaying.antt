-- What reading a log and doing its commands give.
use Rattle.std.specs.Prelude.{◌≡◌, ◌<◌, ◌≤◌, ℕ, Bool, All, List, length, take, slice_get, IfSome, IfNone, IsTrue}
use Rattle.vol_numbers.specs.Layout.{log_start}
use Rattle.vol_numbers.specs.declared.block.Block.{Block}
use Rattle.block_format.specs.declared.root.RootBody.{RootBody}
use Rattle.block_format.specs.Root.{root_of}
use Rattle.tree_model.specs.declared.command.Command.{Command}
use Rattle.op_log.specs.Log.{HoldsRecords, IsFirstBad, blocks_of}
use Rattle.op_log.specs.Record.{HasRecord}
use Rattle.log_volume.specs.declared.replaying.Front.{Front}
use Rattle.log_volume.specs.declared.finding.Finding.{Finding}
use Rattle.log_volume.specs.declared.finding.Finding.TheVariants.{NoRoot, BadGeometry, Unbuilt, BadLog}
use Rattle.log_volume.specs.Replay.{nothing_kept, after, IsDone, DoesEach}

-- The records that a root's log begins with: all of them, or those before the first bad one.
pub record ReadsFront (tells : Bool) (image : List Block) (body : RootBody) (front : Front) : Type 0 where
  pub have_records : All HasRecord front.commands
  pub within : blocks_of front.commands ≤ body.log_used
  pub whole : IfNone front.bad (length front.commands ≡ body.records)
  pub part : IfSome front.bad (λ i. (length front.commands ≡ i) × (i < body.records))
  pub logged : IsTrue tells → HoldsRecords image (log_start (root_of body).layout) body.log_used front.commands
  pub bad : IsTrue tells → IfSome front.bad (IsFirstBad image (log_start (root_of body).layout) body.log_used)

-- the commands before this one are done in turn, and it isn't
pub record IsRefusedAt (commands : List Command) (i : ℕ) : Type 0 where
  pub within : i < length commands
  pub done : DoesEach nothing_kept (take i commands)
  pub refused : IfSome (slice_get commands i) (λ command. ¬ IsDone (after (take i commands) nothing_kept) command)

-- the finding is of a command that is refused in its turn
abbrev pub IsRefusal : List Command → Finding → Type 0
IsRefusal commands NoRoot = ⊥
IsRefusal commands BadGeometry = ⊥
IsRefusal commands Unbuilt = ⊥
IsRefusal commands (BadLog i) = IsRefusedAt commands i
