-- What checking an image does.
use Rattle.std.specs.Prelude.{◌≡◌, ◌⊎◌, ℕ, Bool, List, Option, IsTrue, IsSomeAnd}
use Rattle.vol_numbers.specs.declared.block.Block.{Block}
use Rattle.disk_model.specs.Disk.{State}
use Rattle.wire_ends.specs.Ends.{Output, Puts, PutsPart}
use Rattle.volume_model.specs.Machine.{Stored}
use Rattle.image_model.specs.Finds.{Finds}
use Rattle.image_model.specs.Stands.{Stands}
use Rattle.image_model.specs.declared.finding.Finding.{Finding}
use Rattle.fs_check.specs.Checked.{IsSummed}
use Rattle.fs_check.specs.declared.checking.Summary.{Summary}
use Rattle.command_server.specs.Findings.{good_text, bad_text}
use Rattle.command_server.specs.declared.status.Status.{Status}
use Rattle.command_server.specs.declared.status.Status.TheVariants.{Done, Usage, BadVolume, Device, SourceFailed, SinkFailed, NoMemory, BadStream, Budget}

-- the image stands for nothing
abbrev pub StandsForNothing : List Block → Type 0
StandsForNothing image = (stored : Stored) → ¬ Stands image stored

-- the image that is there stands for something, and these are its numbers
abbrev pub IsGood : Bool → Option State → Summary → Type 0
IsGood tells there sum = IsTrue tells → IsSomeAnd there (λ s. IsSummed s.contents sum)

-- the image that is there has this finding, and stands for nothing
abbrev pub IsBad : Bool → Option State → Finding → Type 0
IsBad tells there finding = IsTrue tells → IsSomeAnd there (λ s. Finds s.contents finding × StandsForNothing s.contents)

-- What is told of the image that is there, by the status: its numbers, or its finding, or a part of the line where the sink failed. Nothing is put
-- where the disk failed or memory was wanting. No other status comes.
abbrev pub Checks : Status → Bool → Option State → Output → Output → Type 0
Checks Done tells there old new = (sum : Summary) × IsGood tells there sum × Puts old new (good_text sum)
Checks BadVolume tells there old new = (finding : Finding) × IsBad tells there finding × Puts old new (bad_text finding)
Checks SinkFailed tells there old new =
    ((sum : Summary) × IsGood tells there sum × PutsPart old new (good_text sum)) ⊎ ((finding : Finding) × IsBad tells there finding × PutsPart old new (bad_text finding))
Checks Device tells there old new = new ≡ old
Checks NoMemory tells there old new = new ≡ old
Checks Usage tells there old new = ⊥
Checks SourceFailed tells there old new = ⊥
Checks BadStream tells there old new = ⊥
Checks Budget tells there old new = ⊥

-- a failure of the disk or of the sink, or want of memory
abbrev pub IsCutShort : Status → Type 0
IsCutShort status = (status ≡ Device) ⊎ (status ≡ SinkFailed) ⊎ (status ≡ NoMemory)

-- An image that stands for something is told to be good, and every other to be bad, where no failure comes before.
pub record Decides (image : List Block) (status : Status) : Type 0 where
  pub good : (stored : Stored) → Stands image stored → (status ≡ Done) ⊎ IsCutShort status
  pub bad : StandsForNothing image → (status ≡ BadVolume) ⊎ IsCutShort status

-- ---- of private functions

-- the text was put, which this status says, or the sink failed at a part of it
abbrev pub Tells : Status → List ℕ → Status → Output → Output → Type 0
Tells whole text status old new = ((status ≡ whole) × Puts old new text) ⊎ ((status ≡ SinkFailed) × PutsPart old new text)
