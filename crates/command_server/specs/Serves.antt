-- What serving an image does.
use Rattle.std.specs.Prelude.{◌≡◌, ◌⊎◌, ℕ, Bool, List, Option, Some, IsTrue, IfSome, IsSomeAnd}
use Rattle.vol_numbers.specs.declared.block.Block.{Block}
use Rattle.disk_model.specs.Disk.{State, IsImage}
use Rattle.disk_model.specs.Media.{Fixed, image_named}
use Rattle.disk_model.specs.Past.{Past, Adds}
use Rattle.wire_ends.specs.Ends.{Input, Output, Puts, PutsPart}
use Rattle.log_volume.specs.Finding.{Finds}
use Rattle.log_volume.specs.Image.{Stands, layout_in}
use Rattle.log_volume.specs.Replay.{Kept}
use Rattle.command_server.specs.Serving.{text_of_source, no_text, session_budget}
use Rattle.command_server.specs.Session.{Session, point}
use Rattle.command_server.specs.Texts.{finding_text}
use Rattle.log_volume.specs.declared.finding.Finding.{Finding}
use Rattle.command_server.specs.declared.status.Status.{Status}
use Rattle.command_server.specs.declared.status.Status.TheVariants.{Done, Usage, BadVolume, Device, SourceFailed, SinkFailed, NoMemory, BadStream, Budget}

-- where the source, the sink and the media stand
pub record Ends : Type 1 where
  pub source : Input
  pub sink : Output
  pub fixed : Fixed
  pub state : State
  pub past : Past

abbrev pub ends_of : Input → Output → Fixed → State → Past → Ends
ends_of source sink fixed state past = record { source = source; sink = sink; fixed = fixed; state = state; past = past }

abbrev pub image_at : Ends → List ℕ → Option State
image_at ends name = image_named ends.fixed ends.state name

-- each image of the new state is one of the old
abbrev pub HasNoMore : State → State → Type 0
HasNoMore old new = (image : List Block) → IsImage new image → IsImage old image

-- what a power cut may leave under each name, it might have left before
abbrev pub KeepsImages : (List ℕ → Option State) → (List ℕ → Option State) → Type 0
KeepsImages old new = (name : List ℕ) → IfSome (new name) (λ after. IsSomeAnd (old name) (λ before. HasNoMore before after))

-- No image is changed, at the end and at each moment: what was opened had the images of that name, or nothing was opened and this is the last moment.
pub record Unchanged (tells : Bool) (name : List ℕ) (old new : Ends) : Type 0 where
  pub images : IsTrue tells → KeepsImages (image_at old) (image_at new)
  pub moments : IsTrue tells → Adds old.past new.past (λ s. IsSomeAnd (image_at old name) (λ before. HasNoMore before s) ⊎ (s ≡ new.state))

-- what is found in an image is so
abbrev pub IsFound : Bool → Option State → Finding → Type 0
IsFound tells there finding = IsTrue tells → IsSomeAnd there (λ s. Finds s.contents finding)

-- why no volume was mounted from an image, and what was put
abbrev pub IsUnmounted : Status → Bool → Option State → Ends → Ends → Type 0
IsUnmounted BadVolume tells there old new = (finding : Finding) × IsFound tells there finding × Puts old.sink new.sink (finding_text finding)
IsUnmounted SinkFailed tells there old new = (finding : Finding) × IsFound tells there finding × PutsPart old.sink new.sink (finding_text finding)
IsUnmounted Device tells there old new = new.sink ≡ old.sink
IsUnmounted NoMemory tells there old new = new.sink ≡ old.sink
IsUnmounted Done tells there old new = ⊥
IsUnmounted Usage tells there old new = ⊥
IsUnmounted SourceFailed tells there old new = ⊥
IsUnmounted BadStream tells there old new = ⊥
IsUnmounted Budget tells there old new = ⊥

-- It ended before a volume was mounted.
pub record Unmounted (tells : Bool) (name : List ℕ) (old new : Ends) (status : Status) : Type 0 where
  pub source : new.source ≡ old.source
  pub unchanged : Unchanged tells name old new
  pub cause : IsUnmounted status tells (image_at old name) old new

-- A volume was mounted from the named image, which stood for this tree and this use of a log of so many blocks, and a session followed.
pub record Served (tells : Bool) (name : List ℕ) (old new : Ends) (status : Status) : Type 0 where
  pub image : State
  pub kept : Kept
  pub room : ℕ
  pub named : IsTrue tells → image_at old name ≡ Some image
  pub stands : IsTrue tells → Stands image.contents kept
  pub has_room : IsTrue tells → room ≡ (layout_in image.contents).log_blocks
  pub left : Kept
  pub session : Session room tells
      (point (text_of_source session_budget old.source) old.source old.sink kept image old.past)
      (point no_text new.source new.sink left new.state new.past)
      (Some status)

-- it ended before a volume was mounted, or a session followed from what the image stood for
abbrev pub Serves : Bool → List ℕ → Ends → Ends → Status → Type 0
Serves tells name old new status = Unmounted tells name old new status ⊎ Served tells name old new status

-- what is put of a finding, by the status
abbrev pub TellsFinding : Finding → Status → Output → Output → Type 0
TellsFinding finding BadVolume old new = Puts old new (finding_text finding)
TellsFinding finding SinkFailed old new = PutsPart old new (finding_text finding)
TellsFinding finding Done old new = ⊥
TellsFinding finding Usage old new = ⊥
TellsFinding finding Device old new = ⊥
TellsFinding finding SourceFailed old new = ⊥
TellsFinding finding NoMemory old new = ⊥
TellsFinding finding BadStream old new = ⊥
TellsFinding finding Budget old new = ⊥
