-- A session: a course whose items are read from a source and whose answers go to a sink.
use Rattle.std.specs.Prelude.{◌≡◌, ◌⊎◌, ◌≤◌, ◌+◌, ◌++◌, ℕ, Bool, List, [], ◌∷◌, length, map, take, Option, Some, None, IsTrue}
use Rattle.std.specs.List.{flat_map}
use Rattle.vol_numbers.specs.declared.block.Block.{Block}
use Rattle.disk_model.specs.Disk.{State, IsImage}
use Rattle.disk_model.specs.Past.{Past}
use Rattle.wire_ends.specs.Ends.{Input, Output, Takes, Puts}
use Rattle.tree_model.specs.declared.command.Command.{Command}
use Rattle.tree_model.specs.declared.report.Report.{Report}
use Rattle.volume_model.specs.Machine.{Machine, Rules}
use Rattle.command_text.specs.Front.{front}
use Rattle.command_text.specs.Front.Front.{Partial}
use Rattle.command_text.specs.Text.{Text, next, Reads}
use Rattle.command_text.specs.Text.Next.{Ended, Bad, Spent}
use Rattle.command_text.specs.declared.item.Item.{Item}
use Rattle.command_text.specs.declared.item.Item.TheVariants as item
use Rattle.session_model.specs.Given.{given_text}
use Rattle.session_model.specs.Course.{Course, Exchange, Last, end_of}
use Rattle.session_model.specs.Course.Last.{Nothing, Untold, Stop}
use Rattle.session_model.specs.Follows.{Seen, Follows, IsAtRest}
use Rattle.session_model.specs.Runs.{IsVolume}
use Rattle.session_model.specs.declared.status.Status.{Status}
use Rattle.session_model.specs.declared.status.Status.TheVariants.{Done, Usage, BadVolume, Device, SourceFailed, SinkFailed, NoMemory, BadStream, Budget}

-- ---- what is read

-- the last item, if there is one
abbrev pub items_last : Last → List Item
items_last Nothing = []
items_last (Untold e) = e.item ∷ []
items_last (Stop command report) = item.Command command ∷ []

-- all items that were read
abbrev pub items_of : Course → List Item
items_of c = map (λ e. e.item) c.told ++ items_last c.last

-- Where a session stands: what is to be read, how many bytes may still be taken for it, the ends, and the disk. The budget of the text counts
-- the bytes that were taken and not read yet, too.
pub record Point : Type 1 where
  pub text : Text
  pub room : ℕ
  pub source : Input
  pub sink : Output
  pub disk : Seen

-- at most 4,096 bytes were taken that were not read yet
abbrev pub IsLittleAhead : Point → Type 0
IsLittleAhead p = p.text.budget ≤ p.room + 4096

-- the session goes on, or it ended at its last item or at the end of its text
abbrev pub IsBehindItems : Option Status → Type 0
IsBehindItems None = Unit {0}
IsBehindItems (Some Done) = Unit {0}
IsBehindItems (Some Device) = Unit {0}
IsBehindItems (Some SinkFailed) = Unit {0}
IsBehindItems (Some status) = ⊥

-- Bytes were taken, and each one is counted: so they are never more than the budget. Once `end` is read none is taken, and what was taken of
-- the bytes behind it before is at most 4,096 bytes, where it was no more at the start.
pub record TakesFor (ended : Option Status) (old new : Point) : Type 0 where
  pub bytes : List ℕ
  pub takes : Takes old.source new.source bytes
  pub counted : old.room ≡ length bytes + new.room
  pub over : IsTrue old.text.is_over → (bytes ≡ []) × IsTrue new.text.is_over
  pub ahead : IsBehindItems ended → IsLittleAhead old → IsLittleAhead new

-- ---- what is put

-- the texts of these answers
abbrev pub texts_of : List Exchange → List ℕ
texts_of es = flat_map (λ e. given_text e.answer) es

-- so many bytes of the answer that was not put whole
abbrev pub part_of : Last → ℕ → List ℕ
part_of Nothing count = []
part_of (Untold e) count = take count (given_text e.answer)
part_of (Stop command report) count = []

-- ---- how it ends

-- The bytes of the text that were taken from the source are less than an item: none that was taken whole is left.
pub record HoldsNoItem (rest : Text) (source : Input) : Type 0 where
  pub held : List ℕ
  pub parts : rest.bytes ≡ held ++ source.left
  pub undecided : front held ≡ Partial

-- there is a last item, whose answer was not put whole
abbrev pub IsUntold : Last → Type 0
IsUntold last = (e : Exchange) × (last ≡ Untold e)

-- the volume stopped at the last item
abbrev pub IsStop : Last → Type 0
IsStop last = (command : Command) × (report : Option Report) × (last ≡ Stop command report)

-- What the status says of the last answer and of what is left to read, or that the session goes on.
abbrev pub EndsBy : Option Status → Type 0 → Point → Text → Last → ℕ → Type 0
EndsBy None told new rest last cut = (last ≡ Nothing) × (told → rest ≡ new.text)
EndsBy (Some Done) told new rest last cut = (last ≡ Nothing) × (told → next rest ≡ Ended)
EndsBy (Some BadStream) told new rest last cut = (last ≡ Nothing) × (told → next rest ≡ Bad)
EndsBy (Some Budget) told new rest last cut = (last ≡ Nothing) × (told → next rest ≡ Spent)
EndsBy (Some SourceFailed) told new rest last cut = (last ≡ Nothing) × (told → HoldsNoItem rest new.source)
EndsBy (Some NoMemory) told new rest last cut = (last ≡ Nothing) ⊎ (IsUntold last × (cut ≡ 0))
EndsBy (Some SinkFailed) told new rest last cut = IsUntold last
EndsBy (Some Device) told new rest last cut = IsStop last
EndsBy (Some Usage) told new rest last cut = ⊥
EndsBy (Some BadVolume) told new rest last cut = ⊥

-- ---- all of it

-- a session from this state of its volume, to the state that its course leads to
pub record Session (r : Rules) (tells : Bool) (start left : Machine) (old new : Point) (ended : Option Status) : Type 0 where
  -- what was answered, and what it does: the five sentences of a course
  pub course : Course
  pub starts : course.start ≡ start
  pub leads : left ≡ end_of r course
  pub follows : Follows r tells course old.disk new.disk
  -- the items were read from the source, in order, and no more bytes were taken than may be
  pub rest : Text
  pub told : IsTrue old.source.is_told → IsTrue new.source.is_told
  pub read : IsTrue old.source.is_told → Reads old.text (items_of course) rest
  pub taken : TakesFor ended old new
  -- the answers were put, in order, and maybe a part of one more
  pub cut : ℕ
  pub put : Puts old.sink new.sink (texts_of course.told ++ part_of course.last cut)
  pub ends : EndsBy ended (IsTrue old.source.is_told) new rest course.last cut

-- each image of the new state is one of the old
abbrev pub HasNoMore : State → State → Type 0
HasNoMore old new = (image : List Block) → IsImage new image → IsImage old image

-- the moments of before, and such as have no image more than the state at the start
abbrev pub with_opening : Past → State → Past
with_opening past start = record past { since = λ t s. past.since t s ⊎ HasNoMore start s }

-- the disk once the image is mounted
abbrev pub opened : Seen → State → Seen
opened old state = record { state = state; past = with_opening old.past old.state; faults = old.faults }

-- An image was mounted, and a session followed.
pub record Served (r : Rules) (tells : Bool) (old new : Point) (status : Status) : Type 0 where
  -- the volume is in the state that the image at the start stands for, with nothing cached
  pub start : Machine
  pub is_volume : IsTrue tells → IsVolume start old.disk.state.contents × (start.cache ≡ [])
  -- until the mount has synced, a power cut leaves what it might have left before; then the disk is at rest
  pub mounted : State
  pub rest : IsTrue tells → IsAtRest start mounted
  pub opening : IsTrue tells → HasNoMore old.disk.state mounted
  pub left : Machine
  pub session : Session r tells start left (record old { disk = opened old.disk mounted }) new (Some status)
