-- What a session does. The log has so many blocks.
use Rattle.std.specs.Prelude.{◌≡◌, ◌≢◌, ◌⊎◌, ◌≤◌, ◌++◌, ℕ, Bool, List, [], ◌∷◌, length, take, map, Option, Some, None, Ok, Err, IsTrue, IsNone}
use Rattle.vol_numbers.specs.declared.block.Block.{Block}
use Rattle.disk_model.specs.Disk.{State, IsImage, EachImage}
use Rattle.disk_model.specs.Past.{Past, Adds}
use Rattle.wire_ends.specs.Ends.{Input, Output, Puts}
use Rattle.tree_model.specs.declared.command.Command.{Command}
use Rattle.log_volume.specs.Image.{Stands}
use Rattle.log_volume.specs.Replay.{Kept, after}
use Rattle.log_volume.specs.declared.answer.Answer.{Answer}
use Rattle.log_volume.specs.declared.answer.Stopped.{Stopped}
use Rattle.command_text.specs.Front.{front}
use Rattle.command_text.specs.Front.Front.{Partial}
use Rattle.command_text.specs.Text.{Text, next, Reads}
use Rattle.command_text.specs.Text.Next.{Ended, Bad, Spent}
use Rattle.command_text.specs.declared.item.Item.{Item}
use Rattle.command_server.specs.Items.{Outcome, IsLegal, added_by}
use Rattle.command_server.specs.Texts.{answered_text, answered_texts}
use Rattle.command_server.specs.declared.status.Status.{Status}
use Rattle.command_server.specs.declared.status.Status.TheVariants.{Done, Usage, BadVolume, Device, SourceFailed, SinkFailed, NoMemory, BadStream, Budget}

-- each item has an outcome that is legal in its state
abbrev pub AllLegal : ℕ → Kept → List Item → List Outcome → Type 0
AllLegal room kept [] [] = Unit {0}
AllLegal room kept (item ∷ items) (outcome ∷ outcomes) = IsLegal room kept item outcome × AllLegal room (after (added_by room kept item outcome) kept) items outcomes
AllLegal room kept [] (outcome ∷ outcomes) = ⊥
AllLegal room kept (item ∷ items) [] = ⊥

-- the commands that these items add to the log, in order: those that were accepted
abbrev pub all_added : ℕ → Kept → List Item → List Outcome → List Command
all_added room kept (item ∷ items) (outcome ∷ outcomes) =
    added_by room kept item outcome ++ all_added room (after (added_by room kept item outcome) kept) items outcomes
all_added room kept items outcomes = []

-- what came of the last item where its answer was not put whole: so many bytes of it were, or there is none
pub data Last : Type 0 where
  Nothing : Last
  Cut : Answer → ℕ → Last
  Stop : Stopped → Last

abbrev pub last_outcome : Last → List Outcome
last_outcome Nothing = []
last_outcome (Cut answer count) = Ok answer ∷ []
last_outcome (Stop stopped) = Err stopped ∷ []

abbrev pub part_of : Last → List ℕ
part_of Nothing = []
part_of (Cut answer count) = take count (answered_text answer)
part_of (Stop stopped) = []

abbrev pub IsCut : Last → Type 0
IsCut last = (answer : Answer) × (count : ℕ) × (last ≡ Cut answer count)

-- nothing of the last answer was put
abbrev pub IsUnsaid : Last → Type 0
IsUnsaid last = (answer : Answer) × (last ≡ Cut answer 0)

abbrev pub IsStop : Last → Type 0
IsStop last = (stopped : Stopped) × (last ≡ Stop stopped)

-- the image stands for the tree after the first of these commands, at least so many
pub record StandsForPrefix (start : Kept) (least : ℕ) (accepted : List Command) (image : List Block) : Type 0 where
  pub count : ℕ
  pub at_least : least ≤ count
  pub at_most : count ≤ length accepted
  pub stands : Stands image (after (take count accepted) start)

-- it stands for the tree after some of them, or was there at the start
abbrev pub MayBeLeft : Kept → List Command → State → List Block → Type 0
MayBeLeft start accepted entry image = StandsForPrefix start 0 accepted image ⊎ IsImage entry image

-- where a session stands: what is to be read, the ends, what the log keeps, and the disk
pub record Point : Type 1 where
  pub text : Text
  pub source : Input
  pub sink : Output
  pub kept : Kept
  pub state : State
  pub past : Past

abbrev pub point : Text → Input → Output → Kept → State → Past → Point
point text source sink kept state past = record { text = text; source = source; sink = sink; kept = kept; state = state; past = past }

-- The bytes of the text that were taken from the source are less than an item: none that was taken whole is left.
pub record HoldsNoItem (rest : Text) (source : Input) : Type 0 where
  pub held : List ℕ
  pub parts : rest.bytes ≡ held ++ source.left
  pub undecided : front held ≡ Partial

-- how a session ends by its status, or goes on
abbrev pub EndsBy : Option Status → Type 0 → Point → Text → Last → Type 0
EndsBy None told new rest last = (last ≡ Nothing) × (told → rest ≡ new.text)
EndsBy (Some Done) told new rest last = (last ≡ Nothing) × (told → next rest ≡ Ended)
EndsBy (Some BadStream) told new rest last = (last ≡ Nothing) × (told → next rest ≡ Bad)
EndsBy (Some Budget) told new rest last = (last ≡ Nothing) × (told → next rest ≡ Spent)
EndsBy (Some SourceFailed) told new rest last = (last ≡ Nothing) × (told → HoldsNoItem rest new.source)
EndsBy (Some NoMemory) told new rest last = (last ≡ Nothing) ⊎ IsUnsaid last
EndsBy (Some SinkFailed) told new rest last = IsCut last
EndsBy (Some Device) told new rest last = IsStop last
EndsBy (Some Usage) told new rest last = ⊥
EndsBy (Some BadVolume) told new rest last = ⊥

-- what is on the disk at the end: all that was accepted, or after a stop at least what was acknowledged
abbrev pub Leaves : Last → Kept → ℕ → List Command → State → Type 0
Leaves Nothing start acknowledged accepted s = (s.unsynced ≡ []) × EachImage (StandsForPrefix start (length accepted) accepted) s
Leaves (Cut answer count) start acknowledged accepted s = (s.unsynced ≡ []) × EachImage (StandsForPrefix start (length accepted) accepted) s
Leaves (Stop stopped) start acknowledged accepted s = (s.unsynced ≢ []) × EachImage (StandsForPrefix start acknowledged accepted) s

pub record Session (room : ℕ) (tells : Bool) (old new : Point) (ended : Option Status) : Type 0 where
  -- the items that were read, the answers that were put whole, and what came of one more item
  pub items : List Item
  pub answers : List Answer
  pub last : Last
  pub rest : Text
  pub told : IsTrue old.source.is_told → IsTrue new.source.is_told
  pub read : IsTrue old.source.is_told → Reads old.text items rest
  pub legal : AllLegal room old.kept items (map Ok answers ++ last_outcome last)
  pub put : Puts old.sink new.sink (answered_texts answers ++ part_of last)
  pub ends : EndsBy ended (IsTrue old.source.is_told) new rest last
  pub kept : IsNone ended → new.kept ≡ after (all_added room old.kept items (map Ok answers)) old.kept
  -- at each moment, and in the end
  pub moments : IsTrue tells → Adds old.past new.past (EachImage (MayBeLeft old.kept (all_added room old.kept items (map Ok answers ++ last_outcome last)) old.state))
  pub leaves : IsTrue tells → Leaves last old.kept (length (all_added room old.kept items (map Ok answers))) (all_added room old.kept items (map Ok answers ++ last_outcome last)) new.state
