-- What a course does to its disk: the five sentences.
use Rattle.std.specs.Prelude.{◌≡◌, ◌≢◌, ◌&&◌, not, if◌then◌else◌, ℕ, ◌+◌, ◌-◌, ◌^◌, min, max, Bool, true, false, List, [], ◌∷◌, length, is_some, IsTrue}
use Rattle.disk_model.specs.Disk.{State, EachImage}
use Rattle.disk_model.specs.Past.{Past, Adds}
use Rattle.volume_model.specs.Legal.{is_nothing}
use Rattle.volume_model.specs.Machine.{Machine, Rules, stored}
use Rattle.volume_model.specs.Short.{AnswerForNow}
use Rattle.image_model.specs.Stands.{Stands}
use Rattle.command_text.specs.declared.item.Item.{Item}
use Rattle.command_text.specs.declared.item.Item.TheVariants as item
use Rattle.session_model.specs.Given.{report_in, says_fault}
use Rattle.session_model.specs.Course.{Course, Exchange, Last, acknowledged, accepted_by, before_last, end_of}
use Rattle.session_model.specs.Course.Last.{Nothing, Untold, Stop}
use Rattle.session_model.specs.Stages.{StandsForPrefix, last_stages, passed}
use Rattle.session_model.specs.Answered.{EachPaired, EachLegal}

-- what is known of a disk: what it holds, its moments, and how often it has failed
pub record Seen : Type 1 where
  pub state : State
  pub past : Past
  pub faults : ℕ

-- these three together
abbrev pub seen_of : State → Past → ℕ → Seen
seen_of state past faults = record { state = state; past = past; faults = faults }

-- nothing is unsynced, and the contents stand for what the state stores
pub record IsAtRest (m : Machine) (s : State) : Type 0 where
  pub synced : s.unsynced ≡ []
  pub stands : Stands s.contents (stored m)

-- Something is unsynced, and each image stands for a stage of the last item: all that was acknowledged is in its tree.
pub record IsCutOff (r : Rules) (c : Course) (s : State) : Type 0 where
  pub unsynced : s.unsynced ≢ []
  pub images : EachImage (StandsForPrefix r c (last_stages r (before_last r c) c.last) (length (acknowledged c))) s

-- the disk at the end: at rest in the state that the course leads to, or after a stop cut off
abbrev pub Leaves : Rules → Course → Last → State → Type 0
Leaves r c Nothing s = IsAtRest (end_of r c) s
Leaves r c (Untold e) s = IsAtRest (end_of r c) s
Leaves r c (Stop command report) s = IsCutOff r c s

-- neither a point nor a change was done
abbrev pub is_idle : Exchange → Bool
is_idle e = not (is_some (report_in e.answer)) && is_nothing (accepted_by e)

-- nor was one at the last item, and the volume did not stop
abbrev pub is_idle_last : Last → Bool
is_idle_last Nothing = true
is_idle_last (Untold e) = is_idle e
is_idle_last (Stop command report) = false

-- each of them is idle, and so is the last
abbrev pub all_idle : List Exchange → Last → Bool
all_idle [] last = is_idle_last last
all_idle (e ∷ es) last = is_idle e && all_idle es last

-- the disk stays as it is, at each moment too
pub record IsKept (old new : Seen) : Type 0 where
  pub state : new.state ≡ old.state
  pub moments : Adds old.past new.past (λ s. s ≡ old.state)

-- one where a command is answered that the device failed
abbrev pub faults_by : Exchange → ℕ
faults_by e = by_item e.item e.answer
  where
    by_item : Item → AnswerForNow → ℕ
    by_item (item.Command command) answer = if says_fault answer then 1 else 0
    by_item (item.Refused refusal) answer = 0
    by_item item.Ended answer = 0

-- one for each such answer, and one more at a stop
abbrev pub faults_in : List Exchange → Last → ℕ
faults_in [] Nothing = 0
faults_in [] (Untold e) = faults_by e
faults_in [] (Stop command report) = 1
faults_in (e ∷ es) last = faults_by e + faults_in es last

-- the count after so many faults more: it stands still at its greatest value
abbrev pub raised_by : ℕ → ℕ → ℕ
raised_by faults count = max count (min (count + faults) (2 ^ 64 - 1))

-- What a course does, from a disk that is at rest in its start. But for the first and the last it is said where the disk tells what it holds.
pub record Follows (r : Rules) (tells : Bool) (c : Course) (old new : Seen) : Type 0 where
  -- 1. Each item is answered, one after the other: a line that is no command by its refusal, a command legally in the state that the
  -- answers before it have left. The volume stops at most at the last, and only at a point that is due and has its blocks, or at a
  -- change that the tree takes and that has space.
  pub paired : EachPaired c.told c.last
  pub legal : IsTrue tells → EachLegal r c.start c.told c.last
  -- 2. At each moment, whatever a power cut leaves stands for a state whose tree is that after the first of the accepted changes.
  pub moments : IsTrue tells → Adds old.past new.past (EachImage (StandsForPrefix r c (passed r c) 0))
  -- 3. In the end nothing is unsynced and the disk stands for the state after the last answer. After a stop, whatever a power cut leaves
  -- stands for a state whose tree is that after all acknowledged changes, and maybe the one at which the volume stopped.
  pub leaves : IsTrue tells → Leaves r c c.last new.state
  -- 4. Where no change was accepted and no point was done, the disk stays as it was.
  pub idle : IsTrue tells → all_idle c.told c.last ≡ true → IsKept old new
  -- 5. The device has failed once for each answer that says so, once more at a stop, and not otherwise.
  pub faults : new.faults ≡ raised_by (faults_in c.told c.last) old.faults
