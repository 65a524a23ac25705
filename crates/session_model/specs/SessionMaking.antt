-- How sessions are made of one item, and of two sessions.
use Rattle.std.specs.Prelude.{◌≡◌, ℕ, Bool, [], Option, None, IsTrue}
use Rattle.disk_model.specs.Disk.{State, EachImage}
use Rattle.disk_model.specs.Past.{Past, Adds}
use Rattle.wire_ends.specs.Ends.{Input, Output, Puts}
use Rattle.volume_model.specs.Machine.{Machine, Rules}
use Rattle.state_laws.specs.States.{IsReached}
use Rattle.command_text.specs.Text.{Text, next, Reads}
use Rattle.command_text.specs.Text.Next.{Given}
use Rattle.session_model.specs.Given.{given_text}
use Rattle.session_model.specs.Course.{Course, Exchange, Last, accepted, acknowledged, end_of, next_by}
use Rattle.session_model.specs.Course.Last.{Untold}
use Rattle.session_model.specs.Stages.{StandsForPrefix, passed}
use Rattle.session_model.specs.Answered.{EachPaired}
use Rattle.session_model.specs.Follows.{Seen}
use Rattle.session_model.specs.Making.{Applies, one_last}
use Rattle.session_model.specs.Runs.{HasRun}
use Rattle.session_model.specs.Session.{Point, TakesFor, EndsBy, Session, Served, HasNoMore, items_last, part_of, with_opening}
use Rattle.session_model.specs.declared.status.Status.{Status}

-- a point of a session by its parts
abbrev pub point : Text → ℕ → Input → Output → Seen → Point
point text room source sink disk = record { text = text; room = room; source = source; sink = sink; disk = disk }

-- Nothing was read, or an item whose answer was not put whole, or at which the volume stopped.
abbrev pub SessionLast : Bool → Seen → Seen → Type 0
SessionLast tells d d' = (r : Rules) (m : Machine) (last : Last) (t t' rest : Text) (n n' : ℕ) (i i' : Input) (o o' : Output) (cut : ℕ) (ended : Option Status)
    → EachPaired [] last → Applies r tells m last d d' → (IsTrue i.is_told → IsTrue i'.is_told) → (IsTrue i.is_told → Reads t (items_last last) rest)
    → TakesFor ended (point t n i o d) (point t' n' i' o' d') → Puts o o' (part_of last cut) → EndsBy ended (IsTrue i.is_told) (point t' n' i' o' d') rest last cut
    → Session r tells m (end_of r (one_last m last)) (point t n i o d) (point t' n' i' o' d') ended

-- An item was read, and its answer was put.
abbrev pub SessionTold : Bool → Seen → Seen → Type 0
SessionTold tells d d' = (r : Rules) (m : Machine) (e : Exchange) (t t' : Text) (n n' : ℕ) (i i' : Input) (o o' : Output)
    → EachPaired [] (Untold e) → Applies r tells m (Untold e) d d' → (IsTrue i.is_told → IsTrue i'.is_told) → (IsTrue i.is_told → next t ≡ Given e.item t')
    → TakesFor None (point t n i o d) (point t' n' i' o' d') → Puts o o' (given_text e.answer)
    → Session r tells m (next_by r m e) (point t n i o d) (point t' n' i' o' d') None

-- Two sessions, one behind the other, are one.
abbrev pub SessionThen : Bool → Seen → Seen → Seen → Type 0
SessionThen tells d d' d'' = (r : Rules) (start between left : Machine) (ended : Option Status) (t t' t'' : Text) (n n' n'' : ℕ) (i i' i'' : Input) (o o' o'' : Output)
    → Session r tells start between (point t n i o d) (point t' n' i' o' d') None → Session r tells between left (point t' n' i' o' d') (point t'' n'' i'' o'' d'') ended
    → Session r tells start left (point t n i o d) (point t'' n'' i'' o'' d'') ended

-- The moments of an opening, and behind them those of a session, are in what is said of a disk that is opened.
abbrev pub OpeningThen : State → Past → Past → Past → Type 0
OpeningThen start p p' p'' = (r : Rules) (c : Course) → Adds p p' (HasNoMore start) → Adds p' p'' (EachImage (StandsForPrefix r c (passed r c) 0))
    → Adds (with_opening p start) p'' (EachImage (StandsForPrefix r c (passed r c) 0))

-- A session that was served is a run, by its course.
abbrev pub ServedRuns : Bool → Seen → Seen → Type 0
ServedRuns tells d d' = (r : Rules) (t t' : Text) (n n' : ℕ) (i i' : Input) (o o' : Output) (status : Status) → IsTrue tells
    → (s : Served r tells (point t n i o d) (point t' n' i' o' d') status) → HasRun d'.state s.start.tree (acknowledged s.session.course) (accepted r s.session.course)

-- The state in which a session that was served begins is one that is reached.
abbrev pub ServedIsReached : Bool → Seen → Seen → Type 0
ServedIsReached tells d d' = (r : Rules) (t t' : Text) (n n' : ℕ) (i i' : Input) (o o' : Output) (status : Status) → IsTrue tells
    → (s : Served r tells (point t n i o d) (point t' n' i' o' d') status) → IsReached r s.start
