-- How courses are made: of nothing, of one item, and of two courses.
use Rattle.std.specs.Prelude.{◌≡◌, ◌≢◌, ◌++◌, Bool, true, [], ◌∷◌, IsTrue}
use Rattle.disk_model.specs.Disk.{State, EachImage}
use Rattle.disk_model.specs.Past.{Adds}
use Rattle.tree_model.specs.declared.command.Command.{Command}
use Rattle.volume_model.specs.Machine.{Machine, Rules}
use Rattle.command_text.specs.declared.item.Item.TheVariants as item
use Rattle.session_model.specs.Course.{Course, Exchange, Last, end_of, next_by}
use Rattle.session_model.specs.Course.Last.{Nothing, Untold, Stop}
use Rattle.session_model.specs.Stages.{StandsForOne, last_stages}
use Rattle.session_model.specs.Answered.{EachPaired, IsLegalLast}
use Rattle.session_model.specs.Follows.{Seen, Follows, IsAtRest, IsKept, is_idle_last, faults_in, raised_by}

-- the course in which nothing was read
abbrev pub no_course : Machine → Course
no_course m = record { start = m; told = []; last = Nothing }

-- the course of one item whose answer was told
abbrev pub one_told : Machine → Exchange → Course
one_told m e = record { start = m; told = e ∷ []; last = Nothing }

-- the course of one item that is the last
abbrev pub one_last : Machine → Last → Course
one_last m last = record { start = m; told = []; last = last }

-- one behind the other
abbrev pub joined : Course → Course → Course
joined c d = record { start = c.start; told = c.told ++ d.told; last = d.last }

-- with an exchange more
abbrev pub with_told : Course → Exchange → Course
with_told c e = record { start = c.start; told = c.told ++ e ∷ []; last = Nothing }

-- where the disk is after an answer, or after a stop
abbrev pub IsLeft : Rules → Machine → Last → State → Type 0
IsLeft r m Nothing s = IsAtRest m s
IsLeft r m (Untold e) s = IsAtRest (next_by r m e) s
IsLeft r m (Stop command report) s = (s.unsynced ≢ []) × EachImage (StandsForOne (last_stages r m (Stop command report))) s

-- What a volume in state m owes at an item, by what comes of it.
pub record Applies (r : Rules) (tells : Bool) (m : Machine) (last : Last) (old new : Seen) : Type 0 where
  pub legal : IsTrue tells → IsLegalLast r m last
  pub during : IsTrue tells → Adds old.past new.past (EachImage (StandsForOne (last_stages r m last)))
  pub left : IsTrue tells → IsLeft r m last new.state
  pub idle : IsTrue tells → is_idle_last last ≡ true → IsKept old new
  pub faults : new.faults ≡ raised_by (faults_in [] last) old.faults

-- Where nothing is read the disk is at rest and stays so.
abbrev pub NoCourse : Bool → Seen → Type 0
NoCourse tells disk = (r : Rules) (m : Machine) → (IsTrue tells → IsAtRest m disk.state) → Follows r tells (no_course m) disk disk

-- What a volume does at an item is a course, if the item is the last.
abbrev pub OneLast : Bool → Seen → Seen → Type 0
OneLast tells old new = (r : Rules) (m : Machine) (last : Last) → EachPaired [] last → Applies r tells m last old new → Follows r tells (one_last m last) old new

-- It is one too, if the answer is told.
abbrev pub OneTold : Bool → Seen → Seen → Type 0
OneTold tells old new = (r : Rules) (m : Machine) (e : Exchange) → EachPaired [] (Untold e) → Applies r tells m (Untold e) old new → Follows r tells (one_told m e) old new

-- A line that is no command is answered with nothing done.
abbrev pub OneRefused : Bool → Seen → Type 0
OneRefused tells disk = (r : Rules) (m : Machine) (e : Exchange) → EachPaired [] (Untold e) → ((command : Command) → e.item ≢ item.Command command) → (IsTrue tells → IsAtRest m disk.state)
    → Applies r tells m (Untold e) disk disk

-- Two courses are one, where the first goes on and the second starts in the state that the first leads to.
abbrev pub Joined : Bool → Seen → Seen → Seen → Type 0
Joined tells old mid new = (r : Rules) (c d : Course) → c.last ≡ Nothing → d.start ≡ end_of r c → Follows r tells c old mid → Follows r tells d mid new → Follows r tells (joined c d) old new

-- A course and one exchange more, in the state that it has led to.
abbrev pub OneMore : Bool → Seen → Seen → Seen → Type 0
OneMore tells old mid new = (r : Rules) (c : Course) (e : Exchange) → c.last ≡ Nothing → EachPaired [] (Untold e) → Follows r tells c old mid
    → Applies r tells (end_of r c) (Untold e) mid new → Follows r tells (with_told c e) old new
