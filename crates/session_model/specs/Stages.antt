-- The states that a disk may stand for during a course.
use Rattle.std.specs.Prelude.{◌≡◌, ◌⊎◌, ◌≤◌, ◌++◌, ℕ, List, [], ◌∷◌, length, take, Option}
use Rattle.vol_numbers.specs.declared.block.Block.{Block}
use Rattle.tree_model.specs.declared.command.Command.{Command}
use Rattle.tree_model.specs.declared.report.Report.{Report}
use Rattle.volume_model.specs.Legal.{when_answered}
use Rattle.volume_model.specs.Machine.{Machine, Rules, stored}
use Rattle.image_model.specs.Stands.{Stands}
use Rattle.session_model.specs.Given.{report_in}
use Rattle.session_model.specs.Course.{Course, Exchange, Last, accepted, accepted_by, accepted_last, report_last, after, next_by, tree_after}

-- the state before, the state after the point, and that with the changes done
abbrev pub stages : Rules → Machine → Option Report → List Command → List Machine
stages r m report commands = m ∷ when_answered r m report ∷ after r m report commands ∷ []

-- those of an exchange
abbrev pub stages_by : Rules → Machine → Exchange → List Machine
stages_by r m e = stages r m (report_in e.answer) (accepted_by e)

-- those of the last item
abbrev pub last_stages : Rules → Machine → Last → List Machine
last_stages r m last = stages r m (report_last last) (accepted_last r m last)

-- those of all these exchanges, and of the last item
abbrev pub passed_from : Rules → Machine → List Exchange → Last → List Machine
passed_from r m [] last = last_stages r m last
passed_from r m (e ∷ es) last = stages_by r m e ++ passed_from r (next_by r m e) es last

-- all states that a course passes
abbrev pub passed : Rules → Course → List Machine
passed r c = passed_from r c.start c.told c.last

-- the state is one of these
abbrev pub IsOneOf : List Machine → Machine → Type 0
IsOneOf [] m = ⊥
IsOneOf (s ∷ ss) m = (m ≡ s) ⊎ IsOneOf ss m

-- the image stands for one of these states
pub record StandsForOne (states : List Machine) (image : List Block) : Type 0 where
  pub state : Machine
  pub is_one : IsOneOf states state
  pub stands : Stands image (stored state)

-- The image stands for one of these states, in which the tree is that after the first of the accepted changes, at least so many of them.
pub record StandsForPrefix (r : Rules) (c : Course) (states : List Machine) (least : ℕ) (image : List Block) : Type 0 where
  pub state : Machine
  pub is_one : IsOneOf states state
  pub stands : Stands image (stored state)
  pub count : ℕ
  pub at_least : least ≤ count
  pub at_most : count ≤ length (accepted r c)
  pub tree : state.tree ≡ tree_after c.start.tree (take count (accepted r c))
