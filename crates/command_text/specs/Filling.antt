-- How a reader fills up, and when it stops.
use Rattle.std.specs.Prelude.{◌≡◌, ◌+◌, ◌<◌, ◌≤◌, ◌++◌, ◌⊎◌, ℕ, List, [], length, take, drop, position, Option, Some, IsTrue, Result, Ok, Err}
use Rattle.wire_ends.specs.Ends.{Input, Takes}
use Rattle.command_text.specs.declared.item.Item.{Item}
use Rattle.command_text.specs.declared.item.Item.TheVariants as item
use Rattle.command_text.specs.declared.fault.TextFault.{TextFault}
use Rattle.command_text.specs.declared.fault.TextFault.TheVariants.{Source, BadStream, Budget, OutOfMemory}
use Rattle.line_text.specs.declared.line.Said.TheVariants as line
use Rattle.command_text.specs.declared.line_end.LineEnd.{LineEnd}
use Rattle.command_text.specs.declared.line_end.LineEnd.TheVariants.{At, TooLong, Missing}
use Rattle.line_text.specs.Lines.{line_in}
use Rattle.command_text.specs.Front.{front, is_newline}
use Rattle.command_text.specs.Front.Front.{Whole, Wrong}
use Rattle.command_text.specs.Reading.{Reading, Undecided, TakesNeeded, settled}

-- a piece was taken behind the bytes that were held
pub record HoldsMore (old new : List ℕ) (from to : Input) : Type 0 where
  pub piece : List ℕ
  pub takes : Takes from to piece
  pub behind : new ≡ old ++ piece

-- a piece of at most 4,096 bytes was taken, and counted against the budget
pub record TakesPiece (old new : Reading) (from to : Input) : Type 0 where
  pub piece : List ℕ
  pub takes : Takes from to piece
  pub held : new.held ≡ old.held ++ piece
  pub counted : old.budget ≡ length piece + new.budget
  pub at_most : length piece ≤ 4096
  pub over : new.is_over ≡ old.is_over
  pub fault : new.fault ≡ old.fault

-- pieces were taken, each while this held of the bytes before it
pub record Fills (Holds : List ℕ → Type 0) (old new : Reading) (from to : Input) : Type 0 where
  pub taken : List ℕ
  pub takes : Takes from to taken
  pub held : new.held ≡ old.held ++ taken
  pub counted : old.budget ≡ length taken + new.budget
  pub needed : TakesNeeded Holds old.held taken
  pub over : new.is_over ≡ old.is_over
  pub fault : new.fault ≡ old.fault

-- the bytes are fewer than so many
abbrev pub IsShorter : ℕ → List ℕ → Type 0
IsShorter count bytes = length bytes < count

-- a line of at most 8,192 bytes ends at this place
pub record LineEnds (bytes : List ℕ) (end : ℕ) : Type 0 where
  pub found : position is_newline bytes ≡ Some end
  pub at_most : end ≤ 8192

-- the bytes begin no item, however they go on
abbrev pub IsWrong : List ℕ → Type 0
IsWrong bytes = (more : List ℕ) → front (bytes ++ more) ≡ Wrong

-- so many of the bytes are an item, however they go on
pub record IsWhole (bytes : List ℕ) (item : Item) (count : ℕ) : Type 0 where
  pub within : count ≤ length bytes
  pub whole : (more : List ℕ) → front (bytes ++ more) ≡ Whole item count

-- what the end of the first line is found to be
abbrev pub FindsLineEnd : List ℕ → LineEnd → Type 0
FindsLineEnd bytes (At end) = LineEnds bytes end
FindsLineEnd bytes TooLong = IsWrong bytes
FindsLineEnd bytes Missing = Undecided bytes

-- the line that ends at this place asks to write so many bytes
pub record AsksToWrite (bytes : List ℕ) (end : ℕ) (path : Option (List (List ℕ))) (offset count : ℕ) : Type 0 where
  pub ends : LineEnds bytes end
  pub says : line_in (take end bytes) ≡ line.Write path offset count

-- There is budget left, and the source has nothing, where it told its bytes at first.
pub record InputEnds (reading : Reading) (from to : Input) : Type 0 where
  pub some_budget : 0 < reading.budget
  pub nothing_left : IsTrue from.is_told → to.left ≡ []

-- The input ends behind the bytes that are held, and they are less than an item.
pub record EndsInside (reading : Reading) (from to : Input) : Type 0 where
  pub undecided : Undecided reading.held
  pub some : 0 < length reading.held
  pub ends : InputEnds reading from to

-- The budget ends behind the bytes that are held, and they are less than an item.
pub record BudgetEnds (reading : Reading) : Type 0 where
  pub undecided : Undecided reading.held
  pub spent : reading.budget ≡ 0

-- why no item was read
abbrev pub Stopped : TextFault → Reading → Input → Input → Type 0
Stopped BadStream reading from to = IsWrong reading.held ⊎ EndsInside reading from to
Stopped Budget reading from to = BudgetEnds reading
Stopped Source reading from to = Undecided reading.held
Stopped OutOfMemory reading from to = Unit {0}

-- so many bytes are an item, and what lies behind them is held
pub record GivesItem (item : Item) (old new : Reading) : Type 0 where
  pub count : ℕ
  pub some : 0 < count
  pub whole : IsWhole old.held item count
  -- no fewer bytes would have decided it
  pub needs : (before piece : List ℕ) → old.held ≡ before ++ piece → Undecided before → length before < count
  pub behind : new ≡ record old { held = drop count old.held }

-- the input ends before a line
pub record EndsBefore (old new : Reading) (from to : Input) : Type 0 where
  pub nothing : old.held ≡ []
  pub ends : InputEnds old from to
  pub same : new ≡ old

pub record Stops (fault : TextFault) (old new : Reading) (from to : Input) : Type 0 where
  pub stopped : Stopped fault old from to
  pub same : new ≡ old

-- what a full reader answers
abbrev pub Answers : Reading → Reading → Input → Input → Result Item TextFault → Type 0
Answers old new from to (Ok (item.Command command)) = GivesItem (item.Command command) old new
Answers old new from to (Ok (item.Refused refusal)) = GivesItem (item.Refused refusal) old new
Answers old new from to (Ok item.Ended) = EndsBefore old new from to
Answers old new from to (Err fault) = Stops fault old new from to

-- The reader fills up, and then answers.
pub record Reads (old new : Reading) (from to : Input) (result : Result Item TextFault) : Type 0 where
  pub full : Reading
  pub fills : Fills Undecided old full from to
  pub answers : Answers full new from to result

-- whether a fill stopped for want of bytes, of budget, by the source or for want of memory
abbrev pub Fails : TextFault → Reading → Input → Input → Type 0
Fails BadStream reading from to = InputEnds reading from to
Fails Budget reading from to = reading.budget ≡ 0
Fails Source reading from to = Unit {0}
Fails OutOfMemory reading from to = Unit {0}

-- What was read is remembered, where it ends the session or is a fault.
pub record ReadsSettled (old new : Reading) (from to : Input) (result : Result Item TextFault) : Type 0 where
  pub before : Reading
  pub reads : Reads old before from to result
  pub settled_after : new ≡ settled before result
