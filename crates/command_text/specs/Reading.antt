-- What a reader has, and what a call of it does.
use Rattle.std.specs.Prelude.{◌≡◌, ◌+◌, ◌++◌, ◌<◌, ◌≤◌, ℕ, Bool, List, [], ◌∷◌, length, Option, Some, Result, Ok, Err, IsTrue}
use Rattle.std.specs.List.{concat}
use Rattle.vol_numbers.specs.Cause.{raised}
use Rattle.wire_ends.specs.Ends.{Input, Takes}
use Rattle.command_text.specs.declared.item.Item.{Item}
use Rattle.command_text.specs.declared.item.Item.TheVariants as item
use Rattle.command_text.specs.declared.fault.TextFault.{TextFault}
use Rattle.command_text.specs.declared.fault.TextFault.TheVariants.{Source, BadStream, Budget, OutOfMemory}
use Rattle.command_text.specs.Front.{front}
use Rattle.command_text.specs.Front.Front.{Partial}
use Rattle.command_text.specs.Text.{Text, Next, is_end}
use Rattle.command_text.specs.Text.Next.{Given, Ended, Bad, Spent}

-- the bytes that were taken and belong to no item yet, how many more may be taken, whether the session is over, and the fault since which nothing is read
pub record Reading : Type 0 where
  pub held : List ℕ
  pub budget : ℕ
  pub is_over : Bool
  pub fault : Option TextFault

-- what is to be read, where this is left of the source
abbrev pub unread : Reading → Input → Text
unread reading source = record { bytes = reading.held ++ source.left; budget = length reading.held + reading.budget; is_over = reading.is_over }

-- What was read is what came next, and the text behind it is what is to be read now. A failed source and want of memory say nothing of the text.
abbrev pub ReadsNext : Next → Text → Result Item TextFault → Type 0
ReadsNext next behind (Ok (item.Command command)) = next ≡ Given (item.Command command) behind
ReadsNext next behind (Ok (item.Refused refusal)) = next ≡ Given (item.Refused refusal) behind
ReadsNext next behind (Ok item.Ended) = next ≡ Ended
ReadsNext next behind (Err BadStream) = next ≡ Bad
ReadsNext next behind (Err Budget) = next ≡ Spent
ReadsNext next behind (Err Source) = Unit {0}
ReadsNext next behind (Err OutOfMemory) = Unit {0}

-- the bytes decide no answer
abbrev pub Undecided : List ℕ → Type 0
Undecided bytes = front bytes ≡ Partial

-- each piece has at most 4,096 bytes, and was needed: this holds of the bytes before it
abbrev pub EachNeeded : (List ℕ → Type 0) → List ℕ → List (List ℕ) → Type 0
EachNeeded Holds before [] = Unit {0}
EachNeeded Holds before (piece ∷ pieces) = (length piece ≤ 4096) × Holds before × EachNeeded Holds (before ++ piece) pieces

-- behind the bytes that were held, these were taken in pieces, each of which was needed
pub record TakesNeeded (Holds : List ℕ → Type 0) (held taken : List ℕ) : Type 0 where
  pub pieces : List (List ℕ)
  pub parts : taken ≡ concat pieces
  pub each : EachNeeded Holds held pieces

-- Bytes were taken, as many as the budget has fewer now. Each piece was taken only while the bytes that were held decided no answer.
pub record TakesForNext (old new : Reading) (from to : Input) : Type 0 where
  pub taken : List ℕ
  pub takes : Takes from to taken
  pub counted : old.budget ≡ length taken + new.budget
  pub needed : TakesNeeded Undecided old.held taken

-- Where the source failed, what is held is less than an item, and nothing that was taken is lost.
pub record LeftUndecided (old new : Reading) (from to : Input) : Type 0 where
  pub undecided : Undecided new.held
  pub kept : IsTrue from.is_told → old.held ++ from.left ≡ new.held ++ to.left

-- a failed source is counted, and nothing else
abbrev pub HasTextCause : {T : Type 0} → ℕ → ℕ → Result T TextFault → Type 0
HasTextCause old new (Ok value) = new ≡ old
HasTextCause old new (Err Source) = new ≡ raised old
HasTextCause old new (Err BadStream) = new ≡ old
HasTextCause old new (Err Budget) = new ≡ old
HasTextCause old new (Err OutOfMemory) = new ≡ old

-- After an item fewer bytes are held or may be taken.
abbrev pub Falls : ℕ → ℕ → Result Item TextFault → Type 0
Falls old new (Ok (item.Command command)) = new < old
Falls old new (Ok (item.Refused refusal)) = new < old
Falls old new (Ok item.Ended) = Unit {0}
Falls old new (Err fault) = Unit {0}

-- the reader of a session that has ended, or after a fault
abbrev pub settled : Reading → Result Item TextFault → Reading
settled reading (Ok item) = record reading { is_over = is_end item }
settled reading (Err fault) = record reading { fault = Some fault }
