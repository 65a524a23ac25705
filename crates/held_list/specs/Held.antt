-- Directories by the numbers of their nodes.
use Rattle.std.specs.Prelude.{ℕ, ◌<◌, ◌==◌, nat_lt, if◌then◌else◌, List, [], ◌∷◌, Option, Some, None}
use Rattle.block_format.specs.declared.slot.Slot.{Slot}
use Rattle.held_list.specs.declared.held.Held.{Held}

-- each number is above this one
abbrev pub AllAbove : ℕ → List Held → Type 0
AllAbove n [] = Unit {0}
AllAbove n (h ∷ hs) = (n < h.number) × AllAbove n hs

-- each number is below this one
abbrev pub AllBelow : ℕ → List Held → Type 0
AllBelow n [] = Unit {0}
AllBelow n (h ∷ hs) = (h.number < n) × AllBelow n hs

-- each number is below those behind it
abbrev pub IsInOrder : List Held → Type 0
IsInOrder [] = Unit {0}
IsInOrder (h ∷ hs) = AllAbove h.number hs × IsInOrder hs

-- the slots of the directory of a number
abbrev pub slots_at : List Held → ℕ → Option (List Slot)
slots_at [] n = None
slots_at (h ∷ hs) n = if h.number == n then Some h.slots else slots_at hs n

-- with these slots under a number, whatever it had
abbrev pub with_slots : List Held → ℕ → List Slot → List Held
with_slots [] n slots = record { number = n; slots = slots } ∷ []
with_slots (h ∷ hs) n slots =
    if h.number == n then record { number = n; slots = slots } ∷ hs
    else if nat_lt n h.number then record { number = n; slots = slots } ∷ h ∷ hs
    else h ∷ with_slots hs n slots

-- without the directory of a number
abbrev pub without : List Held → ℕ → List Held
without [] n = []
without (h ∷ hs) n = if h.number == n then hs else h ∷ without hs n
