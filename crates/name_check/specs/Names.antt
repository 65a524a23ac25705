-- Which numbers the entries of directories name.
use Rattle.std.specs.Prelude.{◌≡◌, ℕ, ◌==◌, nat_lt, List, flat_map, filter_map, count_by}
use Rattle.std.specs.FinSet as set
use Rattle.block_format.specs.declared.slot.Slot.{Slot}
use Rattle.held_list.specs.declared.held.Held.{Held as Directories}
use Rattle.image_model.specs.Nodes.{number_named}
use Rattle.name_check.specs.declared.naming.Naming.{Naming}

-- the numbers that the entries of a directory name
abbrev pub numbers_in : List Slot → List ℕ
numbers_in slots = filter_map number_named slots

-- the numbers that the entries of all directories name, with repeats
abbrev pub numbers_by : List Directories → List ℕ
numbers_by held = flat_map (λ h. numbers_in h.slots) held

-- how often a number is named
abbrev pub times : ℕ → List ℕ → ℕ
times n named = count_by (λ m. m == n) named

-- Each number that is named is marked, and each that is named more than once is marked again.
pub record HasNamed (naming : Naming) (named : List ℕ) : Type 0 where
  pub once : (n : ℕ) → set.contains naming.once n ≡ nat_lt 0 (times n named)
  pub again : (n : ℕ) → set.contains naming.again n ≡ nat_lt 1 (times n named)
