-- What is reached from number 1 over entries.
use Rattle.std.specs.Prelude.{◌≡◌, ◌≤◌, ◌==◌, ◌+◌, ◌||◌, ℕ, zero, suc, Bool, true, not, List, [], ◌∷◌, ◌++◌, length, count_by, flat_map, Option, Some, None}
use Rattle.std.specs.List.{list_any}
use Rattle.std.specs.FinSet as set
use Rattle.std.specs.Ordering.{nat_cmp}
use Rattle.block_format.specs.declared.slot.Slot.{Slot}
use Rattle.held_list.specs.Held.{slots_at}
use Rattle.held_list.specs.declared.held.Held.{Held as Directories}
use Rattle.name_check.specs.Names.{numbers_in}
use Rattle.name_check.specs.declared.reaching.Search.{Search}

-- a number is among these
abbrev pub is_among : List ℕ → ℕ → Bool
is_among numbers n = list_any (λ m. m == n) numbers

-- what a directory names, where there is one
abbrev pub numbers_of : Option (List Slot) → List ℕ
numbers_of None = []
numbers_of (Some slots) = numbers_in slots

-- what the directory of a number names
abbrev pub named_at : List Directories → ℕ → List ℕ
named_at held n = numbers_of (slots_at held n)

-- what is reached in k steps at most
abbrev pub reached_from : List Directories → ℕ → List ℕ
reached_from held zero = 1 ∷ []
reached_from held (suc k) = reached_from held k ++ flat_map (named_at held) (reached_from held k)

-- how many directories aren't reached
abbrev pub count_unreached : List Directories → set.FinSet nat_cmp → ℕ
count_unreached held reached = count_by (λ h. not (set.contains reached h.number)) held

-- Each directory that is reached is in the queue, each of the queue is reached, and there are no more in the queue than directories that are reached.
pub record IsSearch (held : List Directories) (search : Search) : Type 0 where
  pub queued : (n : ℕ) (slots : List Slot) → set.contains search.reached n ≡ true → slots_at held n ≡ Some slots → is_among search.queue.items n ≡ true
  pub reached : (n : ℕ) → is_among search.queue.items n ≡ true → set.contains search.reached n ≡ true
  pub room : length search.queue.items + count_unreached held search.reached ≤ length held

-- These numbers are reached too and no others, and the queue goes on.
pub record Reaches (numbers : List ℕ) (old new : Search) : Type 0 where
  pub reached : (n : ℕ) → set.contains new.reached n ≡ (set.contains old.reached n || is_among numbers n)
  pub queue : (rest : List ℕ) × (new.queue.items ≡ old.queue.items ++ rest)
