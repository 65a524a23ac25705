-- Which numbers and which pages of directories have something staged.
use Rattle.std.specs.Prelude.{◌≡◌, ℕ, ◌/◌, List, ◌++◌, map}
use Rattle.place_words.specs.Different.{is_among}
use Rattle.place_words.specs.Rising.{Rising}
use Rattle.dirty_store.specs.Entries.{Entries}
use Rattle.dirty_store.specs.Overlay.{Overlay, dirty_places}

-- the number of each entry's node
abbrev pub numbers_in : {T : Type 0} → Entries T → List ℕ
numbers_in entries = map (λ e. e.0.0) entries

-- the numbers that have a dirty place, a staged node or a staged slot, with repeats
abbrev pub staged_numbers : Overlay → List ℕ
staged_numbers o = numbers_in o.blocks ++ (map (λ e. e.0) o.nodes ++ numbers_in o.slots)

-- the page of each staged slot of a directory, with repeats: a page has 16 slots
abbrev pub staged_pages : Overlay → ℕ → List ℕ
staged_pages o directory = map (λ k. k / 16) (dirty_places o.slots directory)

-- These are the same numbers in ascending order, each once.
pub record AreOnce (all once : List ℕ) : Type 0 where
  pub rises : Rising 0 once
  pub each : (n : ℕ) → is_among once n ≡ is_among all n
