-- What a rewriting of inodes has found so far. These words are for the contracts of private functions.
use Rattle.std.specs.Prelude.{◌≡◌, ℕ, ◌+◌, List, []}
use Rattle.vol_numbers.specs.declared.runs.Page.{Page}
use Rattle.block_tree.specs.Tree.{nonzero}
use Rattle.place_words.specs.Different.{times}

-- the pages to be written, and the pointers that come and that go, with repeats
pub record Noted : Type 0 where
  pub pages : List Page
  pub added : List ℕ
  pub dropped : List ℕ

abbrev pub no_notes : Noted
no_notes = record { pages = []; added = []; dropped = [] }

-- The pointers of before, with those that were added and without those that were dropped, are the pointers of after.
pub record Settles (before after : List ℕ) (m n : Noted) : Type 0 where
  pub each : (b : ℕ) → times b (nonzero before) + times b n.added + times b m.dropped ≡ times b (nonzero after) + times b m.added + times b n.dropped
