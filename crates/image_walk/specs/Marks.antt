-- What leads to each block, of all that a walk has met.
use Rattle.std.specs.Prelude.{◌≡◌, ℕ, ◌+◌, ◌-◌, ◌^◌, min, true, false, List, slice_index_or}
use Rattle.std.specs.List.{list_any}
use Rattle.image_model.specs.Met.{Met, is_metadata_at, is_content_at, pointers_to}
use Rattle.image_walk.specs.declared.marks.Mark.{Mark}

-- nothing leads to the block
abbrev pub no_mark : Mark
no_mark = record { is_metadata = false; is_content = false; pointers = 0 }

-- what leads to a block; nothing does to one that has no mark
abbrev pub mark_of : List Mark → ℕ → Mark
mark_of marks b = slice_index_or marks b no_mark

-- The marks say of each block whether it is metadata, whether it is a file's, and how many pointers lead to it.
pub record Says (marks : List Mark) (met : List Met) : Type 0 where
  pub metadata : (b : ℕ) → (mark_of marks b).is_metadata ≡ list_any (is_metadata_at b) met
  pub content : (b : ℕ) → (mark_of marks b).is_content ≡ list_any (is_content_at b) met
  pub pointers : (b : ℕ) → (mark_of marks b).pointers ≡ pointers_to b met

-- ---- of private functions: while the walk goes on, a count stands still at its greatest value

-- one more, but for the greatest value
abbrev pub one_more : ℕ → ℕ
one_more n = min (n + 1) (2 ^ 32 - 1)

abbrev pub as_metadata : Mark → Mark
as_metadata m = record { is_metadata = true; is_content = m.is_content; pointers = one_more m.pointers }

abbrev pub as_content : Mark → Mark
as_content m = record { is_metadata = m.is_metadata; is_content = true; pointers = one_more m.pointers }

-- as Says, with each count up to its greatest value
pub record SaysUpTo (marks : List Mark) (met : List Met) : Type 0 where
  pub metadata : (b : ℕ) → (mark_of marks b).is_metadata ≡ list_any (is_metadata_at b) met
  pub content : (b : ℕ) → (mark_of marks b).is_content ≡ list_any (is_content_at b) met
  pub pointers : (b : ℕ) → (mark_of marks b).pointers ≡ min (pointers_to b met) (2 ^ 32 - 1)
