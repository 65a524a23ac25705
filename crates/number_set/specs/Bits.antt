-- The bits that a set is kept as, in words of private functions alone.
use Rattle.std.specs.Prelude.{◌≡◌, ◌<◌, ℕ, zero, suc, ◌*◌, ◌/◌, ◌%◌, Bool, cond, nat_eq, List, [], ◌∷◌, length, slice_index}
use Rattle.std.specs.Int.{bit_at}
use Rattle.std.specs.Ordering.{nat_cmp}
use Rattle.std.specs.FinSet as set

-- a word in which each bit is set
abbrev pub full_word : ℕ
full_word = 18446744073709551615

-- whether the bit of this place is set, 64 a word
abbrev pub has_bit : List ℕ → ℕ → Bool
has_bit words place = nat_eq (bit_at (slice_index words (place / 64)) (place % 64)) 1

-- the numbers below a limit that pass a test, from the last down
unfoldable pub below : (ℕ → Bool) → ℕ → List ℕ
below passes zero = []
below passes (suc n) = cond (passes n) (n ∷ below passes n) (below passes n)

-- the numbers whose bits are set
unfoldable pub members : List ℕ → set.FinSet nat_cmp
members words = set.from_list (below (has_bit words) (64 * length words))

-- the bits above say which words are full
abbrev pub SaysFull : List ℕ → List ℕ → Type 0
SaysFull words above = (i : ℕ) → i < length words → has_bit above i ≡ nat_eq (slice_index words i) full_word

-- a bit for each number up to 65,535, and two levels of sums
pub record IsSummed (words full top : List ℕ) : Type 0 where
  pub words_length : length words ≡ 1024
  pub full_length : length full ≡ 16
  pub top_length : length top ≡ 1
  pub full_words : SaysFull words full
  pub full_groups : SaysFull full top
