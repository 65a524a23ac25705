-- Laws of counting.
use Rattle.std.specs.Prelude.{◌≡◌, ◌↔◌, ◌≤◌, ℕ, ◌+◌, true, List, [], ◌∷◌, length}
use Rattle.place_words.specs.Different.{different, passing, is_among, span, total, times, Distinct, AllWithin}
use Rattle.place_words.specs.Index.{index_blocks}
use Rattle.place_words.specs.Rising.{Rising, AllUnder}

-- Where all lie in a span, the different numbers are those of the span that are among them.
abbrev pub DifferentIs : Type 0
DifferentIs = (low size : ℕ) (ns : List ℕ) → AllWithin low (low + size) ns → different ns ≡ passing (is_among ns) (span low size)

-- The same numbers, in any order and however often, are as many different ones.
abbrev pub DifferentSame : Type 0
DifferentSame = (ms ns : List ℕ) → ((k : ℕ) → is_among ms k ≡ is_among ns k) → different ms ≡ different ns

-- A part of the numbers has at most as many different ones.
abbrev pub DifferentPart : Type 0
DifferentPart = (ms ns : List ℕ) → ((k : ℕ) → is_among ms k ≡ true → is_among ns k ≡ true) → different ms ≤ different ns

-- Numbers of which none stands twice are all different.
abbrev pub DistinctCount : Type 0
DistinctCount = (ns : List ℕ) → Distinct ns → different ns ≡ length ns

-- What is summed over the same numbers, each there once, is the same.
abbrev pub TotalSame : Type 0
TotalSame = (worth : ℕ → ℕ) (ms ns : List ℕ) → Distinct ms → Distinct ns → ((k : ℕ) → is_among ms k ≡ is_among ns k) → total worth ms ≡ total worth ns

-- A number is among some exactly where it is there at least once.
abbrev pub AmongTimes : Type 0
AmongTimes = (n : ℕ) (ns : List ℕ) → (is_among ns n ≡ true) ↔ (1 ≤ times n ns)

-- As many rising numbers as a span has, all in it, are the span.
abbrev pub RisingFull : Type 0
RisingFull = (n k : ℕ) (ns : List ℕ) → Rising n ns → AllUnder (n + k) ns → length ns ≡ k → ns ≡ span n k

-- A node with at most one block has no index block, and neither has one with nothing but holes. 2 blocks and 1,024 have a leaf. 1,025 have
-- two leaves and a top where both leaves have a place, and a leaf and a top where all places are in one leaf. Of 1,048,576 blocks of which the
-- last alone is there, the index is a leaf and a top.
pub record IndexRows : Type 0 where
  pub none : index_blocks 0 [] ≡ 0
  pub one_block : index_blocks 1 (0 ∷ []) ≡ 0
  pub two_blocks : index_blocks 2 (0 ∷ 1 ∷ []) ≡ 1
  pub holes : index_blocks 1048576 [] ≡ 0
  pub one_leaf : index_blocks 1024 (0 ∷ 1023 ∷ []) ≡ 1
  pub two_leaves : index_blocks 1025 (0 ∷ 1023 ∷ 1024 ∷ []) ≡ 3
  pub first_leaf_alone : index_blocks 1025 (0 ∷ 1023 ∷ []) ≡ 2
  pub last_leaf_alone : index_blocks 1025 (1024 ∷ []) ≡ 2
  pub last_block : index_blocks 1048576 (1048575 ∷ []) ≡ 2
