-- Bits of one word.
use Rattle.std.proofs.Common.{◌≡◌, ◌≢◌, ℕ, ◌+◌, ◌*◌, ◌-◌, ◌%◌, ◌^◌, ◌<◌, ◌≤◌, ◌⊎◌, ⊎_elim, ap, ◌∙◌, arith, bit_and, bit_or, w64}
use Rattle.std.specs.Int.{bit_at, bit_not, trailing_ones}
use Rattle.std.specs.Int.Count.{trailing_of_zero}
use Rattle.std.proofs.lemmas.Nat.{trailing_le}
use Rattle.std.proofs.lemmas.Nat.Bits.{bit_at_set_same, bit_at_set_other, bit_at_clear_same, bit_at_clear_other, bit_at-trailing_ones, bit_at_ones}
use Rattle.number_set.specs.Bits.{full_word}

pub set_same : (word place : ℕ) → place < 64 → bit_at (bit_or word (1 * 2 ^ place % 2 ^ 64)) place ≡ 1
set_same word place within = bit_at_set_same w64 word place within

pub set_other : (word place i : ℕ) → place < 64 → i ≢ place → bit_at (bit_or word (1 * 2 ^ place % 2 ^ 64)) i ≡ bit_at word i
set_other word place i within ne = bit_at_set_other w64 word place within i ne

pub clear_same : (word place : ℕ) → place < 64 → bit_at (bit_and word (18446744073709551615 - 1 * 2 ^ place % 2 ^ 64)) place ≡ 0
clear_same word place within = bit_at_clear_same w64 word place within

pub clear_other : (word place i : ℕ) → place < 64 → i < 64 → i ≢ place → bit_at (bit_and word (18446744073709551615 - 1 * 2 ^ place % 2 ^ 64)) i ≡ bit_at word i
clear_other word place i within lt ne = bit_at_clear_other w64 word place within i lt ne

-- how many bits of a word are set from the lowest on
full_ones : trailing_ones w64 full_word ≡ 64
full_ones = trailing_of_zero 64

by_full : (word : ℕ) → word < 2 ^ 64 → (word ≡ full_word) ⊎ (word + 1 < 2 ^ 64)
by_full word fits = grind arith

ones_within : (word : ℕ) → trailing_ones w64 word ≤ 64
ones_within word = trailing_le 64 (bit_not w64 word)

pub ones_below : (word i : ℕ) → word < 2 ^ 64 → i < trailing_ones w64 word → bit_at word i ≡ 1
ones_below word i fits lt = ⊎_elim
    (λ (full : word ≡ full_word). ap (λ w. bit_at w i) full ∙ bit_at_ones 64 i (omega (arith, ones_within word, lt)))
    (λ (small : word + 1 < 2 ^ 64). (bit_at-trailing_ones w64 word small).2 i lt)
    (by_full word fits)

pub ones_next : (word : ℕ) → word < 2 ^ 64 → trailing_ones w64 word < 64 → bit_at word (trailing_ones w64 word) ≡ 0
ones_next word fits lt = ⊎_elim
    (λ (full : word ≡ full_word). let all = ap (trailing_ones w64) full ∙ full_ones in absurd (omega (arith, lt, all)))
    (λ (small : word + 1 < 2 ^ 64). (bit_at-trailing_ones w64 word small).1)
    (by_full word fits)

-- what a bit is after it is set or cleared, and the bits of a word whose lowest are set
pub ruleset word_bits = (set_same, set_other, clear_same, clear_other, ones_below, ones_next)
