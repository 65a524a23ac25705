-- Numbers in a row: what is read is what is spelled.
use Rattle.std.proofs.Common.{◌≡◌, ◌<◌, ◌≤◌, ⊎_elim, ℕ, zero, suc, ◌+◌, ◌*◌, ◌^◌, List, [], ◌∷◌, ◌++◌, length, take, drop, refl, ap, ◌∙◌, arith, ◌-◌, get_or}
use Rattle.std.proofs.lemmas.Nat.{le_bytes_4}
use Rattle.std.specs.Prelude.{All, slice_index, slice_set}
use Rattle.std.specs.List.{AllByRecursion}
use Rattle.byteorder.specs.Endian.{little_bytes, little_number, IsRead}
use Rattle.byteorder.specs.Numbers.{little_number-reads_back}
use Rattle.block_format.specs.Words.{words, IsBytes}
use Rattle.vol_numbers.specs.Layout.{Layout, IsValid}
use Rattle.block_format.specs.Index.{index_bytes, SpellsIndex, IsPointer}
use Rattle.block_format.specs.Counts.{SpellsCounts}

-- four bytes in front move the numbers on
drop_four : (k a b c d : ℕ) (rest : List ℕ) → drop (4 * suc k) (a ∷ b ∷ c ∷ d ∷ rest) ≡ drop (4 * k) rest
drop_four k a b c d rest =
    let e : 4 * suc k ≡ suc (suc (suc (suc (4 * k)))) = omega arith in
    ap (λ (n : ℕ). drop n (a ∷ b ∷ c ∷ d ∷ rest)) e

-- a reader of numbers in a row reads the words
pub words-read : (src dst : List ℕ) → length src ≡ 4 * length dst → IsRead (λ n xs. little_number n xs) 4 src dst → dst ≡ words src
unfolding words
words-read [] [] e is = refl
words-read [] (x ∷ dst) e is = absurd (omega arith)
words-read (a ∷ []) dst e is = absurd (omega arith)
words-read (a ∷ b ∷ []) dst e is = absurd (omega arith)
words-read (a ∷ b ∷ c ∷ []) dst e is = absurd (omega arith)
words-read (a ∷ b ∷ c ∷ d ∷ rest) [] e is = absurd (omega arith)
words-read (a ∷ b ∷ c ∷ d ∷ rest) (x ∷ dst) e is =
    let head : x ≡ little_number 4 (a ∷ b ∷ c ∷ d ∷ rest) = is 0 (omega arith) in
    let next : IsRead (λ n xs. little_number n xs) 4 rest dst = λ k lt. is (suc k) (omega arith) ∙ ap (λ (xs : List ℕ). little_number 4 xs) (drop_four k a b c d rest) in
    let tail = words-read rest dst (omega arith) next in
    λ i. head i ∷ tail i

each_byte : (a b c d : ℕ) → a < 256 → b < 256 → c < 256 → d < 256 → (i : ℕ) → get_or (a ∷ b ∷ c ∷ d ∷ []) i 0 < 256
each_byte a b c d la lb lc ld zero = la
each_byte a b c d la lb lc ld (suc zero) = lb
each_byte a b c d la lb lc ld (suc (suc zero)) = lc
each_byte a b c d la lb lc ld (suc (suc (suc zero))) = ld
each_byte a b c d la lb lc ld (suc (suc (suc (suc i)))) = omega arith

four_bytes : (a b c d : ℕ) → a < 256 → b < 256 → c < 256 → d < 256 → little_bytes 4 (little_number 4 (a ∷ b ∷ c ∷ d ∷ [])) ≡ a ∷ b ∷ c ∷ d ∷ []
four_bytes a b c d la lb lc ld =
    let n = little_number 4 (a ∷ b ∷ c ∷ d ∷ []) in
    let is : n ≡ a + b * 256 + c * 65536 + d * 16777216 = omega arith in
    le_bytes_4 (a ∷ b ∷ c ∷ d ∷ []) n refl (each_byte a b c d la lb lc ld) is

word_small : (a b c d : ℕ) → a < 256 → b < 256 → c < 256 → d < 256 → little_number 4 (a ∷ b ∷ c ∷ d ∷ []) < 2 ^ 32
word_small a b c d la lb lc ld = omega arith

-- each word of bytes is a number of four bytes
pub words-small : (bytes : List ℕ) → IsBytes bytes → (k d : ℕ) → k < length (words bytes) → get_or (words bytes) k d < 2 ^ 32
unfolding words
words-small [] is k d lt = absurd (omega arith)
words-small (a ∷ []) is k d lt = absurd (omega arith)
words-small (a ∷ b ∷ []) is k d lt = absurd (omega arith)
words-small (a ∷ b ∷ c ∷ []) is k d lt = absurd (omega arith)
words-small (a ∷ b ∷ c ∷ d ∷ rest) is zero e lt = word_small a b c d (is 0) (is 1) (is 2) (is 3)
words-small (a ∷ b ∷ c ∷ d ∷ rest) is (suc k) e lt = words-small rest (λ i. is (suc (suc (suc (suc i))))) k e (omega arith)

-- bytes are the spelling of their words
pub index_bytes-words : (n : ℕ) (bytes : List ℕ) → IsBytes bytes → length bytes ≡ 4 * n → index_bytes (words bytes) ≡ bytes
unfolding words
index_bytes-words n [] is e = refl
index_bytes-words n (a ∷ []) is e = absurd (omega arith)
index_bytes-words n (a ∷ b ∷ []) is e = absurd (omega arith)
index_bytes-words n (a ∷ b ∷ c ∷ []) is e = absurd (omega arith)
index_bytes-words n (a ∷ b ∷ c ∷ d ∷ rest) is e =
    let head = four_bytes a b c d (is 0) (is 1) (is 2) (is 3) in
    let tail = index_bytes-words (n - 1) rest (λ i. is (suc (suc (suc (suc i))))) (omega arith) in
    λ i. head i ++ tail i

-- the words of a spelling are what was spelled
pub words-index_bytes : (ptrs : List ℕ) → AllByRecursion (λ p. p < 2 ^ 32) ptrs → words (index_bytes ptrs) ≡ ptrs
unfolding words
words-index_bytes [] small = refl
words-index_bytes (p ∷ ps) small =
    let head : little_number 4 (little_bytes 4 p) ≡ p = little_number-reads_back 4 p [] small.0 in
    let tail = words-index_bytes ps small.1 in
    λ i. head i ∷ tail i

small_each : (g : Layout) → IsValid g → (ptrs : List ℕ) → All (IsPointer g) ptrs → AllByRecursion (λ p. p < 2 ^ 32) ptrs
small_each g valid [] all = tt
small_each g valid (p ∷ ps) all = (⊎_elim (λ e. omega arith) (λ area. omega (arith, valid.blocks_at_most)) (all 0 0 (omega arith)), small_each g valid ps (λ k d lt. all (suc k) d (omega arith)))

-- the pointers that a block spells are its words
pub words-spelled : (g : Layout) → IsValid g → (ptrs bytes : List ℕ) → SpellsIndex g ptrs bytes → words bytes ≡ ptrs
words-spelled g valid ptrs bytes is = ap words is.spelled ∙ words-index_bytes ptrs (small_each g valid ptrs is.each)

-- words of a block are small, where each of its numbers is
pub small_words : (ptrs : List ℕ) → ((k : ℕ) → get_or ptrs k 0 < 2 ^ 32) → AllByRecursion (λ p. p < 2 ^ 32) ptrs
small_words [] small = tt
small_words (p ∷ ps) small = (small 0, small_words ps (λ k. small (suc k)))

small_counts : (counts : List ℕ) → All (λ n. n < 2 ^ 32) counts → AllByRecursion (λ p. p < 2 ^ 32) counts
small_counts [] all = tt
small_counts (n ∷ ns) all = (all 0 0 (omega arith), small_counts ns (λ k d lt. all (suc k) d (omega arith)))

-- the counts that a block spells are its words
pub words-counted : (counts bytes : List ℕ) → SpellsCounts counts bytes → words bytes ≡ counts
words-counted counts bytes is = ap words is.spelled ∙ words-index_bytes counts (small_counts counts is.each)

-- the word at a place
pub words-at : (k : ℕ) (bytes : List ℕ) → 4 * k + 4 ≤ length bytes → little_number 4 (drop (4 * k) bytes) ≡ slice_index (words bytes) k
unfolding words
words-at k [] le = absurd (omega arith)
words-at k (a ∷ []) le = absurd (omega arith)
words-at k (a ∷ b ∷ []) le = absurd (omega arith)
words-at k (a ∷ b ∷ c ∷ []) le = absurd (omega arith)
words-at zero (a ∷ b ∷ c ∷ d ∷ rest) le = refl
words-at (suc k) (a ∷ b ∷ c ∷ d ∷ rest) le = ap (λ (xs : List ℕ). little_number 4 xs) (drop_four k a b c d rest) ∙ words-at k rest (omega arith)

-- a word that is put into a place
pub words-put : (k : ℕ) (bytes : List ℕ) (n : ℕ) → n < 2 ^ 32 → 4 * k + 4 ≤ length bytes
    → words (take (4 * k) bytes ++ little_bytes 4 n ++ drop (4 * k + 4) bytes) ≡ slice_set (words bytes) k n
unfolding words
words-put k [] n small le = absurd (omega arith)
words-put k (a ∷ []) n small le = absurd (omega arith)
words-put k (a ∷ b ∷ []) n small le = absurd (omega arith)
words-put k (a ∷ b ∷ c ∷ []) n small le = absurd (omega arith)
words-put zero (a ∷ b ∷ c ∷ d ∷ rest) n small le =
    let head : little_number 4 (little_bytes 4 n) ≡ n = little_number-reads_back 4 n [] small in
    λ i. head i ∷ words rest
words-put (suc k) (a ∷ b ∷ c ∷ d ∷ rest) n small le =
    let bytes : List ℕ = a ∷ b ∷ c ∷ d ∷ rest in
    let from : 4 * suc k ≡ suc (suc (suc (suc (4 * k)))) = omega arith in
    let end : 4 * suc k + 4 ≡ suc (suc (suc (suc (4 * k + 4)))) = omega arith in
    ap (λ (m : ℕ). words (take m bytes ++ little_bytes 4 n ++ drop (4 * suc k + 4) bytes)) from
    ∙ ap (λ (m : ℕ). words (take (suc (suc (suc (suc (4 * k))))) bytes ++ little_bytes 4 n ++ drop m bytes)) end
    ∙ (λ i. little_number 4 (a ∷ b ∷ c ∷ d ∷ []) ∷ words-put k rest n small (omega arith) i)
