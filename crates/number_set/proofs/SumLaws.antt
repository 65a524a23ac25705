-- Bits that say which words are full.
use Rattle.std.proofs.Common.{◌≡◌, ◌≢◌, ℕ, ◌+◌, ◌*◌, ◌/◌, ◌%◌, ◌<◌, ◌≤◌, Bool, true, false, List, length, refl, sym, ap, subst, ◌∙◌, arith, ⊎_elim, replicate, slice_index, get_or}
use Rattle.std.specs.Prelude.{nat_eq, if◌then◌else◌}
use Rattle.std.specs.Int.{bit_at}
use Rattle.std.proofs.lemmas.Bool.{cases_lt, eqb-true, eq-eqb}
use Rattle.std.proofs.lemmas.Bool.Decides.{nat_tests}
use Rattle.std.proofs.lemmas.Nat.Bits.{bit_at_ones}
use Rattle.std.proofs.lemmas.List.{length-replicate, get_or_default}
use Rattle.number_set.specs.Least.{IsLeastAbsent}
use Rattle.number_set.specs.Bits.{has_bit, full_word, SaysFull, IsSummed, members}
use Rattle.number_set.proofs.MemberLaws.{none_set, no_word, contains_members}

-- one word changed, and the bit above it written after it
pub says_written : (words new above over : List ℕ) (n : ℕ) → SaysFull words above → length new ≡ length words
    → ((i : ℕ) → i ≢ n → slice_index new i ≡ slice_index words i)
    → ((k : ℕ) → has_bit over k ≡ (if nat_eq k n then nat_eq (slice_index new n) full_word else has_bit above k)) → SaysFull new over
says_written words new above over n says long others bits i lt =
    elim (nat_eq i n) as (λ b. nat_eq i n ≡ b → has_bit over i ≡ (if b then nat_eq (slice_index new n) full_word else has_bit above i) → has_bit over i ≡ nat_eq (slice_index new i) full_word) [
      | true ↦ λ e h. h ∙ ap (λ k. nat_eq (slice_index new k) full_word) (sym (eqb-true i n e))
      | false ↦ λ e h. let ne : i ≢ n = grind (arith, nat_tests) in h ∙ says i (omega arith) ∙ ap (λ w. nat_eq w full_word) (sym (others i ne))
    ] refl (bits i)

-- each bit before this place is set, where the words before its word are full and the lower bits of its word are set
pub all_set : (words : List ℕ) (i ones : ℕ) → ((j : ℕ) → j < i → slice_index words j ≡ full_word) → ((j : ℕ) → j < ones → bit_at (slice_index words i) j ≡ 1) → ones ≤ 64
    → (k : ℕ) → k < 64 * i + ones → has_bit words k ≡ true
all_set words i ones full low within k lt =
    ⊎_elim (λ (before : k / 64 < i). eq-eqb _ _ (ap (λ w. bit_at w (k % 64)) (full (k / 64) before) ∙ bit_at_ones 64 (k % 64) (omega arith)))
    (λ (here : i ≤ k / 64). let is : k / 64 ≡ i = omega arith in eq-eqb _ _ (ap (λ j. bit_at (slice_index words j) (k % 64)) is ∙ low (k % 64) (omega arith)))
    (cases_lt (k / 64) i)

-- words whose bits above are set are full
pub full_before : (words above : List ℕ) (n : ℕ) → SaysFull words above → n ≤ length words → ((k : ℕ) → k < n → has_bit above k ≡ true) → (j : ℕ) → j < n → slice_index words j ≡ full_word
full_before words above n says within set j lt = eqb-true _ _ (sym (says j (omega arith)) ∙ set j lt)

pub not_full : (words above : List ℕ) (n : ℕ) → SaysFull words above → n < length words → has_bit above n ≡ false → slice_index words n ≢ full_word
not_full words above n says within clear = λ is. let yes : nat_eq (slice_index words n) full_word ≡ true = eq-eqb _ _ is in let no = sym (says n within) ∙ clear in cc

-- a place of a word whose bit is clear
pub clear_at : (words : List ℕ) (i ones : ℕ) → ones < 64 → bit_at (slice_index words i) ones ≡ 0 → has_bit words (64 * i + ones) ≡ false
clear_at words i ones within clear =
    let word : (64 * i + ones) / 64 ≡ i = omega arith in
    let place : (64 * i + ones) % 64 ≡ ones = omega arith in
    ap (λ n. nat_eq n 1) ((λ k. bit_at (slice_index words (word k)) (place k)) ∙ clear)

-- ---- all three levels

none_full : (n m : ℕ) → SaysFull (replicate n 0) (replicate m 0)
none_full n m i lt = none_set m i ∙ sym (ap (λ w. nat_eq w full_word) (no_word n i))

pub none_summed : (n m k : ℕ) (words full top : List ℕ) → words ≡ replicate n 0 → full ≡ replicate m 0 → top ≡ replicate k 0 → n ≡ 1024 → m ≡ 16 → k ≡ 1 → IsSummed words full top
none_summed n m k words full top e f g long some one = record {
  words_length = ap length e ∙ length-replicate n 0 ∙ long;
  full_length = ap length f ∙ length-replicate m 0 ∙ some;
  top_length = ap length g ∙ length-replicate k 0 ∙ one;
  full_words = subst (λ (x : List ℕ). SaysFull x full) (sym e) (subst (λ (x : List ℕ). SaysFull (replicate n 0) x) (sym f) (none_full n m));
  full_groups = subst (λ (x : List ℕ). SaysFull x top) (sym f) (subst (λ (x : List ℕ). SaysFull (replicate m 0) x) (sym g) (none_full m k));
}

-- how a list of words comes of another by one bit
pub record IsWritten (old new : List ℕ) (place : ℕ) (present : Bool) : Type 0 where
  pub bits : (k : ℕ) → has_bit new k ≡ (if nat_eq k place then present else has_bit old k)
  pub words : (i : ℕ) → i ≢ place / 64 → slice_index new i ≡ slice_index old i
  pub length : length new ≡ length old

pub summed_written : (words full top new over last : List ℕ) (n : ℕ) (a b c : Bool) → IsSummed words full top → IsWritten words new n a → IsWritten full over (n / 64) b → IsWritten top last (n / 64 / 64) c
    → b ≡ nat_eq (slice_index new (n / 64)) full_word → c ≡ nat_eq (slice_index over (n / 64 / 64)) full_word → IsSummed new over last
summed_written words full top new over last n a b c is first second third e f = record {
  words_length = first.length ∙ is.words_length;
  full_length = second.length ∙ is.full_length;
  top_length = third.length ∙ is.top_length;
  full_words = says_written words new full over (n / 64) is.full_words first.length first.words (λ k. second.bits k ∙ ap (λ (x : Bool). if nat_eq k (n / 64) then x else has_bit full k) e);
  full_groups = says_written full over top last (n / 64 / 64) is.full_groups second.length second.words (λ k. third.bits k ∙ ap (λ (x : Bool). if nat_eq k (n / 64 / 64) then x else has_bit top k) f);
}

-- what is read at an index, by the default that clauses write
pub read_at : (words : List ℕ) (i x : ℕ) → x ≡ get_or words i x → i < length words → x ≡ slice_index words i
read_at words i x is lt = is ∙ get_or_default words i x 0 lt

-- so many bits of a word from the lowest on are set
pub record IsOnes (word ones : ℕ) : Type 0 where
  pub within : ones ≤ 64
  pub below : (i : ℕ) → i < ones → bit_at word i ≡ 1
  pub next : ones < 64 → bit_at word ones ≡ 0
  pub full : word ≢ full_word → ones < 64

pub ones_at : (words : List ℕ) (i x ones : ℕ) → x ≡ get_or words i x → i < length words → IsOnes x ones → IsOnes (slice_index words i) ones
ones_at words i x ones is lt h = subst (λ (w : ℕ). IsOnes w ones) (read_at words i x is lt) h

-- ---- the least that isn't there

module _ (words full top : List ℕ) (is : IsSummed words full top) (group : ℕ) (first : IsOnes (slice_index top 0) group) where
  groups_full : (n : ℕ) → n ≤ group → n ≤ 16 → (j : ℕ) → j < n → slice_index full j ≡ full_word
  groups_full n le few = full_before full top n is.full_groups (omega (arith, is.full_length)) (λ k lt. all_set top 0 group (λ j low. absurd (omega arith)) first.below first.within k (omega arith))

  pub all_there : 16 ≤ group → (k : ℕ) → k ≤ 65535 → has_bit words k ≡ true
  all_there le k most =
      all_set words 1024 0
      (full_before words full 1024 is.full_words (omega (arith, is.words_length)) (λ j lt. all_set full 16 0 (groups_full 16 le (omega arith)) (λ i low. absurd (omega arith)) (omega arith) j (omega arith)))
      (λ i low. absurd (omega arith)) (omega arith) k (omega arith)

  module _ (few : group < 16) (word : ℕ) (second : IsOnes (slice_index full group) word) where
    pub word_within : word < 64
    word_within =
        let clear : has_bit top group ≡ false = ap (λ k. has_bit top k) (omega arith) ∙ clear_at top 0 group (omega arith) (first.next (omega arith)) in
        second.full (not_full full top group is.full_groups (omega (arith, is.full_length)) clear)

    words_full : (j : ℕ) → j < 64 * group + word → slice_index words j ≡ full_word
    words_full =
        full_before words full (64 * group + word) is.full_words (omega (arith, is.words_length, word_within))
        (λ k lt. all_set full group word (groups_full group (omega arith) (omega arith)) second.below second.within k lt)

    module _ (bit : ℕ) (third : IsOnes (slice_index words (64 * group + word)) bit) where
      pub bit_within : bit < 64
      bit_within =
          let clear : has_bit full (64 * group + word) ≡ false = clear_at full group word word_within (second.next word_within) in
          third.full (not_full words full (64 * group + word) is.full_words (omega (arith, is.words_length, word_within)) clear)

      pub least_set : (k : ℕ) → k < 64 * (64 * group + word) + bit → has_bit words k ≡ true
      least_set k lt = all_set words (64 * group + word) bit words_full third.below third.within k lt

      pub least_clear : has_bit words (64 * (64 * group + word) + bit) ≡ false
      least_clear = clear_at words (64 * group + word) bit bit_within (third.next bit_within)

      pub least_is : IsLeastAbsent (members words) (64 * (64 * group + word) + bit)
      least_is = record {
        at_most = omega (arith, word_within, bit_within);
        absent = contains_members words (64 * (64 * group + word) + bit) ∙ least_clear;
        least = λ k lt. contains_members words k ∙ least_set k lt;
      }
