-- What bytes that are put into a block leave of it, and touched places one after another.
use Rattle.std.proofs.Common.{◌≡◌, ℕ, ◌+◌, ◌-◌, ◌*◌, ◌/◌, ◌<◌, ◌≤◌, false, List, [], ◌∷◌, ◌++◌, length, take, drop, inl, inr, sym, ap, subst, ◌∙◌, arith, slice_index_or, length-append}
use Rattle.std.specs.Prelude.{◌⊎◌, All, min, max, nat_eq, slice_range}
use Rattle.std.proofs.lemmas.Bool.Decides.{nat_tests}
use Rattle.std.proofs.lemmas.List.{get_or-append_right, get_or_append_left, get_or-take, get_or-drop, length-take, length-drop}
use Rattle.std.proofs.lemmas.List.Elements.{All-nil, All-cons}
use Rattle.dirty_store.specs.declared.effect.Touched.{Touched}
use Rattle.command_effect.specs.Blocks.{AreFrom, IsLaidOver, written_count}

-- ---- bytes that are put into a block

module _ (block part : List ℕ) (at : ℕ) (whole : length block ≡ 4096) (fits : at + length part ≤ 4096) where
  abbrev laid : List ℕ
  laid = take at block ++ part ++ drop (at + length part) block

  front : length (take at block) ≡ at
  front = length-take at block ∙ omega (arith, whole, fits)

  back : length (drop (at + length part) block) ≡ 4096 - (at + length part)
  back = length-drop (at + length part) block ∙ omega (arith, whole)

  pub laid_length : length (take at block ++ part ++ drop (at + length part) block) ≡ 4096
  laid_length =
      let outer : length laid ≡ length (take at block ++ part) + length (drop (at + length part) block) = length-append (take at block ++ part) (drop (at + length part) block) in
      let inner : length (take at block ++ part) ≡ length (take at block) + length part = length-append (take at block) part in
      omega (arith, outer, inner, front, back, fits)

  before : (j : ℕ) → j < at → slice_index_or laid j 0 ≡ slice_index_or block j 0
  before j less =
      let inner : length (take at block ++ part) ≡ length (take at block) + length part = length-append (take at block) part in
      get_or_append_left (take at block ++ part) (drop (at + length part) block) 0 j (omega (arith, inner, front, less))
      ∙ get_or_append_left (take at block) part 0 j (omega (arith, front, less))
      ∙ get_or-take at block j 0 less

  within : (j : ℕ) → at ≤ j → j < at + length part → slice_index_or laid j 0 ≡ slice_index_or part (j - at) 0
  within j from less =
      let inner : length (take at block ++ part) ≡ length (take at block) + length part = length-append (take at block) part in
      get_or_append_left (take at block ++ part) (drop (at + length part) block) 0 j (omega (arith, inner, front, less))
      ∙ get_or-append_right (take at block) part at j 0 front from

  behind : (j : ℕ) → at + length part ≤ j → slice_index_or laid j 0 ≡ slice_index_or block j 0
  behind j past =
      let inner : length (take at block ++ part) ≡ length (take at block) + length part = length-append (take at block) part in
      let same : at + length part + (j - (at + length part)) ≡ j = omega (arith, past) in
      get_or-append_right (take at block ++ part) (drop (at + length part) block) (at + length part) j 0 (omega (arith, inner, front)) past
      ∙ get_or-drop (at + length part) block (j - (at + length part)) 0
      ∙ ap (λ (k : ℕ). slice_index_or block k 0) same

-- ---- the block that a place has after a write

-- The part that a write has in a place begins at one byte and ends before another, and the place begins at a third.
module _ (given : List ℕ) (offset place start from to : ℕ) (begins : offset < 4096 * place + 4096) (reaches : 4096 * place < offset + length given) (start_is : start ≡ 4096 * place)
    (from_is : from ≡ max offset (4096 * place)) (to_is : to ≡ min (offset + length given) (4096 * place + 4096)) where
  abbrev part : List ℕ
  part = slice_range given (from - offset) (to - offset)

  part_long : length part ≡ to - from
  part_long =
      length-take (to - offset - (from - offset)) (drop (from - offset) given) ∙ ap (min (to - offset - (from - offset))) (length-drop (from - offset) given)
      ∙ omega (arith, begins, reaches, from_is, to_is)

  module _ (block : List ℕ) (whole : length block ≡ 4096) where
    abbrev out : List ℕ
    out = take (from - start) block ++ part ++ drop (from - start + length part) block

    fits : from - start + length part ≤ 4096
    fits = omega (arith, part_long, begins, reaches, from_is, to_is, start_is)

    pub out_length : length (take (from - start) block ++ slice_range given (from - offset) (to - offset) ++ drop (from - start + length (slice_range given (from - offset) (to - offset))) block) ≡ 4096
    out_length = laid_length block part (from - start) whole fits

    pub is_laid : (old : List ℕ) → (nat_eq (to - from) 4096 ≡ false → block ≡ old)
        → IsLaidOver old offset given place (take (from - start) block ++ slice_range given (from - offset) (to - offset) ++ drop (from - start + length (slice_range given (from - offset) (to - offset))) block)
    is_laid old same = record {
      inside = λ j small low high.
          (let at : from - start ≤ j = omega (arith, low, begins, from_is, start_is) in
          let below : j < from - start + length part = omega (arith, part_long, high, small, begins, reaches, from_is, to_is, start_is) in
          let there : from - offset + (j - (from - start)) ≡ 4096 * place + j - offset = omega (arith, low, at, begins, from_is, start_is) in
          within block part (from - start) whole fits j at below
          ∙ get_or-take (to - offset - (from - offset)) (drop (from - offset) given) (j - (from - start)) 0 (omega (arith, below, part_long, at, begins, reaches, from_is, to_is))
          ∙ get_or-drop (from - offset) given (j - (from - start)) 0
          ∙ ap (λ (k : ℕ). slice_index_or given k 0) there);
      outside = λ j small apart. around j small apart;
    }
      where
        differ : (a : ℕ) → a < 4096 → nat_eq a 4096 ≡ false
        differ a less = grind (arith, nat_tests)

        partly : (j : ℕ) → j < 4096 → (4096 * place + j < offset) ⊎ (offset + length given ≤ 4096 * place + j) → nat_eq (to - from) 4096 ≡ false
        partly j small (inl low) = differ (to - from) (omega (arith, low, small, begins, reaches, from_is, to_is))
        partly j small (inr high) = differ (to - from) (omega (arith, high, small, begins, reaches, from_is, to_is))

        around : (j : ℕ) → j < 4096 → (4096 * place + j < offset) ⊎ (offset + length given ≤ 4096 * place + j) → slice_index_or out j 0 ≡ slice_index_or old j 0
        around j small (inl low) =
            before block part (from - start) whole fits j (omega (arith, low, from_is, start_is)) ∙ ap (λ (xs : List ℕ). slice_index_or xs j 0) (same (partly j small (inl low)))
        around j small (inr high) =
            behind block part (from - start) whole fits j (omega (arith, high, part_long, begins, reaches, from_is, to_is, start_is)) ∙ ap (λ (xs : List ℕ). slice_index_or xs j 0) (same (partly j small (inr high)))

-- ---- touched places one after another

module _ (Is : ℕ → List ℕ → Type 0) where
  pub are_pushed : (first : ℕ) (ts : List Touched) (t : Touched) → AreFrom Is first ts → t.place ≡ first + length ts → Is t.place t.block.bytes → AreFrom Is first (ts ++ t ∷ [])
  are_pushed first [] t are at is =
      let here : t.place ≡ first = omega (arith, at) in
      (here, subst (λ (p : ℕ). Is p t.block.bytes) here is, tt)
  are_pushed first (s ∷ ts) t are at is = (are.0, are.1, are_pushed (first + 1) ts t are.2 (omega (arith, at)) is)

  -- what holds of each place and block among so many holds of all
  pub all_from : (P : Touched → Type 0) (first : ℕ) (ts : List Touched) → AreFrom Is first ts
      → ((t : Touched) → first ≤ t.place → t.place < first + length ts → Is t.place t.block.bytes → P t) → All P ts
  all_from P first [] are each = All-nil P
  all_from P first (t ∷ ts) are each =
      let here : first ≡ t.place = sym are.0 in
      All-cons P t ts (each t (omega (arith, here)) (omega (arith, here)) (subst (λ (p : ℕ). Is p t.block.bytes) here are.1))
      (all_from P (first + 1) ts are.2 (λ s low high is. each s (omega (arith, low)) (omega (arith, high)) is))

-- blocks that are so are also otherwise
pub are_also : (P Q : ℕ → List ℕ → Type 0) (first : ℕ) (ts : List Touched) → AreFrom P first ts → ((place : ℕ) (bytes : List ℕ) → P place bytes → Q place bytes) → AreFrom Q first ts
are_also P Q first [] are each = tt
are_also P Q first (t ∷ ts) are each = (are.0, each first t.block.bytes are.1, are_also P Q (first + 1) ts are.2 each)

-- how many places a write of some bytes has
pub count_is : (offset end : ℕ) (given : List ℕ) → 0 < length given → end ≡ (offset + length given + 4095) / 4096 → end - offset / 4096 ≡ written_count offset given
count_is offset end [] some is = absurd (omega (arith, some))
count_is offset end (byte ∷ rest) some is = omega (arith, is)
