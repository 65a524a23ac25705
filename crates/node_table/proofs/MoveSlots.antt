-- An entry that gets another name: put first and taken then, or the other way round.
use Rattle.std.proofs.Common.{◌≡◌, ◌≤◌, ◌<◌, ℕ, ◌+◌, zero, suc, true, false, List, [], ◌∷◌, ◌++◌, length, Some, None, refl, sym, ap, subst, ◌∙◌, arith, length-set}
use Rattle.std.specs.Prelude.{Option, IfSome, is_some, nat_lt, slice_set, if◌then◌else◌, bytes_eq}
use Rattle.std.specs.Option.{option_map}
use Rattle.std.proofs.lemmas.Bool.Decides.{nat_tests}
use Rattle.block_format.specs.declared.slot.Slot.{Slot}
use Rattle.block_format.specs.declared.slot.Slot.TheVariants.{Unused, Entry}
use Rattle.dir_slots.specs.Slots.{number_in, slot_of, first_unused, with_slot, without_slot, ReplacesName}
use Rattle.tree_model.proofs.Fronts.{test_fails}
use Rattle.node_table.specs.Counts.{count}
use Rattle.node_table.specs.Moves.{MovesName}
use Rattle.node_table.specs.declared.counted.MovedSlots.{MovedSlots}
use Rattle.node_table.proofs.ShapeLaws.{same_bytes}
use Rattle.node_table.proofs.SlotCounts.{with_next, with_first, count_with, count_without, some_mapped}
use Rattle.node_table.proofs.SlotNumbers.{some_slot}

-- ---- the first unused slot, after another is free

pub first_kept : (slots : List Slot) (i : ℕ) → first_unused slots < i → i < length slots → first_unused (slice_set slots i Unused) ≡ first_unused slots
first_kept [] i lt within = absurd (omega arith)
first_kept (slot ∷ slots) zero lt within = absurd (omega arith)
first_kept (Unused ∷ slots) (suc i) lt within = refl
first_kept (Entry number name ∷ slots) (suc i) lt within = ap (λ n. n + 1) (first_kept slots i (omega arith) (omega arith))

pub first_cleared : (slots : List Slot) (i : ℕ) → i ≤ first_unused slots → i < length slots → first_unused (slice_set slots i Unused) ≡ i
first_cleared [] i le within = absurd (omega arith)
first_cleared (slot ∷ slots) zero le within = refl
first_cleared (Unused ∷ slots) (suc i) le within = absurd (omega arith)
first_cleared (Entry number name ∷ slots) (suc i) le within = ap (λ n. n + 1) (first_cleared slots i (omega arith) (omega arith)) ∙ omega arith

-- ---- another slot set, and the slot of another name

set_apart : (slots : List Slot) (i j : ℕ) (a b : Slot) → i < j → slice_set (slice_set slots i a) j b ≡ slice_set (slice_set slots j b) i a
set_apart [] i j a b lt = refl
set_apart (slot ∷ slots) zero zero a b lt = absurd (omega arith)
set_apart (slot ∷ slots) (suc i) zero a b lt = absurd (omega arith)
set_apart (slot ∷ slots) zero (suc j) a b lt = refl
set_apart (slot ∷ slots) (suc i) (suc j) a b lt = ap (λ rest. slot ∷ rest) (set_apart slots i j a b (omega arith))

within_set : (slots : List Slot) (i : ℕ) (slot : Slot) → i < length slots → with_slot slots i slot ≡ slice_set slots i slot
within_set slots i slot lt = let yes : nat_lt i (length slots) ≡ true = grind (arith, nat_tests) in ap (λ b. if b then slice_set slots i slot else slots ++ slot ∷ []) yes

pub put_and_taken : (slots : List Slot) (i j : ℕ) (slot : Slot) → i < j → j < length slots → without_slot (with_slot slots i slot) (Some j) ≡ with_slot (without_slot slots (Some j)) i slot
put_and_taken slots i j slot lt within =
    ap (λ s. slice_set s j Unused) (within_set slots i slot (omega arith)) ∙ set_apart slots i j slot Unused lt
    ∙ sym (within_set (slice_set slots j Unused) i slot (omega (arith, length-set slots j Unused)))

pub slot_put : (slots : List Slot) (number : ℕ) (name x : List ℕ) → bytes_eq name x ≡ false → slot_of (with_slot slots (first_unused slots) (Entry number name)) x ≡ slot_of slots x
slot_put [] number name x differs = ap (λ b. if b then Some 0 else option_map (λ (i : ℕ). i + 1) (slot_of [] x)) differs
slot_put (Unused ∷ slots) number name x differs =
    ap (λ s. slot_of s x) (with_first slots (Entry number name)) ∙ ap (λ b. if b then Some 0 else option_map (λ (i : ℕ). i + 1) (slot_of slots x)) differs
slot_put (Entry n other ∷ slots) number name x differs =
    ap (λ s. slot_of s x) (with_next (Entry n other) slots (first_unused slots) (Entry number name))
    ∙ ap (λ o. if bytes_eq other x then Some 0 else option_map (λ (i : ℕ). i + 1) o) (slot_put slots number name x differs)

-- a name that has a slot isn't one that has none
pub names_differ : (slots : List Slot) (from to : List ℕ) (i : ℕ) → slot_of slots from ≡ Some i → slot_of slots to ≡ None → bytes_eq to from ≡ false
names_differ slots from to i some none = test_fails (bytes_eq to from) (λ e. let clash : Some i ≡ None = sym some ∙ ap (slot_of slots) (sym (same_bytes to from e)) ∙ none in cc)

-- a slot of a name is within the slots
pub slot_within : (slots : List Slot) (name : List ℕ) (i : ℕ) → slot_of slots name ≡ Some i → i < length slots
slot_within [] name i e = cc
slot_within (Unused ∷ slots) name i e = let m = some_mapped (slot_of slots name) i e in omega (arith, m.2, slot_within slots name m.0 m.1)
slot_within (Entry number other ∷ slots) name i e =
    elim (bytes_eq other name) as (λ b. (if b then Some 0 else option_map (λ (i : ℕ). i + 1) (slot_of slots name)) ≡ Some i → i < suc (length slots)) [
      | true ↦ λ first. let is : 0 ≡ i = cc in omega arith
      | false ↦ λ later. let m = some_mapped (slot_of slots name) i later in omega (arith, m.2, slot_within slots name m.0 m.1)
    ] e

-- ---- all of it

module _ (slots : List Slot) (from : List ℕ) (number : ℕ) (to : List ℕ) (left : ℕ) (there : slot_of slots from ≡ Some left) (absent : slot_of slots to ≡ None) where
  within : left < length slots
  within = slot_within slots from left there

  -- the new entry came first, into a slot before the other
  pub came_first : first_unused slots < left → without_slot (with_slot slots (first_unused slots) (Entry number to)) (slot_of (with_slot slots (first_unused slots) (Entry number to)) from) ≡ with_slot (without_slot slots (Some left)) (first_unused slots) (Entry number to)
  came_first lt =
      ap (without_slot (with_slot slots (first_unused slots) (Entry number to))) (slot_put slots number to from (names_differ slots from to left there absent) ∙ there)
      ∙ put_and_taken slots (first_unused slots) left (Entry number to) lt within

  pub first_before : first_unused slots < left → first_unused slots ≡ first_unused (without_slot slots (Some left))
  first_before lt = sym (first_kept slots left lt within)

  pub first_itself : left ≤ first_unused slots → left ≡ first_unused (without_slot slots (Some left))
  first_itself le = sym (first_cleared slots left le within)

  -- there are as many entries
  pub count_moved : (came : ℕ) → came ≡ first_unused (without_slot slots (Some left)) → count (with_slot (without_slot slots (Some left)) came (Entry number to)) ≡ count slots
  count_moved came is =
      ap (λ i. count (with_slot (without_slot slots (Some left)) i (Entry number to))) is ∙ count_with (without_slot slots (Some left)) number to ∙ count_without slots from left there

pub some_is : (P : ℕ → Type 0) (o : Option ℕ) (x : ℕ) → o ≡ Some x → IfSome o P → P x
some_is P None x e h = cc
some_is P (Some y) x e h = let same : y ≡ x = cc in subst P same h

-- a name with a number has a slot
pub has_slot : (slots : List Slot) (name : List ℕ) (number : ℕ) → number_in slots name ≡ Some number → slot_of slots name ≡ None → ⊥
has_slot slots name number some none = let same : is_some (slot_of slots name) ≡ is_some (number_in slots name) = some_slot slots name in let yes : is_some (number_in slots name) ≡ true = ap is_some some in let no : is_some (slot_of slots name) ≡ false = ap is_some none in cc

-- the new entry came first
pub moved_apart : (slots mid new : List Slot) (from : List ℕ) (number : ℕ) (to : List ℕ) (left came : ℕ) → slot_of slots from ≡ Some left → slot_of slots to ≡ None → came ≡ first_unused slots → came < left
    → (slot : ℕ) → slot ≡ first_unused slots → mid ≡ with_slot slots slot (Entry number to) → new ≡ without_slot mid (slot_of mid from) → MovesName slots from number to (record { left = left; came = came }) new
moved_apart slots mid new from number to left came there absent is lt slot first put taken =
    let lt_first : first_unused slots < left = omega arith in
    let mid_is : mid ≡ with_slot slots (first_unused slots) (Entry number to) = put ∙ ap (λ i. with_slot slots i (Entry number to)) first in
    record {
      left = there;
      came = is ∙ first_before slots from number to left there absent lt_first;
      now = taken ∙ ap (λ s. without_slot s (slot_of s from)) mid_is ∙ came_first slots from number to left there absent lt_first ∙ ap (λ i. with_slot (without_slot slots (Some left)) i (Entry number to)) (sym is);
    }

-- the entry stays in its slot
pub moved_within : (slots new : List Slot) (from : List ℕ) (number : ℕ) (to : List ℕ) (left : ℕ) → slot_of slots from ≡ Some left → slot_of slots to ≡ None → number_in slots from ≡ Some number → left ≤ first_unused slots
    → ReplacesName slots left from to new → MovesName slots from number to (record { left = left; came = left }) new
moved_within slots new from number to left there absent numbered le replaced =
    let same : replaced.0 ≡ number = some_same (sym replaced.1 ∙ numbered) in
    record {
      left = there;
      came = first_itself slots from number to left there absent le;
      now = replaced.2 ∙ ap (λ n. with_slot (without_slot slots (Some left)) left (Entry n to)) same;
    }
  where
    some_same : Some replaced.0 ≡ Some number → replaced.0 ≡ number
    some_same e = cc

pub count_same_moved : (slots new : List Slot) (from : List ℕ) (number : ℕ) (to : List ℕ) (moved : MovedSlots) → slot_of slots to ≡ None → MovesName slots from number to moved new → count new ≡ count slots
count_same_moved slots new from number to moved absent m = ap count m.now ∙ count_moved slots from number to moved.left m.left absent moved.came m.came
