-- Slots of directories after some of them were touched.
use Rattle.std.proofs.Common.{◌≡◌, ◌≢◌, ℕ, suc, ◌+◌, ◌-◌, ◌<◌, ◌≤◌, Bool, true, false, cond, List, [], ◌∷◌, ◌++◌, length, Some, None, inl, inr, refl, sym, ap, subst, ◌∙◌, arith, length-set, length-append}
use Rattle.std.specs.Prelude.{◌||◌, ◌⊎◌, nat_eq, nat_lt, bytes_eq, slice_set, Option, option_map}
use Rattle.std.proofs.lemmas.Bool.{eqb-true}
use Rattle.std.proofs.lemmas.Bool.Decides.{nat_tests}
use Rattle.std.proofs.lemmas.List.{get_or-set_same, get_or-set_other, get_or_append_left, get_or-append_right, get_or_past}
use Rattle.block_format.specs.declared.slot.Slot.{Slot}
use Rattle.block_format.specs.declared.slot.Slot.TheVariants.{Unused, Entry}
use Rattle.dir_slots.specs.Slots.{slot_at, slot_of, first_unused, with_slot}

-- The slots that weren't touched are as before, and the list is as long as before, or just as long as the last touched one needs.
pub record SlotsFollow (before after : List Slot) (touched : ℕ → Bool) : Type 0 where
  pub same : (k : ℕ) → touched k ≡ false → slot_at after k ≡ slot_at before k
  pub grows : length before ≤ length after
  pub within : (k : ℕ) → touched k ≡ true → k < length after
  pub least : (length after ≡ length before) ⊎ ((k : ℕ) × (touched k ≡ true) × (length after ≡ suc k))

pub untouched_follow : (slots : List Slot) → SlotsFollow slots slots (λ _. false)
untouched_follow slots = record { same = λ k is. refl; grows = omega arith; within = λ k is. cc; least = inl refl }

pub follow_by : (before after : List Slot) (s t : ℕ → Bool) → ((k : ℕ) → s k ≡ t k) → SlotsFollow before after s → SlotsFollow before after t
follow_by before after s t alike f = record {
  same = λ k is. f.same k (alike k ∙ is);
  grows = f.grows;
  within = λ k is. f.within k (alike k ∙ is);
  least = by f.least;
}
  where
    by : (length after ≡ length before) ⊎ ((k : ℕ) × (s k ≡ true) × (length after ≡ suc k)) → (length after ≡ length before) ⊎ ((k : ℕ) × (t k ≡ true) × (length after ≡ suc k))
    by (inl e) = inl e
    by (inr has) = inr (has.0, sym (alike has.0) ∙ has.1, has.2)

left_false : (a b : Bool) → (a || b) ≡ false → a ≡ false
left_false true b e = e
left_false false b e = refl

right_false : (a b : Bool) → (a || b) ≡ false → b ≡ false
right_false true b e = cc
right_false false b e = e

left_true : (a b : Bool) → a ≡ true → (a || b) ≡ true
left_true true b e = refl
left_true false b e = cc

right_true : (a b : Bool) → b ≡ true → (a || b) ≡ true
right_true true b e = refl
right_true false b e = e

-- one change behind another
pub follow_both : (before between after : List Slot) (s t : ℕ → Bool) → SlotsFollow before between s → SlotsFollow between after t → SlotsFollow before after (λ k. s k || t k)
follow_both before between after s t f g = record {
  same = λ k is. g.same k (right_false (s k) (t k) is) ∙ f.same k (left_false (s k) (t k) is);
  grows = omega (arith, f.grows, g.grows);
  within = λ k is. by_within k (s k) refl is;
  least = by_least g.least f.least;
}
  where
    by_within : (k : ℕ) (u : Bool) → s k ≡ u → (s k || t k) ≡ true → k < length after
    by_within k true here is = omega (arith, f.within k here, g.grows)
    by_within k false here is = g.within k (sym (ap (λ (u : Bool). u || t k) here) ∙ is)

    by_least : (length after ≡ length between) ⊎ ((k : ℕ) × (t k ≡ true) × (length after ≡ suc k)) → (length between ≡ length before) ⊎ ((k : ℕ) × (s k ≡ true) × (length between ≡ suc k))
        → (length after ≡ length before) ⊎ ((k : ℕ) × ((s k || t k) ≡ true) × (length after ≡ suc k))
    by_least (inr has) either = inr (has.0, right_true (s has.0) (t has.0) has.1, has.2)
    by_least (inl e) (inl f) = inl (e ∙ f)
    by_least (inl e) (inr has) = inr (has.0, left_true (s has.0) (t has.0) has.1, e ∙ has.2)

-- ---- one slot

apart : (i k : ℕ) → nat_eq i k ≡ false → k ≢ i
apart i k is = grind (arith, nat_tests)

itself : (i : ℕ) → nat_eq i i ≡ true
itself i = grind (arith, nat_tests)

pub set_follow : (slots : List Slot) (i : ℕ) (slot : Slot) → i < length slots → SlotsFollow slots (slice_set slots i slot) (λ k. nat_eq i k)
set_follow slots i slot lt = record {
  same = λ k is. get_or-set_other slots i k slot Unused (apart i k is);
  grows = omega (arith, length-set slots i slot);
  within = λ k is. omega (arith, eqb-true i k is, lt, length-set slots i slot);
  least = inl (length-set slots i slot);
}

push_follow : (slots : List Slot) (slot : Slot) → SlotsFollow slots (slots ++ slot ∷ []) (λ k. nat_eq (length slots) k)
push_follow slots slot = record {
  same = λ k is. by k is (nat_lt k (length slots)) refl;
  grows = omega (arith, long);
  within = λ k is. omega (arith, eqb-true (length slots) k is, long);
  least = inr (length slots, itself (length slots), long);
}
  where
    long : length (slots ++ slot ∷ []) ≡ suc (length slots)
    long = omega (arith, length-append slots (slot ∷ []))

    by : (k : ℕ) → nat_eq (length slots) k ≡ false → (t : Bool) → nat_lt k (length slots) ≡ t → slot_at (slots ++ slot ∷ []) k ≡ slot_at slots k
    by k is true lt = let below : k < length slots = grind (arith, nat_tests) in get_or_append_left slots (slot ∷ []) Unused k below
    by k is false ge =
        let past : suc (length slots) ≤ k = grind (arith, nat_tests) in
        get_or_past (slots ++ slot ∷ []) k Unused (omega (arith, long, past)) ∙ sym (get_or_past slots k Unused (omega (arith, past)))

pub put_follow : (slots : List Slot) (i : ℕ) (slot : Slot) → i ≤ length slots → SlotsFollow slots (with_slot slots i slot) (λ k. nat_eq i k)
put_follow slots i slot le = by (nat_lt i (length slots)) refl
  where
    by : (t : Bool) → nat_lt i (length slots) ≡ t → SlotsFollow slots (cond t (slice_set slots i slot) (slots ++ slot ∷ [])) (λ k. nat_eq i k)
    by true is = let lt : i < length slots = grind (arith, nat_tests) in set_follow slots i slot lt
    by false is =
        let ge : length slots ≤ i = grind (arith, nat_tests) in
        let e : length slots ≡ i = omega (arith, ge, le) in
        subst (λ (j : ℕ). SlotsFollow slots (slots ++ slot ∷ []) (λ k. nat_eq j k)) e (push_follow slots slot)

-- what is put stands there
pub put_here : (slots : List Slot) (i : ℕ) (slot : Slot) → i ≤ length slots → slot_at (with_slot slots i slot) i ≡ slot
put_here slots i slot le = by (nat_lt i (length slots)) refl
  where
    by : (t : Bool) → nat_lt i (length slots) ≡ t → slot_at (cond t (slice_set slots i slot) (slots ++ slot ∷ [])) i ≡ slot
    by true is = let lt : i < length slots = grind (arith, nat_tests) in get_or-set_same slots i slot Unused lt
    by false is =
        let ge : length slots ≤ i = grind (arith, nat_tests) in
        let at : i - length slots ≡ 0 = omega (arith, ge, le) in
        get_or-append_right slots (slot ∷ []) (length slots) i Unused refl ge ∙ ap (slot_at (slot ∷ [])) at

pub set_here : (slots : List Slot) (i : ℕ) (slot : Slot) → i < length slots → slot_at (slice_set slots i slot) i ≡ slot
set_here slots i slot lt = get_or-set_same slots i slot Unused lt

pub first_within : (slots : List Slot) → first_unused slots ≤ length slots
first_within [] = omega arith
first_within (Unused ∷ rest) = omega arith
first_within (Entry number name ∷ rest) = omega (arith, first_within rest)

later_some : (o : Option ℕ) (i : ℕ) → option_map (λ (j : ℕ). j + 1) o ≡ Some i → (j : ℕ) × (o ≡ Some j) × (i ≡ suc j)
later_some None i e = cc
later_some (Some j) i e = let same : j + 1 ≡ i = cc in (j, refl, omega (arith, same))

-- the slot of a name is one of the slots
pub slot_within : (slots : List Slot) (name : List ℕ) (i : ℕ) → slot_of slots name ≡ Some i → i < length slots
slot_within [] name i is = cc
slot_within (Unused ∷ rest) name i is =
    let later = later_some (slot_of rest name) i is in
    omega (arith, later.2, slot_within rest name later.0 later.1)
slot_within (Entry number other ∷ rest) name i is = by (bytes_eq other name) is (slot_within rest name)
  where
    by : (t : Bool) → cond t (Some 0) (option_map (λ (j : ℕ). j + 1) (slot_of rest name)) ≡ Some i → ((j : ℕ) → slot_of rest name ≡ Some j → j < length rest) → i < suc (length rest)
    by true e more = let same : 0 ≡ i = cc in omega (arith, same)
    by false e more =
        let later = later_some (slot_of rest name) i e in
        omega (arith, later.2, more later.0 later.1)
