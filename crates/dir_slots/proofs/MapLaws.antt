-- A directory as a map from names to numbers, after an entry is put and after one is taken away.
use Rattle.std.proofs.Common.{◌≡◌, ◌<◌, ◌≤◌, ⊎_elim, ℕ, suc, ◌+◌, ◌*◌, ◌∙◌, true, false, List, [], ◌∷◌, length, Some, None, Option, refl, sym, ap, subst, arith, length-set}
use Rattle.std.specs.Prelude.{slice_set, bytes_eq, if◌then◌else◌}
use Rattle.std.proofs.lemmas.Bool.{cases_lt, cases_eq}
use Rattle.block_format.specs.Slot.{SlotFits}
use Rattle.block_format.specs.declared.slot.Slot.{Slot}
use Rattle.block_format.specs.declared.slot.Slot.TheVariants.{Unused, Entry}
use Rattle.dir_slots.specs.Slots.{IsDirectory, HasNamesOnce, slot_at, is_used, name_of, number_in, first_unused, with_slot, without_slot}
use Rattle.dir_slots.specs.Laws.{NamesArePut, PutsName, NamesAreRemoved, RemovesName, OneDirectory}
use Rattle.dir_slots.specs.Index.{IsAbsent}
use Rattle.dir_slots.proofs.SlotLaws.{Differs, with_differs, set_differs, length-with, first_unused-at_most, first_unused-unused, unused_from_width, used_within, not_both, chosen, other_chosen}
use Rattle.dir_slots.proofs.NameLaws.{absent_from, has_or_not, same_or_not, number_found, number_absent, slot_found, slot_absent, same_tests, other_tests}
use Rattle.dir_slots.proofs.KeptLaws.{fits_put, used_is}
use Rattle.dir_slots.proofs.PageLaws.{spelled_at, same_slot_at, width_within}

named : (slots : List Slot) (i number : ℕ) (name : List ℕ) → slot_at slots i ≡ Entry number name → name_of (slot_at slots i) ≡ name
named slots i number name there = ap name_of there

-- ---- an entry is put

module _ (slots new : List Slot) (i number : ℕ) (name : List ℕ) (is : IsDirectory slots) (absent : IsAbsent slots name) (unused : is_used (slot_at slots i) ≡ false) (differs : Differs slots new i (Entry number name)) where
  before : (j : ℕ) → (j ≡ i → ⊥) → is_used (slot_at new j) ≡ true → is_used (slot_at slots j) ≡ true
  before j ne used = sym (ap is_used (differs.others j ne)) ∙ used

  -- another slot has another name
  other_name : (j : ℕ) → (j ≡ i → ⊥) → is_used (slot_at new j) ≡ true → name_of (slot_at new j) ≡ name → ⊥
  other_name j ne used e = absent j (before j ne used) (sym (ap name_of (differs.others j ne)) ∙ e)

  name_at : (j : ℕ) → j ≡ i → name_of (slot_at new j) ≡ name
  name_at j e = ap (λ (k : ℕ). name_of (slot_at new k)) e ∙ ap name_of differs.here

  once_put : HasNamesOnce new
  once_put a b ua ub e =
      ⊎_elim (λ (ai : a ≡ i).
      ⊎_elim (λ (bi : b ≡ i). ai ∙ sym bi) (λ (nb : b ≡ i → ⊥). absurd (other_name b nb ub (sym e ∙ name_at a ai))) (cases_eq b i))
      (λ (na : a ≡ i → ⊥).
      ⊎_elim (λ (bi : b ≡ i). absurd (other_name a na ua (e ∙ name_at b bi)))
      (λ (nb : b ≡ i → ⊥). is.names a b (before a na ua) (before b nb ub) (sym (ap name_of (differs.others a na)) ∙ (e ∙ ap name_of (differs.others b nb))))
      (cases_eq b i))
      (cases_eq a i)

  absent_too : (other : List ℕ) → (name ≡ other → ⊥) → IsAbsent slots other → IsAbsent new other
  absent_too other ne none j used e =
      ⊎_elim (λ (ji : j ≡ i). ne (sym (name_at j ji) ∙ e)) (λ (nj : j ≡ i → ⊥). none j (before j nj used) (sym (ap name_of (differs.others j nj)) ∙ e)) (cases_eq j i)

  others_number : (other : List ℕ) → (name ≡ other → ⊥) → number_in new other ≡ number_in slots other
  others_number other ne =
      ⊎_elim (λ (has : (k : ℕ) × (m : ℕ) × (slot_at slots k ≡ Entry m other)).
      let apart : has.0 ≡ i → ⊥ = λ (e : has.0 ≡ i). not_both (is_used (slot_at slots i)) (used_is slots i has.0 (sym e) (ap is_used has.2)) unused in
      number_found new has.1 other has.0 once_put (differs.others has.0 apart ∙ has.2) ∙ sym (number_found slots has.1 other has.0 is.names has.2))
      (λ (none : IsAbsent slots other). number_absent new other (absent_too other ne none) ∙ sym (number_absent slots other none))
      (has_or_not slots other)

  number_put : (other : List ℕ) → number_in new other ≡ (if bytes_eq name other then Some number else number_in slots other)
  number_put other =
      ⊎_elim (λ (e : name ≡ other). number_found new number other i once_put (differs.here ∙ ap (Entry number) e) ∙ sym (chosen (bytes_eq name other) _ _ (same_tests name other e)))
      (λ (ne : name ≡ other → ⊥). others_number other ne ∙ sym (other_chosen (bytes_eq name other) _ _ (other_tests name other ne)))
      (same_or_not name other)

  pub name_put : length new ≤ 65534 → SlotFits (Entry number name) → PutsName slots number name new
  name_put most fits = record { directory = record { width = most; fits = fits_put slots new i (Entry number name) differs fits is.fits; names = once_put }; numbers = number_put }

pub names_put : NamesArePut
names_put slots number name is none room fits =
    let i = first_unused slots in
    let le = first_unused-at_most slots in
    name_put slots (with_slot slots i (Entry number name)) i number name is (absent_from slots name none) (first_unused-unused slots) (with_differs slots i (Entry number name) le)
    (⊎_elim (λ (same : (i < length slots) × (length (with_slot slots i (Entry number name)) ≡ length slots)). omega (arith, same.1, is.width))
    (λ (more : (i ≡ length slots) × (length (with_slot slots i (Entry number name)) ≡ length slots + 1)). omega (arith, more.0, more.1, room))
    (length-with slots i (Entry number name) le))
    fits

-- ---- an entry is taken away

module _ (slots new : List Slot) (i number : ℕ) (name : List ℕ) (is : IsDirectory slots) (there : slot_at slots i ≡ Entry number name) (differs : Differs slots new i Unused) where
  not_it : (j : ℕ) → is_used (slot_at new j) ≡ true → j ≡ i → ⊥
  not_it j used e = not_both (is_used (slot_at new i)) (used_is new i j (sym e) used) (ap is_used differs.here)

  used_then : (j : ℕ) → is_used (slot_at new j) ≡ true → is_used (slot_at slots j) ≡ true
  used_then j used = sym (ap is_used (differs.others j (not_it j used))) ∙ used

  name_then : (j : ℕ) → is_used (slot_at new j) ≡ true → name_of (slot_at new j) ≡ name_of (slot_at slots j)
  name_then j used = ap name_of (differs.others j (not_it j used))

  once_taken : HasNamesOnce new
  once_taken a b ua ub e = is.names a b (used_then a ua) (used_then b ub) (sym (name_then a ua) ∙ (e ∙ name_then b ub))

  gone : IsAbsent new name
  gone j used e = not_it j used (is.names j i (used_then j used) (ap is_used there) (sym (name_then j used) ∙ (e ∙ sym (named slots i number name there))))

  others_stay : (other : List ℕ) → (name ≡ other → ⊥) → number_in new other ≡ number_in slots other
  others_stay other ne =
      ⊎_elim (λ (has : (k : ℕ) × (m : ℕ) × (slot_at slots k ≡ Entry m other)).
      let apart : has.0 ≡ i → ⊥ = λ (e : has.0 ≡ i). ne (sym (named slots i number name there) ∙ (sym (ap (λ (k : ℕ). name_of (slot_at slots k)) e) ∙ named slots has.0 has.1 other has.2)) in
      number_found new has.1 other has.0 once_taken (differs.others has.0 apart ∙ has.2) ∙ sym (number_found slots has.1 other has.0 is.names has.2))
      (λ (none : IsAbsent slots other). number_absent new other (λ j used e. none j (used_then j used) (sym (name_then j used) ∙ e)) ∙ sym (number_absent slots other none))
      (has_or_not slots other)

  number_taken : (other : List ℕ) → number_in new other ≡ (if bytes_eq name other then None else number_in slots other)
  number_taken other =
      ⊎_elim (λ (e : name ≡ other). number_absent new other (subst (λ (n : List ℕ). IsAbsent new n) e gone) ∙ sym (chosen (bytes_eq name other) _ _ (same_tests name other e)))
      (λ (ne : name ≡ other → ⊥). others_stay other ne ∙ sym (other_chosen (bytes_eq name other) _ _ (other_tests name other ne)))
      (same_or_not name other)

  pub name_taken : length new ≤ 65534 → RemovesName slots name new
  name_taken most = record { directory = record { width = most; fits = fits_put slots new i Unused differs tt is.fits; names = once_taken }; numbers = number_taken }

none_taken : (slots : List Slot) (name : List ℕ) → IsDirectory slots → IsAbsent slots name → RemovesName slots name slots
none_taken slots name is absent = record {
  directory = is;
  numbers = λ other.
      ⊎_elim (λ (e : name ≡ other). number_absent slots other (subst (λ (n : List ℕ). IsAbsent slots n) e absent) ∙ sym (chosen (bytes_eq name other) _ _ (same_tests name other e)))
      (λ (ne : name ≡ other → ⊥). sym (other_chosen (bytes_eq name other) _ _ (other_tests name other ne)))
      (same_or_not name other);
}

pub names_removed : NamesAreRemoved
names_removed slots name is =
    ⊎_elim (λ (has : (i : ℕ) × (number : ℕ) × (slot_at slots i ≡ Entry number name)).
    let within = used_within slots has.0 (ap is_used has.2) in
    subst (λ (o : Option ℕ). RemovesName slots name (without_slot slots o)) (sym (slot_found slots has.1 name has.0 is.names has.2))
    (name_taken slots (slice_set slots has.0 Unused) has.0 has.1 name is has.2 (set_differs slots has.0 Unused within) (omega (arith, length-set slots has.0 Unused, is.width))))
    (λ (absent : IsAbsent slots name).
    subst (λ (o : Option ℕ). RemovesName slots name (without_slot slots o)) (sym (slot_absent slots name absent)) (none_taken slots name is absent))
    (has_or_not slots name)

-- ---- blocks spell one directory

same_lists : (a b : List Slot) → length a ≡ length b → ((i : ℕ) → slot_at a i ≡ slot_at b i) → a ≡ b
same_lists [] [] e at = refl
same_lists [] (y ∷ b) e at = absurd (omega arith)
same_lists (x ∷ a) [] e at = absurd (omega arith)
same_lists (x ∷ a) (y ∷ b) e at =
    let first : x ≡ y = at 0 in
    let rest : a ≡ b = same_lists a b (omega arith) (λ i. at (suc i)) in
    λ i. first i ∷ rest i

pub spelled_once : OneDirectory
spelled_once pages slots others is too wide =
    same_lists slots others wide (λ i.
    ⊎_elim (λ (lt : i < 16 * length pages). same_slot_at _ _ _ (spelled_at pages slots i is lt) (spelled_at pages others i too lt))
    (λ (ge : 16 * length pages ≤ i).
    let far = width_within pages (length slots) is.count in
    unused_from_width slots i (omega (arith, far)) ∙ sym (unused_from_width others i (omega (arith, far, wide))))
    (cases_lt i (16 * length pages)))
