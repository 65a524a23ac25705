-- The numbers that names have, after an entry is put and after one is taken away.
use Rattle.std.proofs.Common.{◌≡◌, ℕ, ◌+◌, suc, Bool, true, false, List, [], ◌∷◌, Some, None, refl, sym, ap, ◌∙◌, arith}
use Rattle.std.specs.Prelude.{Option, is_some, bytes_eq, if◌then◌else◌, slice_set}
use Rattle.std.specs.Option.{option_map}
use Rattle.std.specs.Set.{is_member}
use Rattle.std.specs.Cmp.Lexicographic.{nat_list_eq_equiv}
use Rattle.block_format.specs.declared.slot.Slot.{Slot}
use Rattle.block_format.specs.declared.slot.Slot.TheVariants.{Unused, Entry}
use Rattle.dir_slots.specs.Slots.{HasNamesOnce, number_in, slot_of, first_unused, with_slot, without_slot}
use Rattle.tree_model.specs.Path.{name_eq}
use Rattle.tree_model.proofs.Fronts.{test_fails}
use Rattle.tree_model.proofs.Paths.{same_name}
use Rattle.node_table.proofs.CountLaws.{names_in, slot_member, member_at, rest_once}
use Rattle.node_table.proofs.ShapeLaws.{none_of}
use Rattle.node_table.proofs.SlotCounts.{with_next, with_first, set_next, some_mapped}

-- ---- numbers and slots of names

-- a name that has no number has no slot
pub no_slot : (slots : List Slot) (name : List ℕ) → number_in slots name ≡ None → slot_of slots name ≡ None
no_slot [] name none = refl
no_slot (Unused ∷ slots) name none = ap (option_map (λ (i : ℕ). i + 1)) (no_slot slots name none)
no_slot (Entry number other ∷ slots) name none =
    elim (bytes_eq other name) as (λ b. (if b then Some number else number_in slots name) ≡ None → (if b then Some 0 else option_map (λ (i : ℕ). i + 1) (slot_of slots name)) ≡ None) [
      | true ↦ λ e. cc
      | false ↦ λ e. ap (option_map (λ (i : ℕ). i + 1)) (no_slot slots name e)
    ] none

-- a name that has a number has a slot
pub some_slot : (slots : List Slot) (name : List ℕ) → is_some (slot_of slots name) ≡ is_some (number_in slots name)
some_slot [] name = refl
some_slot (Unused ∷ slots) name = next (slot_of slots name) ∙ some_slot slots name
  where
    next : (o : Option ℕ) → is_some (option_map (λ (i : ℕ). i + 1) o) ≡ is_some o
    next None = refl
    next (Some i) = refl
some_slot (Entry number other ∷ slots) name =
    elim (bytes_eq other name) as (λ b. is_some (if b then Some 0 else option_map (λ (i : ℕ). i + 1) (slot_of slots name)) ≡ is_some (if b then Some number else number_in slots name)) [
      | true ↦ refl
      | false ↦ next (slot_of slots name) ∙ some_slot slots name
    ]
  where
    next : (o : Option ℕ) → is_some (option_map (λ (i : ℕ). i + 1) o) ≡ is_some o
    next None = refl
    next (Some i) = refl

-- ---- an entry is put

swapped : (a b : Bool) (x y z : Option ℕ) → (a ≡ true → b ≡ true → ⊥) → (if a then x else (if b then y else z)) ≡ (if b then y else (if a then x else z))
swapped true true x y z never = absurd (never refl refl)
swapped true false x y z never = refl
swapped false b x y z never = refl

pub number_put : (slots : List Slot) (number : ℕ) (name : List ℕ) → number_in slots name ≡ None → (x : List ℕ)
    → number_in (with_slot slots (first_unused slots) (Entry number name)) x ≡ (if bytes_eq name x then Some number else number_in slots x)
number_put [] number name none x = refl
number_put (Unused ∷ slots) number name none x = ap (λ s. number_in s x) (with_first slots (Entry number name))
number_put (Entry n other ∷ slots) number name none x =
    let differs : bytes_eq other name ≡ false = test_fails (bytes_eq other name) (λ e. let some : (if true then Some n else number_in slots name) ≡ None = sym (ap (λ b. if b then Some n else number_in slots name) e) ∙ none in cc) in
    let rest : number_in slots name ≡ None = sym (ap (λ b. if b then Some n else number_in slots name) differs) ∙ none in
    ap (λ s. number_in s x) (with_next (Entry n other) slots (first_unused slots) (Entry number name))
    ∙ ap (λ o. if bytes_eq other x then Some n else o) (number_put slots number name rest x)
    ∙ swapped (bytes_eq other x) (bytes_eq name x) (Some n) (Some number) (number_in slots x)
    (λ e g. let same : other ≡ name = same_name other x e ∙ sym (same_name name x g) in let yes : bytes_eq other name ≡ true = ap (bytes_eq other) (sym same) ∙ nat_list_eq_equiv.refl other in cc)

-- ---- an entry is taken away

-- no later slot has the name of the first
pub none_later : (number : ℕ) (name : List ℕ) (slots : List Slot) → HasNamesOnce (Entry number name ∷ slots) → number_in slots name ≡ None
none_later number name slots once = none_of (number_in slots name) (λ x e.
    let some : is_member name_eq (names_in slots) name ≡ true = slot_member slots name ∙ ap is_some e in
    let m = member_at slots name some in
    let same : 0 ≡ suc m.0 = once 0 (suc m.0) refl m.1 (sym m.2) in
    absurd (omega arith))

pub number_taken : (slots : List Slot) (name : List ℕ) (i : ℕ) → HasNamesOnce slots → slot_of slots name ≡ Some i → (x : List ℕ)
    → number_in (without_slot slots (Some i)) x ≡ (if bytes_eq name x then None else number_in slots x)
number_taken [] name i once e x = cc
number_taken (Unused ∷ slots) name i once e x =
    let m = some_mapped (slot_of slots name) i e in
    ap (λ k. number_in (slice_set (Unused ∷ slots) k Unused) x) m.2 ∙ ap (λ s. number_in s x) (set_next Unused slots m.0) ∙ number_taken slots name m.0 (rest_once Unused slots once) m.1 x
number_taken (Entry number other ∷ slots) name i once e x =
    elim (bytes_eq other name) as (λ b. bytes_eq other name ≡ b → (if b then Some 0 else option_map (λ (i : ℕ). i + 1) (slot_of slots name)) ≡ Some i
    → number_in (slice_set (Entry number other ∷ slots) i Unused) x ≡ (if bytes_eq name x then None else (if bytes_eq other x then Some number else number_in slots x))) [
      | true ↦ λ same first. here (same_name other name same) first
      | false ↦ λ differs later. let m = some_mapped (slot_of slots name) i later in there differs m.0 m.2 (number_taken slots name m.0 (rest_once (Entry number other) slots once) m.1 x)
    ] refl e
  where
    here : other ≡ name → Some 0 ≡ Some i → number_in (slice_set (Entry number other ∷ slots) i Unused) x ≡ (if bytes_eq name x then None else (if bytes_eq other x then Some number else number_in slots x))
    here same first =
        let at : 0 ≡ i = cc in
        ap (λ k. number_in (slice_set (Entry number other ∷ slots) k Unused) x) (sym at)
        ∙ elim (bytes_eq name x) as (λ b. bytes_eq name x ≡ b → number_in slots x ≡ (if b then None else (if bytes_eq other x then Some number else number_in slots x))) [
          | true ↦ λ g. ap (number_in slots) (sym (same_name name x g) ∙ sym same) ∙ none_later number other slots once
          | false ↦ λ g. sym (ap (λ t. if t then Some number else number_in slots x) (ap (λ y. bytes_eq y x) same ∙ g))
        ] refl

    there : bytes_eq other name ≡ false → (j : ℕ) → i ≡ j + 1 → number_in (slice_set slots j Unused) x ≡ (if bytes_eq name x then None else number_in slots x)
        → number_in (slice_set (Entry number other ∷ slots) i Unused) x ≡ (if bytes_eq name x then None else (if bytes_eq other x then Some number else number_in slots x))
    there differs j is rest =
        ap (λ k. number_in (slice_set (Entry number other ∷ slots) k Unused) x) is ∙ ap (λ s. number_in s x) (set_next (Entry number other) slots j)
        ∙ ap (λ o. if bytes_eq other x then Some number else o) rest
        ∙ swapped (bytes_eq other x) (bytes_eq name x) (Some number) None (number_in slots x)
        (λ e g. let same : other ≡ name = same_name other x e ∙ sym (same_name name x g) in let yes : bytes_eq other name ≡ true = ap (bytes_eq other) (sym same) ∙ nat_list_eq_equiv.refl other in cc)
