-- Numbers that are named.
use Rattle.std.proofs.Common.{◌≡◌, ℕ, suc, ◌+◌, ◌<◌, ◌≤◌, Bool, true, false, cond, List, [], ◌∷◌, ◌++◌, length, take, get_or, refl, sym, ap, subst, ◌∙◌, arith}
use Rattle.std.specs.Prelude.{nat_eq, nat_lt, ◌||◌, All, filter, filter_map}
use Rattle.std.specs.Cmp.{nat_cmp_total}
use Rattle.std.specs.Ordering.{nat_cmp, eq_by_cmp}
use Rattle.std.specs.FinSet as set
use Rattle.std.proofs.lemmas.Bool.{eqb-true}
use Rattle.std.proofs.lemmas.Bool.Decides.{nat_tests}
use Rattle.std.proofs.lemmas.List.{take_more, append-nil}
use Rattle.std.proofs.lemmas.List.Concat.{flat_map-append}
use Rattle.std.proofs.lemmas.List.Elements.{filter_map-append, All-cons}
use Rattle.std.proofs.lemmas.List.Sums.{sum_by_push}
use Rattle.block_format.specs.Slot.{SlotFits}
use Rattle.block_format.specs.declared.slot.Slot.{Slot}
use Rattle.block_format.specs.declared.slot.Slot.TheVariants.{Unused, Entry}
use Rattle.dir_slots.specs.Slots.{IsDirectory, slot_at, is_used}
use Rattle.held_list.specs.declared.held.Held.{Held}
use Rattle.image_model.specs.Nodes.{number_named}
use Rattle.name_check.specs.Names.{HasNamed, numbers_in, numbers_by, times}
use Rattle.name_check.specs.declared.naming.Naming.{Naming}

tied : (q n : ℕ) → eq_by_cmp nat_cmp q n ≡ nat_eq n q
tied q n = grind (arith, nat_tests)

-- what is in a set, with one number more
pub inserted : (numbers : set.FinSet nat_cmp) (m n : ℕ) → set.contains (set.insert numbers m) n ≡ (nat_eq m n || set.contains numbers n)
inserted numbers m n = set.contains-insert nat_cmp_total numbers m n ∙ ap (λ (b : Bool). b || set.contains numbers n) (tied n m)

lt_same : (k a b : ℕ) → b ≡ a + 0 → nat_lt k a ≡ nat_lt k b
lt_same k a b is = ap (nat_lt k) (let e : a ≡ b = omega (arith, is) in e)

-- ---- one number more is named

module _ (naming : Naming) (m : ℕ) (named : List ℕ) (before : HasNamed naming named) where
  push : (n : ℕ) (t : Bool) → nat_eq m n ≡ t → times n (named ++ m ∷ []) ≡ times n named + cond t 1 0
  push n t is = sum_by_push (λ (x : ℕ). cond (nat_eq x n) 1 0) named m ∙ ap (λ (b : Bool). times n named + cond b 1 0) is

  at_same : (t : Bool) (n : ℕ) → m ≡ n → set.contains naming.once m ≡ t → nat_lt 0 (times n named) ≡ t
  at_same t n same is = sym (before.once n) ∙ ap (set.contains naming.once) (sym same) ∙ is

  once_stays : set.contains naming.once m ≡ true → (n : ℕ) → set.contains naming.once n ≡ nat_lt 0 (times n (named ++ m ∷ []))
  once_stays has n = before.once n ∙ by (nat_eq m n) refl
    where
      by : (t : Bool) → nat_eq m n ≡ t → nat_lt 0 (times n named) ≡ nat_lt 0 (times n (named ++ m ∷ []))
      by true is = at_same true n (eqb-true m n is) has ∙ more (times n named) _ (push n true is)
        where
          more : (a b : ℕ) → b ≡ a + 1 → true ≡ nat_lt 0 b
          more a b e = grind (arith, nat_tests)
      by false is = lt_same 0 _ _ (push n false is)

  again_more : set.contains naming.once m ≡ true → (n : ℕ) → set.contains (set.insert naming.again m) n ≡ nat_lt 1 (times n (named ++ m ∷ []))
  again_more has n = inserted naming.again m n ∙ by (nat_eq m n) refl
    where
      by : (t : Bool) → nat_eq m n ≡ t → (t || set.contains naming.again n) ≡ nat_lt 1 (times n (named ++ m ∷ []))
      by true is = more (times n named) _ (push n true is) (at_same true n (eqb-true m n is) has)
        where
          more : (a b : ℕ) → b ≡ a + 1 → nat_lt 0 a ≡ true → true ≡ nat_lt 1 b
          more a b e lt = grind (arith, nat_tests)
      by false is = before.again n ∙ lt_same 1 _ _ (push n false is)

  once_more : (n : ℕ) → set.contains (set.insert naming.once m) n ≡ nat_lt 0 (times n (named ++ m ∷ []))
  once_more n = inserted naming.once m n ∙ by (nat_eq m n) refl
    where
      by : (t : Bool) → nat_eq m n ≡ t → (t || set.contains naming.once n) ≡ nat_lt 0 (times n (named ++ m ∷ []))
      by true is = more (times n named) _ (push n true is)
        where
          more : (a b : ℕ) → b ≡ a + 1 → true ≡ nat_lt 0 b
          more a b e = grind (arith, nat_tests)
      by false is = before.once n ∙ lt_same 0 _ _ (push n false is)

  again_stays : set.contains naming.once m ≡ false → (n : ℕ) → set.contains naming.again n ≡ nat_lt 1 (times n (named ++ m ∷ []))
  again_stays has n = before.again n ∙ by (nat_eq m n) refl
    where
      by : (t : Bool) → nat_eq m n ≡ t → nat_lt 1 (times n named) ≡ nat_lt 1 (times n (named ++ m ∷ []))
      by true is = more (times n named) _ (push n true is) (at_same false n (eqb-true m n is) has)
        where
          more : (a b : ℕ) → b ≡ a + 1 → nat_lt 0 a ≡ false → nat_lt 1 a ≡ nat_lt 1 b
          more a b e not_more = grind (arith, nat_tests)
      by false is = lt_same 1 _ _ (push n false is)

  pub named_again : (after : Naming) → set.contains naming.once m ≡ true → after.once ≡ naming.once → after.again ≡ set.insert naming.again m → HasNamed after (named ++ m ∷ [])
  named_again after has once_is again_is = record {
    once = λ n. ap (λ (s : set.FinSet nat_cmp). set.contains s n) once_is ∙ once_stays has n;
    again = λ n. ap (λ (s : set.FinSet nat_cmp). set.contains s n) again_is ∙ again_more has n;
  }

  pub named_first : (after : Naming) → set.contains naming.once m ≡ false → after.once ≡ set.insert naming.once m → after.again ≡ naming.again → HasNamed after (named ++ m ∷ [])
  named_first after has once_is again_is = record {
    once = λ n. ap (λ (s : set.FinSet nat_cmp). set.contains s n) once_is ∙ once_more n;
    again = λ n. ap (λ (s : set.FinSet nat_cmp). set.contains s n) again_is ∙ again_stays has n;
  }

pub none_named : (naming : Naming) → naming.once ≡ set.empty → naming.again ≡ set.empty → HasNamed naming []
none_named naming once_is again_is = record {
  once = λ n. ap (λ (s : set.FinSet nat_cmp). set.contains s n) once_is ∙ set.contains-empty nat_cmp n;
  again = λ n. ap (λ (s : set.FinSet nat_cmp). set.contains s n) again_is ∙ set.contains-empty nat_cmp n;
}

-- ---- the numbers of a directory

pub of_entries : (slots : List Slot) → filter_map number_named (filter is_used slots) ≡ filter_map number_named slots
of_entries [] = refl
of_entries (Unused ∷ slots) = of_entries slots
of_entries (Entry number name ∷ slots) = ap (λ (ns : List ℕ). number ∷ ns) (of_entries slots)

numbers_fit : (slots : List Slot) → ((i : ℕ) → SlotFits (slot_at slots i)) → All (λ n. n ≤ 65535) (filter_map number_named slots)
numbers_fit [] fits = λ k d lt. absurd (omega (arith, lt))
numbers_fit (Unused ∷ slots) fits = numbers_fit slots (λ i. fits (suc i))
numbers_fit (Entry number name ∷ slots) fits = All-cons (λ n. n ≤ 65535) number _ (fits 0).1 (numbers_fit slots (λ i. fits (suc i)))

pub numbers_at_most : (slots : List Slot) (numbers : List ℕ) → IsDirectory slots → numbers ≡ numbers_in slots → All (λ n. n ≤ 65535) numbers
numbers_at_most slots numbers directory is = subst (λ (ns : List ℕ). All (λ n. n ≤ 65535) ns) (sym is) (numbers_fit slots directory.fits)

-- one slot more
pub number_more : (slots : List Slot) (k : ℕ) (d : Slot) (numbers : List ℕ) → k < length slots → numbers ≡ filter_map number_named (take k slots)
    → numbers ++ filter_map number_named (get_or slots k d ∷ []) ≡ filter_map number_named (take (k + 1) slots)
number_more slots k d numbers lt is =
    ap (λ (ns : List ℕ). ns ++ filter_map number_named (get_or slots k d ∷ [])) is
    ∙ sym (filter_map-append number_named (take k slots) (get_or slots k d ∷ [])) ∙ ap (filter_map number_named) (sym (take_more slots k d lt))

-- one directory more
pub numbers_by_more : (held : List Held) (k : ℕ) (d : Held) → k < length held → numbers_by (take k held) ++ numbers_in (get_or held k d).slots ≡ numbers_by (take (k + 1) held)
numbers_by_more held k d lt =
    ap (λ (ns : List ℕ). numbers_by (take k held) ++ ns) (sym (append-nil _))
    ∙ sym (flat_map-append (λ (h : Held). numbers_in h.slots) (take k held) (get_or held k d ∷ [])) ∙ ap numbers_by (sym (take_more held k d lt))
