-- Look-ups in lists of directories.
use Rattle.std.proofs.Common.{◌≡◌, ◌≢◌, ◌<◌, ◌≤◌, ℕ, Bool, true, false, cond, List, [], ◌∷◌, Option, Some, None, refl, sym, ap, ◌∙◌, arith, ⊎_elim}
use Rattle.std.specs.Prelude.{nat_eq, nat_lt}
use Rattle.std.proofs.lemmas.Bool.{cases_eq, eq-eqb, eqb-true}
use Rattle.std.proofs.lemmas.Bool.Decides.{nat_tests}
use Rattle.block_format.specs.declared.slot.Slot.{Slot}
use Rattle.held_list.specs.declared.held.Held.{Held}
use Rattle.held_list.specs.Held.{AllAbove, IsInOrder, slots_at, with_slots, without}

pub apart_tests : (m n : ℕ) → m ≢ n → nat_eq m n ≡ false
apart_tests m n other = grind (arith, nat_tests, other)

-- ---- put and taken away

module _ (n : ℕ) (slots : List Slot) where
  abbrev new : Held
  new = record { number = n; slots = slots }

  abbrev choice : Bool → Bool → Held → List Held → List Held
  choice same less h hs = cond same (new ∷ hs) (cond less (new ∷ h ∷ hs) (h ∷ with_slots hs n slots))

  front : (rest : Option (List Slot)) → cond (nat_eq n n) (Some slots) rest ≡ Some slots
  front rest = ap (λ (t : Bool). cond t (Some slots) rest) (eq-eqb n n refl)

  pub with_own : (hs : List Held) → slots_at (with_slots hs n slots) n ≡ Some slots
  with_own [] = front None
  with_own (h ∷ hs) = by (nat_eq h.number n) (nat_lt n h.number) refl (with_own hs)
    where
      by : (same less : Bool) → nat_eq h.number n ≡ same → slots_at (with_slots hs n slots) n ≡ Some slots → slots_at (choice same less h hs) n ≡ Some slots
      by true less is rest = front (slots_at hs n)
      by false true is rest = front (slots_at (h ∷ hs) n)
      by false false is rest = ap (λ (t : Bool). cond t (Some h.slots) (slots_at (with_slots hs n slots) n)) is ∙ rest

  pub with_other : (hs : List Held) (m : ℕ) → nat_eq n m ≡ false → slots_at (with_slots hs n slots) m ≡ slots_at hs m
  with_other [] m apart = ap (λ (t : Bool). cond t (Some slots) None) apart
  with_other (h ∷ hs) m apart = by (nat_eq h.number n) (nat_lt n h.number) refl (with_other hs m apart)
    where
      skip : (rest : Option (List Slot)) → cond (nat_eq n m) (Some slots) rest ≡ rest
      skip rest = ap (λ (t : Bool). cond t (Some slots) rest) apart

      by : (same less : Bool) → nat_eq h.number n ≡ same → slots_at (with_slots hs n slots) m ≡ slots_at hs m → slots_at (choice same less h hs) m ≡ slots_at (h ∷ hs) m
      by true less is rest =
          let off : nat_eq h.number m ≡ false = ap (λ (k : ℕ). nat_eq k m) (eqb-true h.number n is) ∙ apart in
          skip (slots_at hs m) ∙ sym (ap (λ (t : Bool). cond t (Some h.slots) (slots_at hs m)) off)
      by false true is rest = skip (slots_at (h ∷ hs) m)
      by false false is rest = ap (cond (nat_eq h.number m) (Some h.slots)) rest

-- a number below all of them isn't there
pub below_all : (hs : List Held) (n m : ℕ) → n ≤ m → AllAbove m hs → slots_at hs n ≡ None
below_all [] n m le above = refl
below_all (h ∷ hs) n m le above =
    let first : m < h.number = above.0 in
    let apart : nat_eq h.number n ≡ false = grind (arith, nat_tests) in
    ap (λ (t : Bool). cond t (Some h.slots) (slots_at hs n)) apart ∙ below_all hs n m le above.1

pub without_own : (hs : List Held) (n : ℕ) → IsInOrder hs → slots_at (without hs n) n ≡ None
without_own [] n order = refl
without_own (h ∷ hs) n order = by (nat_eq h.number n) refl (without_own hs n order.1)
  where
    by : (same : Bool) → nat_eq h.number n ≡ same → slots_at (without hs n) n ≡ None → slots_at (cond same hs (h ∷ without hs n)) n ≡ None
    by true is rest = let e : h.number ≡ n = eqb-true h.number n is in below_all hs n h.number (omega (arith, e)) order.0
    by false is rest = ap (λ (t : Bool). cond t (Some h.slots) (slots_at (without hs n) n)) is ∙ rest

pub without_other : (hs : List Held) (n m : ℕ) → m ≢ n → slots_at (without hs n) m ≡ slots_at hs m
without_other [] n m other = refl
without_other (h ∷ hs) n m other = by (nat_eq h.number n) refl (without_other hs n m other)
  where
    by : (same : Bool) → nat_eq h.number n ≡ same → slots_at (without hs n) m ≡ slots_at hs m → slots_at (cond same hs (h ∷ without hs n)) m ≡ slots_at (h ∷ hs) m
    by true is rest =
        let off : nat_eq h.number m ≡ false = ap (λ (k : ℕ). nat_eq k m) (eqb-true h.number n is) ∙ apart_tests n m (λ e. other (sym e)) in
        sym (ap (λ (t : Bool). cond t (Some h.slots) (slots_at hs m)) off)
    by false is rest = ap (cond (nat_eq h.number m) (Some h.slots)) rest

-- ---- lists in order with the same look-ups are one list

same_slots : (a b : List Slot) → Some a ≡ Some b → a ≡ b
same_slots a b e = cc

first_at : (h : Held) (hs : List Held) → slots_at (h ∷ hs) h.number ≡ Some h.slots
first_at h hs = ap (λ (t : Bool). cond t (Some h.slots) (slots_at hs h.number)) (eq-eqb h.number h.number refl)

-- a number that is there is not below the first
not_below : (h k : Held) (ks : List Held) → IsInOrder (k ∷ ks) → slots_at (k ∷ ks) h.number ≡ Some h.slots → k.number ≤ h.number
not_below h k ks order there = by (nat_lt h.number k.number) refl
  where
    by : (t : Bool) → nat_lt h.number k.number ≡ t → k.number ≤ h.number
    by false is = grind (arith, nat_tests)
    by true is =
        let lt : h.number < k.number = grind (arith, nat_tests) in
        let apart : nat_eq k.number h.number ≡ false = grind (arith, nat_tests) in
        let none : slots_at (k ∷ ks) h.number ≡ None = ap (λ (t : Bool). cond t (Some k.slots) (slots_at ks h.number)) apart ∙ below_all ks h.number k.number (omega (arith, lt)) order.0 in
        let never : None ≡ Some h.slots = sym none ∙ there in
        cc

pub same_list : (hs ks : List Held) → IsInOrder hs → IsInOrder ks → ((n : ℕ) → slots_at hs n ≡ slots_at ks n) → hs ≡ ks
same_list [] [] order others each = refl
same_list [] (k ∷ ks) order others each = let never : None ≡ Some k.slots = each k.number ∙ first_at k ks in cc
same_list (h ∷ hs) [] order others each = let never : Some h.slots ≡ None = sym (first_at h hs) ∙ each h.number in cc
same_list (h ∷ hs) (k ∷ ks) order others each =
    let low = not_below h k ks others (sym (each h.number) ∙ first_at h hs) in
    let high = not_below k h hs order (each k.number ∙ first_at k ks) in
    let number : h.number ≡ k.number = omega (arith, low, high) in
    let slots : h.slots ≡ k.slots = same_slots h.slots k.slots (sym (first_at h hs) ∙ each h.number ∙ ap (slots_at (k ∷ ks)) number ∙ first_at k ks) in
    let first : h ≡ k = λ i. record { number = number i; slots = slots i } in
    let rest = same_list hs ks order.1 others.1 (λ n. ⊎_elim (λ here. here_at n here number) (λ other. other_at n other number) (cases_eq n h.number)) in
    λ i. first i ∷ rest i
  where
    here_at : (n : ℕ) → n ≡ h.number → h.number ≡ k.number → slots_at hs n ≡ slots_at ks n
    here_at n here number = below_all hs n h.number (omega (arith, here)) order.0 ∙ sym (below_all ks n k.number (omega (arith, here, number)) others.0)

    other_at : (n : ℕ) → n ≢ h.number → h.number ≡ k.number → slots_at hs n ≡ slots_at ks n
    other_at n other number =
        let off : nat_eq h.number n ≡ false = apart_tests h.number n (λ e. other (sym e)) in
        let off_too : nat_eq k.number n ≡ false = ap (λ (m : ℕ). nat_eq m n) (sym number) ∙ off in
        sym (ap (λ (t : Bool). cond t (Some h.slots) (slots_at hs n)) off) ∙ each n ∙ ap (λ (t : Bool). cond t (Some k.slots) (slots_at ks n)) off_too
