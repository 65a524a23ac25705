-- Directories put into a list, replaced and taken away.
use Rattle.std.proofs.Common.{◌≡◌, ◌⊎◌, inl, ℕ, zero, suc, ◌<◌, ◌≤◌, Bool, true, false, cond, List, [], ◌∷◌, length, Some, None, refl, sym, ap, subst, ◌∙◌, arith}
use Rattle.std.specs.Prelude.{nat_eq, nat_lt, slice_set}
use Rattle.std.specs.List.{insert, remove}
use Rattle.std.proofs.lemmas.Bool.{eqb-true, eq-eqb}
use Rattle.std.proofs.lemmas.Bool.Decides.{nat_tests}
use Rattle.block_format.specs.declared.slot.Slot.{Slot}
use Rattle.held_list.specs.declared.held.Held.{Held}
use Rattle.held_list.specs.Held.{AllAbove, IsInOrder, slots_at, with_slots, without}
use Rattle.held_list.specs.Places.{number_at, IsGap}
use Rattle.held_list.proofs.OrderLaws.{all_above_at, apart}

not_less : (m n : ℕ) → m < n → nat_lt n m ≡ false
not_less m n lt = grind (arith, nat_tests)

is_less : (m n : ℕ) → m < n → nat_lt m n ≡ true
is_less m n lt = grind (arith, nat_tests)

above_apart : (m n : ℕ) → n < m → nat_eq m n ≡ false
above_apart m n lt = grind (arith, nat_tests)

module _ (n : ℕ) (slots : List Slot) where
  abbrev new : Held
  new = record { number = n; slots = slots }

  abbrev choice : Bool → Bool → Held → List Held → List Held
  choice same less h hs = cond same (new ∷ hs) (cond less (new ∷ h ∷ hs) (h ∷ with_slots hs n slots))

  pub set_at : (held : List Held) (k : ℕ) → IsInOrder held → k < length held → number_at held k ≡ n → slice_set held k new ≡ with_slots held n slots
  set_at [] k order lt is = absurd (omega (arith, lt))
  set_at (h ∷ hs) zero order lt is = ap (λ (t : Bool). choice t (nat_lt n h.number) h hs) (sym (eq-eqb h.number n is))
  set_at (h ∷ hs) (suc k) order lt is =
      let less : h.number < n = subst (λ (m : ℕ). h.number < m) is (all_above_at hs h.number k order.0 (omega (arith, lt))) in
      ap (λ (rest : List Held). h ∷ rest) (set_at hs k order.1 (omega (arith, lt)) is)
      ∙ sym (ap (λ (t : Bool). choice t (nat_lt n h.number) h hs) (apart h.number n less) ∙ ap (λ (t : Bool). choice false t h hs) (not_less h.number n less))

  above_with : (held : List Held) (m : ℕ) → m < n → AllAbove m held → AllAbove m (with_slots held n slots)
  above_with [] m lt all = (lt, tt)
  above_with (h ∷ hs) m lt all = by (nat_eq h.number n) (nat_lt n h.number) (above_with hs m lt all.1)
    where
      by : (same less : Bool) → AllAbove m (with_slots hs n slots) → AllAbove m (choice same less h hs)
      by true less rest = (lt, all.1)
      by false true rest = (lt, all)
      by false false rest = (all.0, rest)

  lower : (held : List Held) (m k : ℕ) → m < k → AllAbove k held → AllAbove m held
  lower [] m k lt all = tt
  lower (h ∷ hs) m k lt all = let first = all.0 in (omega (arith, first, lt), lower hs m k lt all.1)

  pub still_in_order : (held : List Held) → IsInOrder held → IsInOrder (with_slots held n slots)
  still_in_order [] order = (tt, tt)
  still_in_order (h ∷ hs) order = by (nat_eq h.number n) (nat_lt n h.number) refl refl (still_in_order hs order.1)
    where
      by : (same less : Bool) → nat_eq h.number n ≡ same → nat_lt n h.number ≡ less → IsInOrder (with_slots hs n slots) → IsInOrder (choice same less h hs)
      by true less is lt rest = (subst (λ (m : ℕ). AllAbove m hs) (eqb-true h.number n is) order.0, order.1)
      by false true is lt rest = let first : n < h.number = grind (arith, nat_tests) in ((first, lower hs n h.number first order.0), order)
      by false false is lt rest = let first : h.number < n = grind (arith, nat_tests) in (above_with hs h.number first order.0, rest)

  -- the place of a gap, element by element
  pub put_in : (held : List Held) (place : ℕ) → place ≤ length held → ((k : ℕ) → k < place → number_at held k < n) → ((k : ℕ) → place ≤ k → k < length held → n < number_at held k)
      → insert held place new ≡ with_slots held n slots
  put_in [] zero le before behind = refl
  put_in [] (suc place) le before behind = absurd (omega (arith, le))
  put_in (h ∷ hs) zero le before behind =
      let first : n < h.number = behind 0 (omega arith) (omega arith) in
      sym (ap (λ (t : Bool). choice t (nat_lt n h.number) h hs) (above_apart h.number n first) ∙ ap (λ (t : Bool). choice false t h hs) (is_less n h.number first))
  put_in (h ∷ hs) (suc place) le before behind =
      let first : h.number < n = before 0 (omega arith) in
      ap (λ (rest : List Held). h ∷ rest) (put_in hs place (omega (arith, le)) (λ k lt. before (suc k) (omega (arith, lt))) (λ k low lt. behind (suc k) (omega (arith, low)) (omega (arith, lt))))
      ∙ sym (ap (λ (t : Bool). choice t (nat_lt n h.number) h hs) (apart h.number n first) ∙ ap (λ (t : Bool). choice false t h hs) (not_less h.number n first))

pub gap_filled : (held : List Held) (n place : ℕ) (slots : List Slot) → IsGap held n place → insert held place (record { number = n; slots = slots }) ≡ with_slots held n slots
gap_filled held n place slots gap = put_in n slots held place gap.within gap.before gap.behind

-- ---- taken away

above_without : (held : List Held) (m n : ℕ) → AllAbove m held → AllAbove m (without held n)
above_without [] m n all = tt
above_without (h ∷ hs) m n all = by (nat_eq h.number n) (above_without hs m n all.1)
  where
    by : (same : Bool) → AllAbove m (without hs n) → AllAbove m (cond same hs (h ∷ without hs n))
    by true rest = all.1
    by false rest = (all.0, rest)

pub in_order_without : (held : List Held) (n : ℕ) → IsInOrder held → IsInOrder (without held n)
in_order_without [] n order = tt
in_order_without (h ∷ hs) n order = by (nat_eq h.number n) (in_order_without hs n order.1)
  where
    by : (same : Bool) → IsInOrder (without hs n) → IsInOrder (cond same hs (h ∷ without hs n))
    by true rest = order.1
    by false rest = (above_without hs h.number n order.0, rest)

pub removed_at : (held : List Held) (n k : ℕ) → IsInOrder held → k < length held → number_at held k ≡ n → remove held k ≡ without held n
removed_at [] n k order lt is = absurd (omega (arith, lt))
removed_at (h ∷ hs) n zero order lt is = ap (λ (t : Bool). cond t hs (h ∷ without hs n)) (sym (eq-eqb h.number n is))
removed_at (h ∷ hs) n (suc k) order lt is =
    let less : h.number < n = subst (λ (m : ℕ). h.number < m) is (all_above_at hs h.number k order.0 (omega (arith, lt))) in
    ap (λ (rest : List Held). h ∷ rest) (removed_at hs n k order.1 (omega (arith, lt)) is) ∙ sym (ap (λ (t : Bool). cond t hs (h ∷ without hs n)) (apart h.number n less))

pub absent_stays : (held : List Held) (n : ℕ) → slots_at held n ≡ None → without held n ≡ held
absent_stays [] n none = refl
absent_stays (h ∷ hs) n none = by (nat_eq h.number n) none (absent_stays hs n)
  where
    by : (same : Bool) → cond same (Some h.slots) (slots_at hs n) ≡ None → (slots_at hs n ≡ None → without hs n ≡ hs) → cond same hs (h ∷ without hs n) ≡ h ∷ hs
    by true e more = cc
    by false e more = ap (λ (rest : List Held). h ∷ rest) (more e)

-- ends that are the same at each last value are one
pub same_ends : {G : Type 0} (name : G) (ends other : List Slot → List Held) → ((w : List Slot) → ends w ≡ other w)
    → ◌≡◌ {A = ◌⊎◌ (G × (List Slot → List Held)) (List Held)} (inl (name, ends)) (inl (name, other))
same_ends name ends other each = λ i. inl (name, λ w. each w i)
