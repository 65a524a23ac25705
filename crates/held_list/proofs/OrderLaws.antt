-- Lists of directories in order.
use Rattle.std.proofs.Common.{◌≡◌, ℕ, zero, suc, ◌+◌, ◌<◌, ◌≤◌, Bool, true, false, cond, List, [], ◌∷◌, ◌++◌, length, Some, None, refl, ap, subst, ◌∙◌, arith}
use Rattle.std.specs.Prelude.{nat_eq, nat_lt}
use Rattle.std.proofs.lemmas.Bool.{eq-eqb}
use Rattle.std.proofs.lemmas.Bool.Decides.{nat_tests}
use Rattle.held_list.specs.declared.held.Held.{Held}
use Rattle.held_list.specs.Held.{AllAbove, AllBelow, IsInOrder, slots_at}
use Rattle.held_list.specs.Places.{held_at, number_at, IsGap}

pub one_more : (held : List Held) (h : Held) → IsInOrder held → AllBelow h.number held → IsInOrder (held ++ h ∷ [])
one_more [] h order below = (tt, tt)
one_more (x ∷ xs) h order below = (above xs order.0, one_more xs h order.1 below.1)
  where
    above : (ys : List Held) → AllAbove x.number ys → AllAbove x.number (ys ++ h ∷ [])
    above [] all = (below.0, tt)
    above (y ∷ ys) all = (all.0, above ys all.1)

pub all_above_at : (held : List Held) (n k : ℕ) → AllAbove n held → k < length held → n < number_at held k
all_above_at [] n k all lt = absurd (omega (arith, lt))
all_above_at (h ∷ hs) n zero all lt = all.0
all_above_at (h ∷ hs) n (suc k) all lt = all_above_at hs n k all.1 (omega (arith, lt))

-- a number at a place is below those behind it
pub number_rises : (held : List Held) (j k : ℕ) → IsInOrder held → j < k → k < length held → number_at held j < number_at held k
number_rises [] j k order lt within = absurd (omega (arith, within))
number_rises (h ∷ hs) j zero order lt within = absurd (omega (arith, lt))
number_rises (h ∷ hs) zero (suc k) order lt within = all_above_at hs h.number k order.0 (omega (arith, within))
number_rises (h ∷ hs) (suc j) (suc k) order lt within = number_rises hs j k order.1 (omega (arith, lt)) (omega (arith, within))

pub apart : (m n : ℕ) → m < n → nat_eq m n ≡ false
apart m n lt = grind (arith, nat_tests)

pub found_at : (held : List Held) (n k : ℕ) → IsInOrder held → k < length held → number_at held k ≡ n → slots_at held n ≡ Some (held_at held k).slots
found_at [] n k order lt is = absurd (omega (arith, lt))
found_at (h ∷ hs) n zero order lt is = ap (λ (t : Bool). cond t (Some h.slots) (slots_at hs n)) (eq-eqb h.number n is)
found_at (h ∷ hs) n (suc k) order lt is =
    let less : h.number < n = subst (λ (m : ℕ). h.number < m) is (all_above_at hs h.number k order.0 (omega (arith, lt))) in
    ap (λ (t : Bool). cond t (Some h.slots) (slots_at hs n)) (apart h.number n less) ∙ found_at hs n k order.1 (omega (arith, lt)) is

pub other_numbers : (held : List Held) (n : ℕ) → ((k : ℕ) → k < length held → nat_eq (number_at held k) n ≡ false) → slots_at held n ≡ None
other_numbers [] n others = refl
other_numbers (h ∷ hs) n others =
    ap (λ (t : Bool). cond t (Some h.slots) (slots_at hs n)) (others 0 (omega arith)) ∙ other_numbers hs n (λ k lt. others (suc k) (omega (arith, lt)))

pub absent_at : (held : List Held) (n place : ℕ) → IsGap held n place → slots_at held n ≡ None
absent_at held n place gap = other_numbers held n (λ k lt. by k lt (nat_lt k place) refl)
  where
    by : (k : ℕ) → k < length held → (t : Bool) → nat_lt k place ≡ t → nat_eq (number_at held k) n ≡ false
    by k lt true is = apart (number_at held k) n (gap.before k (grind (arith, nat_tests)))
    by k lt false is = let less = gap.behind k (grind (arith, nat_tests)) lt in grind (arith, nat_tests)
