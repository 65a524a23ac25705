-- The slots of a directory now: what is staged, else what is left.
use Rattle.std.proofs.Common.{◌≡◌, ℕ, zero, suc, ◌+◌, ◌*◌, ◌<◌, ◌≤◌, Bool, true, false, cond, List, [], ◌∷◌, length, refl, sym, ap, ◌∙◌, arith}
use Rattle.std.specs.Prelude.{◌&&◌, nat_eq, nat_lt, max, Option, Some, None}
use Rattle.std.specs.FinMap.{find}
use Rattle.std.proofs.lemmas.Bool.Decides.{nat_tests}
use Rattle.vol_numbers.specs.declared.block.Block.{Block}
use Rattle.block_format.specs.Slot.{slot_bytes}
use Rattle.block_format.specs.declared.slot.Slot.{Slot}
use Rattle.block_format.specs.declared.slot.Slot.TheVariants as slots
use Rattle.dir_slots.specs.Pages.{IsPage}
use Rattle.dir_slots.specs.Slots.{slot_at}
use Rattle.dirty_store.specs.Entries.{Entries}
use Rattle.dirty_store.specs.Overlay.{Overlay, width_of}
use Rattle.point_model.specs.Holding.{slots_left, slot_now, slot_or, slots_from, slots_now, width_now}
use Rattle.volume_model.specs.Places.{spot_cmp}
use Rattle.volume_model.proofs.PlacesTold.{tie_is}
use Rattle.tree_plan.specs.Pages.{slot_with, SpellsPage, width_with}

pub in_list : (at : ℕ → Slot) (first n k : ℕ) → k < n → slot_at (slots_from at first n) k ≡ at (first + k)
unfolding slots_from
in_list at first zero k lt = absurd (omega (arith, lt))
in_list at first (suc n) zero lt = let e : first ≡ first + zero = omega arith in ap at e
in_list at first (suc n) (suc k) lt = let e : (first + 1) + k ≡ first + suc k = omega arith in in_list at (first + 1) n k (omega (arith, lt)) ∙ ap at e

pub past_list : (at : ℕ → Slot) (first n k : ℕ) → n ≤ k → slot_at (slots_from at first n) k ≡ slots.Unused
unfolding slots_from
past_list at first zero k le = refl
past_list at first (suc n) zero le = absurd (omega (arith, le))
past_list at first (suc n) (suc k) le = past_list at (first + 1) n k (omega (arith, le))

pub past_slots : (ss : List Slot) (k : ℕ) → length ss ≤ k → slot_at ss k ≡ slots.Unused
past_slots [] k le = refl
past_slots (s ∷ ss) zero le = absurd (omega (arith, le))
past_slots (s ∷ ss) (suc k) le = past_slots ss k (omega (arith, le))

pub length_from : (at : ℕ → Slot) (first n : ℕ) → length (slots_from at first n) ≡ n
unfolding slots_from
length_from at first zero = refl
length_from at first (suc n) = ap suc (length_from at (first + 1) n)

pub lt_true : (a b : ℕ) → nat_lt a b ≡ true → a < b
lt_true a b is = grind (arith, nat_tests)

pub lt_false : (a b : ℕ) → nat_lt a b ≡ false → b ≤ a
lt_false a b is = grind (arith, nat_tests)

-- no slot is staged from the width on
pub none_past : {T : Type 0} → (es : Entries T) (n k : ℕ) → width_of es n ≤ k → find spot_cmp (n, k) es ≡ None
none_past [] n k le = refl
none_past (e ∷ es) n k le =
    ap (λ (t : Bool). cond t (Some e.1) (find spot_cmp (n, k) es)) (tie_is (n, k) e.0) ∙ by (nat_eq e.0.0 n) (nat_eq e.0.1 k) refl le (none_past es n k)
  where
    never : (a w k : ℕ) → nat_eq a k ≡ true → max (a + 1) w ≤ k → ⊥
    never a w k is le = grind (arith, nat_tests)

    more_than : (a w k : ℕ) → max (a + 1) w ≤ k → w ≤ k
    more_than a w k le = omega (arith, le)

    by : (t u : Bool) → nat_eq e.0.1 k ≡ u → cond t (max (e.0.1 + 1) (width_of es n)) (width_of es n) ≤ k → (width_of es n ≤ k → find spot_cmp (n, k) es ≡ None)
        → cond (t && u) (Some e.1) (find spot_cmp (n, k) es) ≡ None
    by true true here le more = absurd (never e.0.1 (width_of es n) k here le)
    by true false here le more = more (more_than e.0.1 (width_of es n) k le)
    by false u here le more = more le

pub slot_is : (old : List Block) (o : Overlay) (n k : ℕ) → slot_at (slots_now old o n) k ≡ slot_with (slots_left old o n) o n k
slot_is old o n k = by (nat_lt k (width_now old o n)) refl
  where
    first_most : (a b c : ℕ) → max a b ≤ c → a ≤ c
    first_most a b c le = omega (arith, le)

    second_most : (a b c : ℕ) → max a b ≤ c → b ≤ c
    second_most a b c le = omega (arith, le)

    by : (t : Bool) → nat_lt k (width_now old o n) ≡ t → slot_at (slots_now old o n) k ≡ slot_with (slots_left old o n) o n k
    by true is = let e : 0 + k ≡ k = omega arith in in_list (slot_now old o n) 0 (width_now old o n) k (lt_true k (width_now old o n) is) ∙ ap (slot_now old o n) e
    by false is =
        let past = lt_false k (width_now old o n) is in
        past_list (slot_now old o n) 0 (width_now old o n) k past
        ∙ sym (past_slots (slots_left old o n) k (first_most (length (slots_left old o n)) (width_of o.slots n) k past))
        ∙ sym (ap (λ (s : Option Slot). slot_or s (slot_at (slots_left old o n) k)) (none_past o.slots n k (second_most (length (slots_left old o n)) (width_of o.slots n) k past)))

-- a page that spells the slots left and staged is a page of the slots now
pub page_is : (old : List Block) (o : Overlay) (n place : ℕ) (left : List Slot) (bytes : List ℕ) → left ≡ slots_left old o n → SpellsPage left o n place bytes → IsPage (slots_now old o n) place bytes
page_is old o n place left bytes is spells j lt =
    spells j lt ∙ ap slot_bytes (ap (λ (ss : List Slot). slot_with ss o n (16 * place + j)) is ∙ sym (slot_is old o n (16 * place + j)))

pub width_is : (old : List Block) (o : Overlay) (n : ℕ) (left : List Slot) → left ≡ slots_left old o n → length (slots_now old o n) ≡ width_with left o n
width_is old o n left is = length_from (slot_now old o n) 0 (width_now old o n) ∙ ap (λ (ss : List Slot). width_with ss o n) (sym is)
