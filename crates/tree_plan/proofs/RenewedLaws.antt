-- A directory's slots now, as a list, and its pages.
use Rattle.std.proofs.Common.{◌≡◌, ℕ, zero, suc, ◌+◌, ◌*◌, ◌<◌, ◌≤◌, Bool, true, false, List, [], ◌∷◌, ◌++◌, length, refl, sym, ap, subst, ◌∙◌, arith}
use Rattle.std.specs.Prelude.{nat_lt, max, Option}
use Rattle.vol_numbers.specs.declared.runs.Page.{Page}
use Rattle.block_format.specs.Slot.{SlotFits, slot_bytes}
use Rattle.block_format.specs.declared.slot.Slot.{Slot}
use Rattle.dir_slots.specs.Pages.{SpellsDirectory, bytes_at, pages_for}
use Rattle.dir_slots.specs.Slots.{IsDirectory, slot_at}
use Rattle.dirty_store.specs.Overlay.{Overlay, width_of}
use Rattle.point_model.specs.Holding.{slot_or}
use Rattle.tree_plan.specs.Pages.{SlotsFit, SpellsPage, slot_with, width_with}
use Rattle.tree_plan.specs.Renewed.{slots_with}
use Rattle.tree_plan.proofs.SlotLaws.{in_list, past_list, past_slots, none_past, length_from, lt_true, lt_false}

-- ---- the slots

pub with_at : (left : List Slot) (o : Overlay) (n k : ℕ) → slot_at (slots_with left o n) k ≡ slot_with left o n k
with_at left o n k = by (nat_lt k (width_with left o n)) refl
  where
    first_most : (a b c : ℕ) → max a b ≤ c → a ≤ c
    first_most a b c le = omega (arith, le)

    second_most : (a b c : ℕ) → max a b ≤ c → b ≤ c
    second_most a b c le = omega (arith, le)

    by : (t : Bool) → nat_lt k (width_with left o n) ≡ t → slot_at (slots_with left o n) k ≡ slot_with left o n k
    by true is = let e : 0 + k ≡ k = omega arith in in_list (slot_with left o n) 0 (width_with left o n) k (lt_true k (width_with left o n) is) ∙ ap (slot_with left o n) e
    by false is =
        let past = lt_false k (width_with left o n) is in
        past_list (slot_with left o n) 0 (width_with left o n) k past
        ∙ sym (past_slots left k (first_most (length left) (width_of o.slots n) k past))
        ∙ sym (ap (λ (s : Option Slot). slot_or s (slot_at left k)) (none_past o.slots n k (second_most (length left) (width_of o.slots n) k past)))

pub width_with_is : (left : List Slot) (o : Overlay) (n : ℕ) → length (slots_with left o n) ≡ width_with left o n
width_with_is left o n = length_from (slot_with left o n) 0 (width_with left o n)

-- each staged slot is within the rules, where the slots now are a directory's
pub slots_fit : (left : List Slot) (o : Overlay) (n : ℕ) → IsDirectory (slots_with left o n) → SlotsFit o n
slots_fit left o n directory = record {
  width = second (length left) (width_of o.slots n) 65534 (subst (λ (w : ℕ). w ≤ 65534) (width_with_is left o n) directory.width);
  each = λ k slot found. subst SlotFits (with_at left o n k ∙ ap (λ (s : Option Slot). slot_or s (slot_at left k)) found) (directory.fits k);
}
  where
    second : (a b c : ℕ) → max a b ≤ c → b ≤ c
    second a b c le = omega (arith, le)

-- ---- the pages

pub bytes_push : (pages : List Page) (page : Page) (place : ℕ) → bytes_at (pages ++ page ∷ []) (length pages) ≡ page.block.bytes
bytes_push [] page place = refl
bytes_push (p ∷ ps) page place = bytes_push ps page place

pub bytes_before : (pages : List Page) (page : Page) (place : ℕ) → place < length pages → bytes_at (pages ++ page ∷ []) place ≡ bytes_at pages place
bytes_before [] page place lt = absurd (omega (arith, lt))
bytes_before (p ∷ ps) page zero lt = refl
bytes_before (p ∷ ps) page (suc place) lt = bytes_before ps page place (omega (arith, lt))

-- pages that spell what is left and staged spell the directory now
pub spells_now : (left : List Slot) (o : Overlay) (n : ℕ) (pages : List Page) → IsDirectory (slots_with left o n) → length pages ≡ pages_for (width_with left o n)
    → ((place : ℕ) → place < length pages → SpellsPage left o n place (bytes_at pages place)) → SpellsDirectory pages (slots_with left o n)
spells_now left o n pages directory many each = record {
  directory = directory;
  count = many ∙ ap pages_for (sym (width_with_is left o n));
  each = λ place lt j below. each place lt j below ∙ ap slot_bytes (sym (with_at left o n (16 * place + j)));
}
