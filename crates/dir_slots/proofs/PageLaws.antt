-- Slots in blocks.
use Rattle.std.proofs.Common.{◌≡◌, ◌<◌, ◌≤◌, ⊎_elim, ℕ, zero, suc, ◌+◌, ◌*◌, ◌/◌, ◌%◌, ◌∙◌, List, [], ◌∷◌, ◌++◌, length, refl, sym, ap, subst, arith}
use Rattle.std.specs.Prelude.{slice_index_or}
use Rattle.std.proofs.lemmas.Bool.{cases_lt, cases_eq}
use Rattle.vol_numbers.specs.declared.runs.Page.{Page}
use Rattle.block_format.specs.Slot.{SpellsSlot, SlotFits, slot_part, slot_bytes}
use Rattle.block_format.specs.declared.slot.Slot.{Slot}
use Rattle.block_format.specs.declared.slot.Slot.TheVariants.{Unused}
use Rattle.block_format.proofs.SlotLaws.{slot_in-spelled}
use Rattle.dir_slots.specs.Slots.{HasNamesOnce, slot_at, is_used, name_of}
use Rattle.dir_slots.specs.Pages.{SpellsDirectory, bytes_at, pages_for}
use Rattle.dir_slots.specs.Reading.{AreRead, IsReadAt}
use Rattle.dir_slots.specs.Index.{IsOrder}
use Rattle.dir_slots.proofs.SlotLaws.{unused_from_width, push_same, push_other}
use Rattle.dir_slots.proofs.KeptLaws.{names_once}

pub page_there : (pages : List Page) (place : ℕ) (d : Page) → place < length pages → (slice_index_or pages place d).block.bytes ≡ bytes_at pages place
page_there [] place d lt = absurd (omega arith)
page_there (page ∷ pages) zero d lt = refl
page_there (page ∷ pages) (suc place) d lt = page_there pages place d (omega arith)

-- one spelling of one slot
pub same_slot_at : (a b : Slot) (bytes : List ℕ) → SpellsSlot a bytes → SpellsSlot b bytes → a ≡ b
same_slot_at a b bytes x y = sym (slot_in-spelled a bytes x) ∙ slot_in-spelled b bytes y

-- what blocks of a directory spell, slot by slot
pub spelled_at : (pages : List Page) (slots : List Slot) (i : ℕ) → SpellsDirectory pages slots → i < 16 * length pages → IsReadAt pages slots i
spelled_at pages slots i is lt =
    let e : 16 * (i / 16) + i % 16 ≡ i = omega arith in
    record {
      fits = is.directory.fits i;
      spelled = is.each (i / 16) (omega arith) (i % 16) (omega arith) ∙ ap (λ (k : ℕ). slot_bytes (slot_at slots k)) e;
    }

-- the slots of the first blocks, and one more
pub read_more : (pages : List Page) (slots : List Slot) (slot : Slot) (i : ℕ) → length slots ≡ i → ((k : ℕ) → k < i → IsReadAt pages slots k) → SpellsSlot slot (slot_part (i % 16) (bytes_at pages (i / 16)))
    → (k : ℕ) → k < i + 1 → IsReadAt pages (slots ++ slot ∷ []) k
read_more pages slots slot i wide each spelled k lt =
    ⊎_elim (λ (e : k ≡ i).
    let last : slot_at (slots ++ slot ∷ []) i ≡ slot = ap (slot_at (slots ++ slot ∷ [])) (sym wide) ∙ push_same slots slot in
    subst (λ (n : ℕ). IsReadAt pages (slots ++ slot ∷ []) n) (sym e) (subst (λ (s : Slot). SpellsSlot s (slot_part (i % 16) (bytes_at pages (i / 16)))) (sym last) spelled))
    (λ (ne : k ≡ i → ⊥). subst (λ (s : Slot). SpellsSlot s (slot_part (k % 16) (bytes_at pages (k / 16)))) (sym (push_other slots slot k (omega (arith, ne)))) (each k (omega (arith, ne))))
    (cases_eq k i)

-- a slot behind the last one
pub read_behind : (pages : List Page) (slots : List Slot) (slot : Slot) (i : ℕ) → length slots ≤ i → slot ≡ Unused → ((k : ℕ) → k < i → IsReadAt pages slots k)
    → SpellsSlot slot (slot_part (i % 16) (bytes_at pages (i / 16))) → (k : ℕ) → k < i + 1 → IsReadAt pages slots k
read_behind pages slots slot i wide unused each spelled k lt =
    ⊎_elim (λ (e : k ≡ i).
    subst (λ (n : ℕ). IsReadAt pages slots n) (sym e) (subst (λ (s : Slot). SpellsSlot s (slot_part (i % 16) (bytes_at pages (i / 16)))) (unused ∙ sym (unused_from_width slots i wide)) spelled))
    (λ (ne : k ≡ i → ⊥). each k (omega (arith, ne)))
    (cases_eq k i)

pub width_within : (pages : List Page) (width : ℕ) → length pages ≡ pages_for width → width ≤ 16 * length pages
width_within pages width e = omega arith

-- slots that are read are those of each directory of this width that the blocks spell
pub same_at : (pages : List Page) (width : ℕ) (slots others : List Slot) → length pages ≡ pages_for width → AreRead pages width slots → length others ≡ width → SpellsDirectory pages others
    → (i : ℕ) → slot_at slots i ≡ slot_at others i
same_at pages width slots others count read wide is i =
    ⊎_elim (λ (lt : i < 16 * length pages). same_slot_at _ _ _ (read.each i lt) (spelled_at pages others i is lt))
    (λ (ge : 16 * length pages ≤ i).
    let far = width_within pages width count in
    unused_from_width slots i (omega (arith, read.wide, far)) ∙ sym (unused_from_width others i (omega (arith, far))))
    (cases_lt i (16 * length pages))

pub once_too : (slots others : List Slot) → ((i : ℕ) → slot_at slots i ≡ slot_at others i) → HasNamesOnce others → HasNamesOnce slots
once_too slots others same once i j ui uj e =
    once i j (sym (ap is_used (same i)) ∙ ui) (sym (ap is_used (same j)) ∙ uj) (sym (ap name_of (same i)) ∙ (e ∙ ap name_of (same j)))

fits_all : (pages : List Page) (width : ℕ) (slots : List Slot) → length pages ≡ pages_for width → AreRead pages width slots → (i : ℕ) → SlotFits (slot_at slots i)
fits_all pages width slots count read i =
    ⊎_elim (λ (lt : i < 16 * length pages). (read.each i lt).fits)
    (λ (ge : 16 * length pages ≤ i). subst SlotFits (sym (unused_from_width slots i (omega (arith, read.wide, width_within pages width count)))) tt)
    (cases_lt i (16 * length pages))

spelled_in : (pages : List Page) (width : ℕ) (slots : List Slot) (place j : ℕ) → AreRead pages width slots → place < length pages → j < 16 → slot_part j (bytes_at pages place) ≡ slot_bytes (slot_at slots (16 * place + j))
spelled_in pages width slots place j read lt small =
    let spelled = (read.each (16 * place + j) (omega arith)).spelled in
    let part : (16 * place + j) % 16 ≡ j = omega arith in
    let block : (16 * place + j) / 16 ≡ place = omega arith in
    sym (ap (λ (k : ℕ). slot_part k (bytes_at pages place)) part)
    ∙ (sym (ap (λ (k : ℕ). slot_part ((16 * place + j) % 16) (bytes_at pages k)) block) ∙ spelled)

pub read_spelled : (pages : List Page) (width : ℕ) (slots : List Slot) (order : List ℕ) → width ≤ 65534 → length pages ≡ pages_for width → AreRead pages width slots → IsOrder slots order → SpellsDirectory pages slots
read_spelled pages width slots order most count read is = record {
  directory = record { width = omega (arith, read.wide); fits = fits_all pages width slots count read; names = names_once slots order is };
  count = count ∙ ap pages_for (sym read.wide);
  each = λ place lt j small. spelled_in pages width slots place j read lt small;
}
