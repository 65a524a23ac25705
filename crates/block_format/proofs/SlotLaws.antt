-- A slot is read as it was spelled.
use Rattle.std.proofs.Common.{◌≡◌, ◌≤◌, ℕ, Bool, false, cond, List, ◌∷◌, length, take, min, ◌-◌, replicate, refl, ap, ◌∙◌, arith, length-append}
use Rattle.std.specs.Prelude.{◌==◌}
use Rattle.std.proofs.lemmas.List.{take_at, length-replicate}
use Rattle.std.proofs.lemmas.Bool.Decides.{nat_tests}
use Rattle.byteorder.specs.Endian.{little_number}
use Rattle.byteorder.specs.Numbers.{little_number-reads_back}
use Rattle.vol_numbers.specs.Name.{IsName, padded}
use Rattle.block_format.specs.declared.slot.Slot.{Slot}
use Rattle.block_format.specs.declared.slot.Slot.TheVariants.{Unused, Entry}
use Rattle.block_format.specs.Slot.{slot_in, slot_bytes, SlotFits, SpellsSlot}

chosen : {X : Type 0} (b : Bool) (x y : X) → b ≡ false → cond b x y ≡ y
chosen b x y e = rw e refl

not_zero : (n m : ℕ) → n ≡ m → 1 ≤ m → (n == 0) ≡ false
not_zero n m e le = grind (arith, nat_tests)

name_back : (name : List ℕ) → IsName name → take (min (length name) 250) (padded name) ≡ name
name_back name is = take_at name _ (min (length name) 250) (omega (arith, is.at_most))

pub slot_in-bytes : (slot : Slot) → SlotFits slot → slot_in (slot_bytes slot) ≡ slot
unfolding slot_in
slot_in-bytes Unused fits = refl
slot_in-bytes (Entry number name) fits =
    let back : little_number 4 (slot_bytes (Entry number name)) ≡ number = little_number-reads_back 4 number (length name ∷ 0 ∷ padded name) (omega (arith, fits.1)) in
    let named = name_back name fits.2 in
    chosen _ Unused _ (not_zero _ number back fits.0) ∙ (λ i. Entry (back i) (named i))

-- each slot has one spelling, and each spelling one slot
pub slot_in-spelled : (slot : Slot) (bytes : List ℕ) → SpellsSlot slot bytes → slot_in bytes ≡ slot
slot_in-spelled slot bytes is = ap slot_in is.spelled ∙ slot_in-bytes slot is.fits

-- a slot has 256 bytes
pub length-slot_bytes : (slot : Slot) → SlotFits slot → length (slot_bytes slot) ≡ 256
length-slot_bytes Unused fits = refl
length-slot_bytes (Entry number name) fits =
    omega (arith, fits.2.at_most, length-append name (replicate (250 - length name) 0), length-replicate {A = ℕ} (250 - length name) 0)
