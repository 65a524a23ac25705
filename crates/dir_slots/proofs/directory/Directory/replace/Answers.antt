use Rattle.std.proofs.Common.{◌≡◌, ◌<◌, ◌∙◌, List, Some, None, length, sym, ap, subst, arith, length-set}
use Rattle.std.specs.Prelude.{slice_set}
use Rattle.std.specs.List.{insert, remove}
use Rattle.block_format.specs.Slot.{SlotFits}
use Rattle.block_format.specs.declared.slot.Slot.{Slot}
use Rattle.block_format.specs.declared.slot.Slot.TheVariants.{Entry, Unused}
use Rattle.dir_slots.specs.Slots.{slot_at, slot_of, number_in, with_slot}
use Rattle.dir_slots.specs.Index.{IsAbsent, IsFound, IsGap, IsOrder}
use Rattle.dir_slots.proofs.KeptLaws.{names_once, absent_taken, order_left, kept_replaced, replaced_wide}
use Rattle.dir_slots.proofs.NameLaws.{absent_from, number_found, slot_found, slot_absent}
use Rattle.dir_slots.proofs.SlotLaws.{set_differs, with_slot-within}
use Rattle.dir_slots.proofs.directory.Directory.replace.Goals as goal

pub returns-in_err-found-clause-slot : goal.returns-in_err-found-clause-slot
returns-in_err-found-clause-slot c =
    c.from_residual.ensures ∙ sym (subst (λ (s : List Slot). slot_of s c.args.from.now ≡ None) (c.deref.ensures.value ∙ c.self.view_is) (slot_absent _ c.args.from.now c.in_err-found.ensures.none))

pub gap_for-place-requires-clause-order : goal.gap_for-place-requires-clause-order
gap_for-place-requires-clause-order c =
    let slots = c.self.inside.slots.items in
    let order = c.self.inside.order.items in
    let found = c.in_ok-found.found in
    let a : IsFound slots order c.args.from.now found =
    subst (λ (s : List Slot). IsFound s order c.args.from.now found) c.deref.ensures.value (subst (λ o. IsFound c.deref.result.now o c.args.from.now found) c.deref-2.ensures.value c.in_ok-found.ensures.found) in
    let left = order_left slots order c.self.inside.holes.items found.slot found.place c.self.invariant.0 a.within a.place a.slot in
    subst (λ (s : List Slot). IsOrder s c.deref-4.result.now) (sym c.deref-3.ensures.value)
    (subst (λ o. IsOrder (slice_set slots found.slot Unused) o) (sym (c.deref-4.ensures.value ∙ c.remove.ensures.items)) left)

pub gap_for-place-requires-clause-absent : goal.gap_for-place-requires-clause-absent
gap_for-place-requires-clause-absent c =
    let slots = c.self.inside.slots.items in
    let found = c.in_ok-found.found in
    let a : IsFound c.deref.result.now c.deref-2.result.now c.args.from.now found = c.in_ok-found.ensures.found in
    let within : found.slot < length slots = subst (λ (s : List Slot). found.slot < length s) c.deref.ensures.value a.within in
    let absent : IsAbsent slots c.args.to.now = subst (λ (s : List Slot). IsAbsent s c.args.to.now) (sym c.self.view_is) (absent_from c.args.self.now c.args.to.now c.requires) in
    subst (λ (s : List Slot). IsAbsent s c.args.to.now) (sym c.deref-3.ensures.value)
    (absent_taken slots (slice_set slots found.slot Unused) found.slot c.args.to.now (set_differs slots found.slot Unused within) absent)

pub invariant_of-self : goal.invariant_of-self
invariant_of-self c =
    let slots = c.self.inside.slots.items in
    let order = c.self.inside.order.items in
    let holes = c.self.inside.holes.items in
    let found = c.in_ok-found.found in
    let from = c.args.from.now in
    let name = c.args.to.now in
    let place = c.gap_for-place.result in
    let a : IsFound slots order from found =
    subst (λ (s : List Slot). IsFound s order from found) c.deref.ensures.value (subst (λ o. IsFound c.deref.result.now o from found) c.deref-2.ensures.value c.in_ok-found.ensures.found) in
    let gap : IsGap (slice_set slots found.slot Unused) (remove order found.place) name place =
    subst (λ (s : List Slot). IsGap s (remove order found.place) name place) c.deref-3.ensures.value
    (subst (λ o. IsGap c.deref-3.result.now o name place) (c.deref-4.ensures.value ∙ c.remove.ensures.items) c.gap_for-place.ensures.gap) in
    let old_fits : SlotFits (Entry found.number from) = subst SlotFits a.entry (c.self.invariant.0.fits found.slot) in
    let fits : SlotFits (Entry found.number name) = (old_fits.0, old_fits.1, c.gap_for-place.ensures.name) in
    let kept = kept_replaced slots order holes found.slot found.place place found.number from name c.self.invariant.0 a.entry a.within a.place a.slot gap fits in
    let wide = replaced_wide slots order holes found.slot found.place place found.number from name c.self.invariant.0 a.entry a.within a.place a.slot gap fits in
    let entries : c.put_again.new.order.items ≡ insert (remove order found.place) place found.slot = c.put_again.ensures ∙ ap (λ o. insert o place found.slot) c.remove.ensures.items in
    (rw entries kept, omega (arith, wide, c.self.invariant.1))

pub returns-clause-slot : goal.returns-clause-slot
returns-clause-slot c =
    let slots = c.self.inside.slots.items in
    let found = c.in_ok-found.found in
    let from = c.args.from.now in
    let there : slot_at slots found.slot ≡ Entry found.number from = subst (λ (s : List Slot). slot_at s found.slot ≡ Entry found.number from) c.deref.ensures.value c.in_ok-found.ensures.found.entry in
    sym (subst (λ (s : List Slot). slot_of s from ≡ Some found.slot) c.self.view_is (slot_found slots found.number from found.slot (names_once slots _ c.self.invariant.0.entries) there))

pub returns-clause-replaced : goal.returns-clause-replaced
returns-clause-replaced c =
    let slots = c.self.inside.slots.items in
    let found = c.in_ok-found.found in
    let from = c.args.from.now in
    let there : slot_at slots found.slot ≡ Entry found.number from = subst (λ (s : List Slot). slot_at s found.slot ≡ Entry found.number from) c.deref.ensures.value c.in_ok-found.ensures.found.entry in
    let within : found.slot < length slots = subst (λ (s : List Slot). found.slot < length s) c.deref.ensures.value c.in_ok-found.ensures.found.within in
    let left : List Slot = slice_set slots found.slot Unused in
    let inside : found.slot < length left = omega (arith, length-set slots found.slot Unused) in (
      found.number,
      subst (λ (s : List Slot). number_in s from ≡ Some found.number) c.self.view_is (number_found slots found.number from found.slot (names_once slots _ c.self.invariant.0.entries) there),
      sym (with_slot-within left found.slot (Entry found.number c.args.to.now) inside) ∙ ap (λ s. with_slot (slice_set s found.slot Unused) found.slot (Entry found.number c.args.to.now)) c.self.view_is,
    )
