use Rattle.std.proofs.Common.{◌≡◌, ◌<◌, ◌≤◌, ◌∙◌, ℕ, List, Some, None, length, sym, ap, subst, arith, length-set}
use Rattle.std.specs.Prelude.{slice_set, slice_index}
use Rattle.std.specs.List.{insert, remove}
use Rattle.block_format.specs.declared.slot.Slot.{Slot}
use Rattle.block_format.specs.declared.slot.Slot.TheVariants.{Entry, Unused}
use Rattle.dir_slots.specs.Slots.{slot_at, slot_of, number_in, without_slot}
use Rattle.dir_slots.specs.Index.{IsFound}
use Rattle.dir_slots.proofs.KeptLaws.{names_once, kept_taken, few_holes}
use Rattle.dir_slots.proofs.NameLaws.{number_found, number_absent, slot_found, slot_absent}
use Rattle.dir_slots.proofs.directory.Directory.remove.Goals as goal

pub returns-in_err-found-clause-number : goal.returns-in_err-found-clause-number
returns-in_err-found-clause-number c =
    c.from_residual.ensures ∙ sym (subst (λ (s : List Slot). number_in s c.args.name.now ≡ None) (c.deref.ensures.value ∙ c.self.view_is) (number_absent _ c.args.name.now c.in_err-found.ensures.none))

pub returns-in_err-found-clause-removed : goal.returns-in_err-found-clause-removed
returns-in_err-found-clause-removed c =
    let none : slot_of c.args.self.now c.args.name.now ≡ None = subst (λ (s : List Slot). slot_of s c.args.name.now ≡ None) (c.deref.ensures.value ∙ c.self.view_is) (slot_absent _ c.args.name.now c.in_err-found.ensures.none) in
    sym (ap (without_slot c.args.self.now) none)

pub invariant_of-self : goal.invariant_of-self
invariant_of-self c =
    let slots = c.self.inside.slots.items in
    let order = c.self.inside.order.items in
    let holes = c.self.inside.holes.items in
    let name = c.args.name.now in
    let found = c.in_ok-found.found in
    let place = c.count_above-place.result in
    let a : IsFound slots order name found =
    subst (λ (s : List Slot). IsFound s order name found) c.deref.ensures.value (subst (λ (o : List ℕ). IsFound c.deref.result.now o name found) c.deref-2.ensures.value c.in_ok-found.ensures.found) in
    let within : place ≤ length holes = subst (λ (xs : List ℕ). place ≤ length xs) c.deref-3.ensures.value c.count_above-place.ensures.within in
    let above : (k : ℕ) → k < place → found.slot < slice_index holes k =
    subst (λ (xs : List ℕ). (k : ℕ) → k < place → found.slot < slice_index xs k) c.deref-3.ensures.value c.count_above-place.ensures.above in
    let below : (k : ℕ) → place ≤ k → k < length holes → slice_index holes k ≤ found.slot =
    subst (λ (xs : List ℕ). (k : ℕ) → place ≤ k → k < length xs → slice_index xs k ≤ found.slot) c.deref-3.ensures.value c.count_above-place.ensures.below in
    let kept = kept_taken slots order holes found.slot found.place place found.number name c.self.invariant.0 a.entry a.within a.place a.slot within above below in
    let entries : c.remove.new.self.items ≡ remove order found.place = c.remove.ensures.items in
    let left : c.put_hole.new.holes.items ≡ insert holes place found.slot = c.put_hole.ensures.put in
    (rw (c.clear_slot.ensures, entries, left) kept, omega (arith, ap length c.clear_slot.ensures, length-set slots found.slot Unused, c.self.invariant.1, c.put_hole.ensures.capacity))

pub returns-clause-number : goal.returns-clause-number
returns-clause-number c =
    let slots = c.self.inside.slots.items in
    let found = c.in_ok-found.found in
    let name = c.args.name.now in
    let there : slot_at slots found.slot ≡ Entry found.number name = subst (λ (s : List Slot). slot_at s found.slot ≡ Entry found.number name) c.deref.ensures.value c.in_ok-found.ensures.found.entry in
    sym (subst (λ (s : List Slot). number_in s name ≡ Some found.number) c.self.view_is (number_found slots found.number name found.slot (names_once slots _ c.self.invariant.0.entries) there))

pub returns-clause-removed : goal.returns-clause-removed
returns-clause-removed c =
    let slots = c.self.inside.slots.items in
    let found = c.in_ok-found.found in
    let name = c.args.name.now in
    let there : slot_at slots found.slot ≡ Entry found.number name = subst (λ (s : List Slot). slot_at s found.slot ≡ Entry found.number name) c.deref.ensures.value c.in_ok-found.ensures.found.entry in
    let at : slot_of slots name ≡ Some found.slot = slot_found slots found.number name found.slot (names_once slots _ c.self.invariant.0.entries) there in
    c.clear_slot.ensures ∙ subst (λ (s : List Slot). slice_set slots found.slot Unused ≡ without_slot s (slot_of s name)) c.self.view_is (sym (ap (without_slot slots) at))

pub put_hole-requires-clause-room : goal.put_hole-requires-clause-room
put_hole-requires-clause-room c = omega (arith, few_holes c.self.inside.slots.items c.self.inside.holes.items c.self.invariant.0.unused, c.self.invariant.1)
