use Rattle.std.proofs.Common.{◌≡◌, ◌∙◌, List, Some, None, sym, subst}
use Rattle.block_format.specs.declared.slot.Slot.{Slot}
use Rattle.block_format.specs.declared.slot.Slot.TheVariants.{Entry}
use Rattle.dir_slots.specs.Slots.{slot_at, number_in}
use Rattle.dir_slots.proofs.KeptLaws.{names_once}
use Rattle.dir_slots.proofs.NameLaws.{number_found, number_absent}
use Rattle.dir_slots.proofs.directory.Directory.find.Goals as goal

pub returns-in-Some : goal.returns-in-Some
returns-in-Some c =
    let slots = c.self.inside.slots.items in
    let found = c.in-Some.found in
    let name = c.args.name.now in
    let there : slot_at slots found.slot ≡ Entry found.number name = subst (λ (s : List Slot). slot_at s found.slot ≡ Entry found.number name) c.deref.ensures.value c.in-Some.ensures.found.entry in
    sym (subst (λ (s : List Slot). number_in s name ≡ Some found.number) c.self.view_is (number_found slots found.number name found.slot (names_once slots _ c.self.invariant.0.entries) there))

pub returns-in-None : goal.returns-in-None
returns-in-None c =
    sym (subst (λ (s : List Slot). number_in s c.args.name.now ≡ None) (c.deref.ensures.value ∙ c.self.view_is) (number_absent _ c.args.name.now c.in-None.ensures.none))
