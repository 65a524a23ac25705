use Rattle.std.proofs.Common.{◌≡◌, ◌<◌, ◌-◌, ◌∙◌, ℕ, List, length, sym, subst, arith}
use Rattle.std.specs.Prelude.{slice_index}
use Rattle.block_format.specs.declared.slot.Slot.{Slot}
use Rattle.dir_slots.specs.Slots.{first_unused}
use Rattle.dir_slots.proofs.KeptLaws.{least_hole, no_hole}
use Rattle.dir_slots.proofs.directory.Directory.first_unused.Goals as goal

pub returns-in-Some-clause-is : goal.returns-in-Some-clause-is
returns-in-Some-clause-is c =
    let holes = c.self.inside.holes.items in
    let slot = c.in-Some.slot.now in
    let item = c.in-Some.ensures.item.3 in
    let some : 0 < length holes = subst (λ (xs : List ℕ). 0 < length xs) c.deref.ensures.value item.0 in
    let it : slot ≡ slice_index holes (length holes - 1) = subst (λ (xs : List ℕ). slot ≡ slice_index xs (length xs - 1)) c.deref.ensures.value (item.1 0) in
    subst (λ (slots : List Slot). slot ≡ first_unused slots) c.self.view_is (sym (least_hole _ holes slot c.self.invariant.0.unused some (sym it)))

pub returns-in-None-clause-is : goal.returns-in-None-clause-is
returns-in-None-clause-is c =
    let holes = c.self.inside.holes.items in
    let slots = c.self.inside.slots.items in
    let none : length holes ≡ 0 = subst (λ (xs : List ℕ). length xs ≡ 0) c.deref.ensures.value (omega (arith, c.in-None.ensures.item.3)) in
    let wide : c.len.result ≡ length slots = omega arith in
    subst (λ (slots : List Slot). c.len.result ≡ first_unused slots) c.self.view_is (wide ∙ sym (no_hole slots holes c.self.invariant.0.unused none))
