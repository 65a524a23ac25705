use Rattle.std.proofs.Common.{◌≡◌, ◌<◌, ◌∙◌, List, Option, Some, length, subst, sym, ap}
use Rattle.std.proofs.lemmas.List.{get_or_read}
use Rattle.block_format.specs.declared.slot.Slot.{Slot}
use Rattle.held_list.specs.declared.held.Held.{Held}
use Rattle.held_list.specs.Held.{IsInOrder, slots_at, without}
use Rattle.held_list.specs.Places.{IsGap, number_at}
use Rattle.held_list.proofs.OrderLaws.{found_at, absent_at}
use Rattle.held_list.proofs.ChangeLaws.{in_order_without, removed_at, absent_stays}
use Rattle.held_list.proofs.list.HeldList.remove.Goals as goal

pub invariant_of-self : goal.invariant_of-self
invariant_of-self c =
    let items = c.self.inside.items.items in
    let place = c.in-Ok.place in
    let within : place < length items = subst (λ (held : List Held). place < length held) c.deref.ensures.value c.in-Ok.ensures.within in
    let found : number_at items place ≡ c.args.number = subst (λ (held : List Held). number_at held place ≡ c.args.number) c.deref.ensures.value c.in-Ok.ensures.found in
    subst (λ (held : List Held). IsInOrder held) (sym (c.remove-held.ensures.items ∙ removed_at items c.args.number place c.self.invariant within found)) (in_order_without items c.args.number c.self.invariant)

pub returns-in-Ok-clause-given : goal.returns-in-Ok-clause-given
returns-in-Ok-clause-given c =
    let items = c.self.inside.items.items in
    let place = c.in-Ok.place in
    let within : place < length items = subst (λ (held : List Held). place < length held) c.deref.ensures.value c.in-Ok.ensures.within in
    let found : number_at items place ≡ c.args.number = subst (λ (held : List Held). number_at held place ≡ c.args.number) c.deref.ensures.value c.in-Ok.ensures.found in
    sym (ap (λ (held : List Held). slots_at held c.args.number) (sym c.self.view_is)
    ∙ found_at items c.args.number place c.self.invariant within found
    ∙ ap (λ (h : Held). let o : Option (List Slot) = Some h.slots in o) (sym (get_or_read items place _ within c.remove-held.ensures.value _)))

pub returns-in-Ok-clause-removed : goal.returns-in-Ok-clause-removed
returns-in-Ok-clause-removed c =
    let items = c.self.inside.items.items in
    let place = c.in-Ok.place in
    let within : place < length items = subst (λ (held : List Held). place < length held) c.deref.ensures.value c.in-Ok.ensures.within in
    let found : number_at items place ≡ c.args.number = subst (λ (held : List Held). number_at held place ≡ c.args.number) c.deref.ensures.value c.in-Ok.ensures.found in
    c.remove-held.ensures.items ∙ removed_at items c.args.number place c.self.invariant within found ∙ ap (λ (held : List Held). without held c.args.number) c.self.view_is

pub returns-in-Err-clause-given : goal.returns-in-Err-clause-given
returns-in-Err-clause-given c =
    sym (ap (λ (held : List Held). slots_at held c.args.number) (sym c.self.view_is)
    ∙ absent_at c.self.inside.items.items c.args.number c.in-Err.field-0 (subst (λ (held : List Held). IsGap held c.args.number c.in-Err.field-0) c.deref.ensures.value c.in-Err.ensures.gap))

pub returns-in-Err-clause-removed : goal.returns-in-Err-clause-removed
returns-in-Err-clause-removed c = sym (absent_stays c.args.self.now c.args.number (ap (λ (held : List Held). slots_at held c.args.number) (sym c.self.view_is)
    ∙ absent_at c.self.inside.items.items c.args.number c.in-Err.field-0 (subst (λ (held : List Held). IsGap held c.args.number c.in-Err.field-0) c.deref.ensures.value c.in-Err.ensures.gap)))
