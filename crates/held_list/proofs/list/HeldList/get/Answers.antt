use Rattle.std.proofs.Common.{◌≡◌, ◌<◌, ◌∙◌, List, Option, Some, length, subst, sym, ap}
use Rattle.std.proofs.lemmas.List.{get_or_read}
use Rattle.block_format.specs.declared.slot.Slot.{Slot}
use Rattle.held_list.specs.declared.held.Held.{Held}
use Rattle.held_list.specs.Held.{slots_at}
use Rattle.held_list.specs.Places.{IsGap, number_at}
use Rattle.held_list.proofs.OrderLaws.{found_at, absent_at}
use Rattle.held_list.proofs.list.HeldList.get.Goals as goal

pub returns-in-Ok : goal.returns-in-Ok
returns-in-Ok c =
    let items = c.self.inside.items.items in
    let place = c.in-Ok.place in
    let within : place < length items = subst (λ (held : List Held). place < length held) c.deref.ensures.value c.in-Ok.ensures.within in
    let found : number_at items place ≡ c.args.number = subst (λ (held : List Held). number_at held place ≡ c.args.number) c.deref.ensures.value c.in-Ok.ensures.found in
    ap (λ (held : List Held). slots_at held c.args.number) (sym c.self.view_is)
    ∙ found_at items c.args.number place c.self.invariant within found
    ∙ ap (λ (h : Held). let o : Option (List Slot) = Some h.slots in o) (sym (get_or_read items place _ within c.index.ensures _))

pub returns-in-Err : goal.returns-in-Err
returns-in-Err c =
    ap (λ (held : List Held). slots_at held c.args.number) (sym c.self.view_is)
    ∙ absent_at c.self.inside.items.items c.args.number c.in-Err.field-0 (subst (λ (held : List Held). IsGap held c.args.number c.in-Err.field-0) c.deref.ensures.value c.in-Err.ensures.gap)
