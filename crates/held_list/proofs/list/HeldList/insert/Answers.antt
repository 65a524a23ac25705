use Rattle.std.proofs.Common.{◌≡◌, ◌<◌, ◌∙◌, List, length, subst, sym, ap}
use Rattle.held_list.specs.declared.held.Held.{Held}
use Rattle.held_list.specs.Held.{IsInOrder, with_slots}
use Rattle.held_list.specs.Places.{IsGap, number_at}
use Rattle.held_list.proofs.ChangeLaws.{set_at, still_in_order, gap_filled}
use Rattle.held_list.proofs.list.HeldList.insert.Goals as goal

pub invariant_of-self : goal.invariant_of-self
invariant_of-self c =
    let items = c.self.inside.items.items in
    let place = c.in-Ok.place in
    let within : place < length items = subst (λ (held : List Held). place < length held) c.deref.ensures.value c.in-Ok.ensures.within in
    let found : number_at items place ≡ c.args.number = subst (λ (held : List Held). number_at held place ≡ c.args.number) c.deref.ensures.value c.in-Ok.ensures.found in
    subst (λ (held : List Held). IsInOrder held) (sym (set_at c.args.number c.args.slots items place c.self.invariant within found)) (still_in_order c.args.number c.args.slots items c.self.invariant)

pub invariant_of-self-in-Err : goal.invariant_of-self-in-Err
invariant_of-self-in-Err c =
    let items = c.self.inside.items.items in
    let gap : IsGap items c.args.number c.in-Err.place = subst (λ (held : List Held). IsGap held c.args.number c.in-Err.place) c.deref.ensures.value c.in-Err.ensures.gap in
    subst (λ (held : List Held). IsInOrder held) (sym (c.in_ok-insert-in-Err.ensures.items ∙ gap_filled items c.args.number c.in-Err.place c.args.slots gap)) (still_in_order c.args.number c.args.slots items c.self.invariant)

pub returns-in-Ok-clause-inserted : goal.returns-in-Ok-clause-inserted
returns-in-Ok-clause-inserted c =
    let items = c.self.inside.items.items in
    let place = c.in-Ok.place in
    let within : place < length items = subst (λ (held : List Held). place < length held) c.deref.ensures.value c.in-Ok.ensures.within in
    let found : number_at items place ≡ c.args.number = subst (λ (held : List Held). number_at held place ≡ c.args.number) c.deref.ensures.value c.in-Ok.ensures.found in
    set_at c.args.number c.args.slots items place c.self.invariant within found ∙ ap (λ (held : List Held). with_slots held c.args.number c.args.slots) c.self.view_is

pub returns-in_ok-insert-in-Err-clause-inserted : goal.returns-in_ok-insert-in-Err-clause-inserted
returns-in_ok-insert-in-Err-clause-inserted c =
    let items = c.self.inside.items.items in
    let gap : IsGap items c.args.number c.in-Err.place = subst (λ (held : List Held). IsGap held c.args.number c.in-Err.place) c.deref.ensures.value c.in-Err.ensures.gap in
    c.in_ok-insert-in-Err.ensures.items ∙ gap_filled items c.args.number c.in-Err.place c.args.slots gap ∙ ap (λ (held : List Held). with_slots held c.args.number c.args.slots) c.self.view_is
