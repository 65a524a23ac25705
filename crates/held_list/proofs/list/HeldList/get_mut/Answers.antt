use Rattle.std.proofs.Common.{◌≡◌, ◌<◌, ◌∙◌, List, Option, Some, length, subst, sym, ap, inr, []}
use Rattle.std.specs.Prelude.{slice_set}
use Rattle.std.proofs.lemmas.List.{get_or_read}
use Rattle.block_format.specs.declared.slot.Slot.{Slot}
use Rattle.held_list.specs.declared.held.Held.{Held}
use Rattle.held_list.specs.Held.{IsInOrder, slots_at, with_slots}
use Rattle.held_list.specs.Places.{IsGap, number_at}
use Rattle.held_list.proofs.OrderLaws.{found_at, absent_at}
use Rattle.held_list.proofs.ChangeLaws.{set_at, still_in_order, same_ends}
use Rattle.held_list.proofs.list.HeldList.get_mut.Goals as goal

pub invariant_of-self-lent : goal.invariant_of-self-lent
invariant_of-self-lent c w =
    let items = c.self.inside.items.items in
    let place = c.in-Ok.place in
    let within : place < length items = subst (λ (held : List Held). place < length held) c.deref.ensures.value c.in-Ok.ensures.within in
    let found : number_at items place ≡ c.args.number = subst (λ (held : List Held). number_at held place ≡ c.args.number) c.deref.ensures.value c.in-Ok.ensures.found in
    let number : c.index_mut.result.now.number ≡ c.args.number = ap (λ (h : Held). h.number) (get_or_read items place _ within c.index_mut.ensures.value _) ∙ found in
    subst (λ (held : List Held). IsInOrder held)
    (sym (set_at c.args.number w items place c.self.invariant within found) ∙ ap (λ n. slice_set items place (record { number = n; slots = w })) (sym number))
    (still_in_order c.args.number w items c.self.invariant)

pub returns-in-Ok : goal.returns-in-Ok
returns-in-Ok c =
    let items = c.self.inside.items.items in
    let place = c.in-Ok.place in
    let within : place < length items = subst (λ (held : List Held). place < length held) c.deref.ensures.value c.in-Ok.ensures.within in
    let found : number_at items place ≡ c.args.number = subst (λ (held : List Held). number_at held place ≡ c.args.number) c.deref.ensures.value c.in-Ok.ensures.found in
    let there = get_or_read items place _ within c.index_mut.ensures.value (record { number = 0; slots = [] }) in
    let number : c.index_mut.result.now.number ≡ c.args.number = ap (λ (h : Held). h.number) there ∙ found in
    let ends : (w : List Slot) → slice_set items place (record { number = c.index_mut.result.now.number; slots = w }) ≡ with_slots c.args.self.now c.args.number w =
    λ w. ap (λ n. slice_set items place (record { number = n; slots = w })) number ∙ set_at c.args.number w items place c.self.invariant within found
    ∙ ap (λ (held : List Held). with_slots held c.args.number w) c.self.view_is in (
      same_ends _ _ _ ends,
      record {
        writes_back = tt;
        value = sym (ap (λ (held : List Held). slots_at held c.args.number) (sym c.self.view_is)
            ∙ found_at items c.args.number place c.self.invariant within found
            ∙ ap (λ (h : Held). let o : Option (List Slot) = Some h.slots in o) (sym there));
      },
    )

pub returns-in-Err : goal.returns-in-Err
returns-in-Err c = (
  ap inr c.self.view_is,
  record {
    writes_back = tt;
    value = sym (ap (λ (held : List Held). slots_at held c.args.number) (sym c.self.view_is)
        ∙ absent_at c.self.inside.items.items c.args.number c.in-Err.field-0 (subst (λ (held : List Held). IsGap held c.args.number c.in-Err.field-0) c.deref.ensures.value c.in-Err.ensures.gap));
  },
)
