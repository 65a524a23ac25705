use Rattle.std.proofs.Common.{◌∙◌, ◌++◌, ℕ, Option, [], ap, sym}
use Rattle.std.specs.List.{filter_map, cons_option}
use Rattle.std.proofs.lemmas.List.{take_all, append-nil}
use Rattle.image_model.specs.Nodes.{number_named}
use Rattle.name_check.proofs.NamingLaws.{of_entries, numbers_at_most, number_more}
use Rattle.name_check.proofs.naming.numbers.Goals as goal
use Rattle.name_check.proofs.naming.numbers.Goals.{in-Some+in_ok-push-in-Some, in-None}

pub loop-slot-preserved : goal.loop-slot-preserved
loop-slot-preserved c =
    let k = c.loop-slot.slot-index in
    let slots = c.as_slice-slot-items.result.now in
    let numbers = c.loop-slot.numbers.items in
    let more = number_more slots k c.slot-item.result numbers c.loop-slot-test.true c.loop-slot.invariant in
    elim c.match-number_of.branch [
      | in-Some+in_ok-push-in-Some w ↦ (ap (λ v. v.items) w.numbers-is ∙ w.in_ok-push-in-Some.ensures.items ∙ ap (λ (o : Option ℕ). numbers ++ cons_option o []) (w.in-Some.ensures ∙ ap number_named c.slot-item.is) ∙ more)
      | in-None w ↦ (ap (λ v. v.items) w.numbers-is ∙ sym (append-nil numbers) ∙ ap (λ (o : Option ℕ). numbers ++ cons_option o []) (w.in-None.ensures ∙ ap number_named c.slot-item.is) ∙ more)
    ]

pub returns-clause-named : goal.returns-clause-named
returns-clause-named c =
    c.loop-slot.invariant ∙ ap (filter_map number_named) (take_all c.loop-slot.slot-index _ c.loop-slot-test.false ∙ c.as_slice-slot-items.ensures ∙ c.in_ok-entries.ensures) ∙ of_entries c.args.slots.now

pub returns-clause-at_most : goal.returns-clause-at_most
returns-clause-at_most c =
    numbers_at_most c.args.slots.now c.loop-slot.numbers.items c.width.ensures.directory
    (c.loop-slot.invariant ∙ ap (filter_map number_named) (take_all c.loop-slot.slot-index _ c.loop-slot-test.false ∙ c.as_slice-slot-items.ensures ∙ c.in_ok-entries.ensures) ∙ of_entries c.args.slots.now)
