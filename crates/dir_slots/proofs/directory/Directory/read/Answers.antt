use Rattle.std.proofs.Common.{List, subst, sym, ap, Err}
use Rattle.vol_numbers.specs.declared.runs.Page.{Page}
use Rattle.block_format.specs.declared.slot.Slot.{Slot}
use Rattle.dir_slots.specs.Index.{IsOrder}
use Rattle.dir_slots.specs.Reading.{AreRead}
use Rattle.dir_slots.specs.Slots.{HasNamesOnce}
use Rattle.dir_slots.proofs.PageLaws.{read_spelled, same_at, once_too}
use Rattle.dir_slots.proofs.directory.Directory.read.Goals as goal

pub returns-in_err-order-clause-bad : goal.returns-in_err-order-clause-bad
returns-in_err-order-clause-bad c is others wide spelled =
    let given = rw is at c.from_residual-in_err-order.ensures.1 in
    let read : AreRead c.args.pages.now c.args.width c.in_ok-slots.slots.items =
    subst (λ (pages : List Page). AreRead pages c.args.width c.in_ok-slots.slots.items) c.as_slice.ensures c.in_ok-slots.ensures.read in
    let once : HasNamesOnce c.deref.result.now = subst (λ (s : List Slot). HasNamesOnce s) (sym c.deref.ensures.value)
    (once_too c.in_ok-slots.slots.items others (same_at c.args.pages.now c.args.width c.in_ok-slots.slots.items others c.requires.pages read wide spelled) spelled.directory.names) in
    c.in_err-order.ensures.bad (ap Err (sym given)) once

pub returns-clause-spelled : goal.returns-clause-spelled
returns-clause-spelled c =
    let slots = c.in_ok-slots.slots.items in
    let read : AreRead c.args.pages.now c.args.width slots = subst (λ (pages : List Page). AreRead pages c.args.width slots) c.as_slice.ensures c.in_ok-slots.ensures.read in
    let order : IsOrder slots c.in_ok-order.order.items = subst (λ (s : List Slot). IsOrder s c.in_ok-order.order.items) c.deref.ensures.value c.in_ok-order.ensures.order in
    read_spelled c.args.pages.now c.args.width slots c.in_ok-order.order.items c.requires.width c.requires.pages read order
