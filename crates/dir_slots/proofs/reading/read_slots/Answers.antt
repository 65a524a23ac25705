use Rattle.std.proofs.Common.{◌≡◌, ◌∙◌, ◌≤◌, sym, arith, length}
use Rattle.std.proofs.lemmas.List.{length-append}
use Rattle.dir_slots.proofs.SlotLaws.{unused_is}
use Rattle.dir_slots.proofs.PageLaws.{read_more, read_behind}
use Rattle.dir_slots.proofs.reading.read_slots.Goals as goal
use Rattle.dir_slots.proofs.reading.read_slots.Goals.{then-i-width+in_ok-push, else-i-width+else-is_used}

pub loop-i-preserved : goal.loop-i-preserved
loop-i-preserved c =
    let inv = c.loop-i.invariant in
    let slots = c.loop-i.slots.items in
    let i = c.loop-i.i in
    elim c.if-i-width.branch [
      | then-i-width+in_ok-push w ↦
          let wide : length slots ≡ i = omega (arith, inv.count, w.if-i-width.true) in
          rw (w.slots-is, w.in_ok-push.ensures) (record {
            count = length-append slots _ ∙ omega (arith, wide, w.if-i-width.true);
            each = read_more c.args.pages.now slots c.in-Some.slot i wide inv.each c.in-Some.ensures.found;
          })
      | else-i-width+else-is_used w ↦
          let wide : length slots ≤ i = omega (arith, inv.count, w.if-i-width.false) in
          rw w.slots-is (record {
            count = omega (arith, inv.count, w.if-i-width.false);
            each = read_behind c.args.pages.now slots c.in-Some.slot i wide (unused_is c.in-Some.slot (sym w.is_used.ensures ∙ w.if-is_used.false)) inv.each c.in-Some.ensures.found;
          })
    ]
