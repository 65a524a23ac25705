use Rattle.std.proofs.Common.{◌<◌, arith}
use Rattle.std.specs.Option.{option_copied}
use Rattle.tree_plan.specs.Pages.{slots_or_none}
use Rattle.point_tests.specs.Within.{IsSlotWithin}
use Rattle.point_tests.proofs.SlotsNow.{directory_now}
use Rattle.point_tests.proofs.StagedNow.{next_one}
use Rattle.point_tests.proofs.slots.are_slots.Goals as goal

pub loop-k-preserved : goal.loop-k-preserved
loop-k-preserved c =
    next_one (IsSlotWithin (slots_or_none (option_copied c.args.left)) c.args.store.now.overlay c.args.n) c.loop-k.k c.loop-k.invariant (c.is_slot.ensures c.if-not-is_slot.false)

pub returns : goal.returns
returns c is =
    directory_now (slots_or_none (option_copied c.args.left)) c.args.store.now.overlay c.args.n (c.is_left.ensures c.if-not-is_left.false) (omega (arith, c.width-width.ensures.is, c.if-width-gt65534.false))
    (λ k lt. c.loop-k.invariant k (omega (arith, lt, c.width-width.ensures.is, c.loop-k-test.false)))
