use Rattle.std.proofs.Common.{◌≡◌, ◌<◌, ◌+◌, ◌-◌, ◌∙◌, ℕ, false, sym, ap, subst, arith}
use Rattle.dir_slots.specs.Slots.{is_used, slot_at}
use Rattle.dir_slots.specs.Index.{IsHolesFrom}
use Rattle.dir_slots.proofs.SlotLaws.{read_there}
use Rattle.dir_slots.proofs.StepLaws.{holes_pushed}
use Rattle.dir_slots.proofs.holes.holes_of.Goals as goal

pub loop-i-preserved-in-Continue-branch-2 : goal.loop-i-preserved-in-Continue-branch-2
loop-i-preserved-in-Continue-branch-2 c =
    let inv = c.loop-i.invariant in
    let slots = c.args.slots.now in
    let i : ℕ = c.loop-i.i - 1 in
    let some : 0 < c.loop-i.i = omega (arith, c.loop-i-test.true) in
    let next : c.loop-i.i ≡ i + 1 = omega (arith, some) in
    let unused : is_used (slot_at slots i) ≡ false = ap is_used (read_there slots i _ c.index-slots-i.is (omega (arith, inv.within, some))) ∙ (sym c.is_used.ensures ∙ c.if-not-is_used.true) in
    record {
      holes = rw c.in_ok-push.ensures.items (holes_pushed i slots _ (subst (λ (n : ℕ). IsHolesFrom n slots c.loop-i.holes.items) next inv.holes) (omega (arith, inv.within, some)) unused);
      room = omega (arith, inv.room, c.in_ok-push.ensures.capacity);
      within = omega (arith, inv.within);
    }
