use Rattle.std.proofs.Common.{◌≡◌, ◌<◌, ◌≤◌, ◌∙◌, ◌+◌, ◌-◌, ℕ, List, length, take, vec_len, sym, ap, subst, arith}
use Rattle.std.specs.List.{insert}
use Rattle.block_format.specs.declared.slot.Slot.{Slot}
use Rattle.block_format.specs.declared.slot.Slot.TheVariants.{Entry}
use Rattle.dir_slots.specs.Slots.{first_unused, with_slot}
use Rattle.dir_slots.specs.Index.{IsAbsent, IsGap}
use Rattle.dir_slots.proofs.NameLaws.{absent_from}
use Rattle.dir_slots.proofs.SlotLaws.{first_unused-at_most, with_slot-at_most}
use Rattle.dir_slots.proofs.KeptLaws.{kept_put}
use Rattle.dir_slots.proofs.directory.Directory.add.Goals as goal

pub gap_for-place-requires-clause-absent : goal.gap_for-place-requires-clause-absent
gap_for-place-requires-clause-absent c =
    subst (λ (slots : List Slot). IsAbsent slots c.args.name.now) (sym (c.deref.ensures.value ∙ c.self.view_is)) (absent_from c.args.self.now c.args.name.now c.requires.absent)

pub invariant_of-self-2 : goal.invariant_of-self-2
invariant_of-self-2 c =
    let slots = c.self.inside.slots.items in
    let order = c.self.inside.order.items in
    let holes = c.self.inside.holes.items in
    let name = c.args.name.now in
    let i = c.first_unused-slot.result in
    let place = c.gap_for-place.result in
    let entry : Slot = Entry c.args.number name in
    let least : first_unused slots ≡ i = ap first_unused c.self.view_is ∙ sym c.first_unused-slot.ensures.is in
    let le : i ≤ length slots = omega (arith, first_unused-at_most slots, least) in
    let room : i < 65534 = omega (arith, c.requires.room, c.first_unused-slot.ensures.is) in
    let gap : IsGap slots order name place =
    subst (λ (s : List Slot). IsGap s order name place) c.deref.ensures.value (subst (λ (o : List ℕ). IsGap c.deref.result.now o name place) c.deref-2.ensures.value c.gap_for-place.ensures.gap) in
    let kept = kept_put slots order holes i place c.args.number name c.self.invariant.0 least room gap (c.requires.number, c.requires.at_most, c.gap_for-place.ensures.name) in
    let new : c.put_slot.new.slots.items ≡ with_slot slots i entry = c.put_slot.ensures ∙ ap (λ (s : List Slot). with_slot s i entry) c.in_ok-reserve.ensures.items in
    let entries : c.insert.new.self.items ≡ insert order place i = c.in_ok-insert.ensures.items in
    let many : vec_len c.reserve-2.new.self ≡ length holes = omega (arith, c.in_ok-reserve-2.ensures.len) in
    let left : c.pop.new.self.items ≡ take (length holes - 1) holes =
    c.pop.ensures.rest ∙ (ap (λ (xs : List ℕ). take (vec_len c.reserve-2.new.self - 1) xs) c.in_ok-reserve-2.ensures.items ∙ ap (λ (n : ℕ). take (n - 1) holes) many) in
    let wide : length c.put_slot.new.slots.items ≤ length slots + 1 = subst (λ (s : List Slot). length s ≤ length slots + 1) (sym new) (with_slot-at_most slots i entry le) in (
      rw (new, entries, left) kept,
      omega (arith, wide, c.pop.ensures.capacity, c.in_ok-reserve-2.ensures.ok, c.in_ok-reserve-2.ensures.len, c.in_ok-reserve.ensures.len, c.len.ensures, c.len-2.ensures, c.saturating_sub-room.ensures),
    )
