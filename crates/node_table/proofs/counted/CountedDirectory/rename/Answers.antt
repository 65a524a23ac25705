use Rattle.std.proofs.Common.{sym, ap, subst, ◌∙◌, arith, ◌≡◌, None}
use Rattle.dir_slots.specs.Slots.{slot_of, number_in, ReplacesName}
use Rattle.node_table.specs.Moves.{MovesName}
use Rattle.node_table.proofs.MoveSlots.{some_is, has_slot, moved_apart, moved_within, count_same_moved, slot_within}
use Rattle.node_table.proofs.counted.CountedDirectory.rename.Goals as goal

pub unreachable-requires : goal.unreachable-requires
unreachable-requires c = has_slot c.self.inside.directory c.args.from.now c.args.number (ap (λ s. number_in s c.args.from.now) c.self.view_is ∙ c.requires.there) (sym c.in_default.ensures)

pub add-requires-clause-room : goal.add-requires-clause-room
add-requires-clause-room c =
    omega (arith, c.first_unused-came.ensures.is, slot_within c.self.inside.directory c.args.from.now c.in-Some.left (sym c.in-Some.ensures), c.width-width.ensures.directory.width)

pub invariant_of-self-then-came-left : goal.invariant_of-self-then-came-left
invariant_of-self-then-came-left c =
    let slots = c.self.inside.directory in
    let absent : slot_of slots c.args.to.now ≡ None = ap (λ s. slot_of s c.args.to.now) c.self.view_is ∙ c.requires.absent in
    let m = moved_apart slots c.add.new.self c.remove.new.self c.args.from.now c.args.number c.args.to.now c.in-Some.left c.first_unused-came.result (sym c.in-Some.ensures) absent c.first_unused-came.ensures.is c.if-came-left.true
    c.in_ok-add.field-0 c.in_ok-add.ensures.slot c.in_ok-add.ensures.added c.remove.ensures.removed in
    c.self.invariant ∙ sym (count_same_moved slots c.remove.new.self c.args.from.now c.args.number c.args.to.now _ absent m)

pub returns-then-came-left-clause-moved : goal.returns-then-came-left-clause-moved
returns-then-came-left-clause-moved c =
    let slots = c.self.inside.directory in
    let absent : slot_of slots c.args.to.now ≡ None = ap (λ s. slot_of s c.args.to.now) c.self.view_is ∙ c.requires.absent in
    let m = moved_apart slots c.add.new.self c.remove.new.self c.args.from.now c.args.number c.args.to.now c.in-Some.left c.first_unused-came.result (sym c.in-Some.ensures) absent c.first_unused-came.ensures.is c.if-came-left.true
    c.in_ok-add.field-0 c.in_ok-add.ensures.slot c.in_ok-add.ensures.added c.remove.ensures.removed in
    subst (λ s. MovesName s c.args.from.now c.args.number c.args.to.now (record { left = c.in-Some.left; came = c.first_unused-came.result }) c.remove.new.self) c.self.view_is m

pub invariant_of-self-2 : goal.invariant_of-self-2
invariant_of-self-2 c =
    let slots = c.self.inside.directory in
    let absent : slot_of slots c.args.to.now ≡ None = ap (λ s. slot_of s c.args.to.now) c.self.view_is ∙ c.requires.absent in
    let replaced = some_is (λ slot. ReplacesName slots slot c.args.from.now c.args.to.now c.replace.new.self) c.replace.result c.in-Some.left (c.replace.ensures.slot ∙ sym c.in-Some.ensures) c.replace.ensures.replaced in
    let m = moved_within slots c.replace.new.self c.args.from.now c.args.number c.args.to.now c.in-Some.left (sym c.in-Some.ensures) absent (ap (λ s. number_in s c.args.from.now) c.self.view_is ∙ c.requires.there)
    (omega (arith, c.first_unused-came.ensures.is)) replaced in
    c.self.invariant ∙ sym (count_same_moved slots c.replace.new.self c.args.from.now c.args.number c.args.to.now _ absent m)

pub returns-clause-moved : goal.returns-clause-moved
returns-clause-moved c =
    let slots = c.self.inside.directory in
    let absent : slot_of slots c.args.to.now ≡ None = ap (λ s. slot_of s c.args.to.now) c.self.view_is ∙ c.requires.absent in
    let replaced = some_is (λ slot. ReplacesName slots slot c.args.from.now c.args.to.now c.replace.new.self) c.replace.result c.in-Some.left (c.replace.ensures.slot ∙ sym c.in-Some.ensures) c.replace.ensures.replaced in
    let m = moved_within slots c.replace.new.self c.args.from.now c.args.number c.args.to.now c.in-Some.left (sym c.in-Some.ensures) absent (ap (λ s. number_in s c.args.from.now) c.self.view_is ∙ c.requires.there)
    (omega (arith, c.first_unused-came.ensures.is)) replaced in
    subst (λ s. MovesName s c.args.from.now c.args.number c.args.to.now (record { left = c.in-Some.left; came = c.in-Some.left }) c.replace.new.self) c.self.view_is m
