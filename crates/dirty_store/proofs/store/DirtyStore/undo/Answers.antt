use Rattle.std.proofs.Common.{◌≡◌, sym, ap, ◌∙◌, subst, length, true, arith}
use Rattle.std.specs.Ordering.{nat_cmp}
use Rattle.std.specs.FinMap.{is_sorted}
use Rattle.dirty_store.specs.Entries.{there}
use Rattle.dirty_store.specs.Inside.{unboxed}
use Rattle.dirty_store.specs.Undo.{undone}
use Rattle.dirty_store.proofs.BoxLaws.{each-put_back, length-each, there-each}
use Rattle.dirty_store.proofs.NodeLaws.{node_back_sorted}
use Rattle.dirty_store.proofs.store.DirtyStore.undo.Goals as goal

pub put_all_back-requires-clause-room : goal.put_all_back-requires-clause-room
put_all_back-requires-clause-room c =
    omega (
      arith,
      c.requires.blocks,
      ap (λ h. length h.overlay.blocks) c.self.view_is,
      ap (λ h. h.block_room) c.self.view_is,
      ap (λ r. there r.blocks) c.staged.view_is,
      length-each (λ b. b.value) c.self.inside.blocks.items,
      there-each (λ b. b.value) c.staged.inside.blocks.items,
    )

pub put_all_back-requires-2-clause-room : goal.put_all_back-requires-2-clause-room
put_all_back-requires-2-clause-room c =
    omega (
      arith,
      c.requires.slots,
      ap (λ h. length h.overlay.slots) c.self.view_is,
      ap (λ h. h.slot_room) c.self.view_is,
      ap (λ r. there r.slots) c.staged.view_is,
      length-each (λ b. b.value) c.self.inside.slots.items,
      there-each (λ b. b.value) c.staged.inside.slots.items,
    )

pub invariant_of-self : goal.invariant_of-self
invariant_of-self c = record {
  kept_blocks = c.put_all_back.ensures.kept;
  sorted_nodes = subst (λ es. is_sorted nat_cmp es ≡ true) (sym c.node_back.ensures) (node_back_sorted c.staged.inside.number c.staged.inside.node c.self.inside.nodes.entries c.self.invariant.sorted_nodes);
  kept_slots = c.put_all_back-2.ensures.kept;
}

pub returns-clause-undone : goal.returns-clause-undone
returns-clause-undone c =
    let blocks = ap unboxed c.put_all_back.ensures.back ∙ each-put_back (λ b. b.value) c.staged.inside.blocks.items c.self.inside.blocks.items in
    let slots = ap unboxed c.put_all_back-2.ensures.back ∙ each-put_back (λ b. b.value) c.staged.inside.slots.items c.self.inside.slots.items in
    (λ i. record { blocks = blocks i; nodes = c.node_back.ensures i; slots = slots i })
    ∙ (λ i. undone (c.self.view_is i).overlay (c.staged.view_is i))
