use Rattle.std.proofs.Common.{◌≡◌, refl, sym, ap, ◌∙◌, subst, true, cond, arith}
use Rattle.std.specs.Prelude.{Some, IsSome, Option}
use Rattle.std.specs.Ordering.{is_eq, nat_cmp}
use Rattle.std.specs.Cmp.{nat_cmp_total, tied_itself}
use Rattle.std.specs.FinMap.{is_sorted, find}
use Rattle.std.specs.FinMap.Entries.{find-put}
use Rattle.dirty_store.specs.declared.node_change.NodeChange.{NodeChange}
use Rattle.dirty_store.specs.Entries.{uncut, all_put, cut_at}
use Rattle.dirty_store.specs.Inside.{unboxed}
use Rattle.dirty_store.specs.Overlay.{staged, touched_entries, slot_entries, node_after}
use Rattle.dirty_store.specs.Undo.{node_back}
use Rattle.dirty_store.proofs.BoxLaws.{each-all_put, each-uncut, each-put_back, length-each, there-each}
use Rattle.dirty_store.proofs.NodeLaws.{put_sorted, node_back-put}
use Rattle.dirty_store.proofs.store.DirtyStore.stage.Goals as goal

pub invariant_of-self-2 : goal.invariant_of-self-2
invariant_of-self-2 c =
    let e = c.args.effect in
    let nodes = c.self.inside.nodes.entries in
    record {
      kept_blocks = c.restage.ensures.kept;
      sorted_nodes = subst (λ es. is_sorted nat_cmp es ≡ true) (sym c.in_ok-node.ensures.staged) (put_sorted e.number (node_after e.inode e.cut_to (find nat_cmp e.number nodes)) nodes c.self.invariant.sorted_nodes);
      kept_slots = c.restage-2.ensures.kept;
    }

pub returns-clause-staged : goal.returns-clause-staged
returns-clause-staged c =
    let e = c.args.effect in
    let cut = cut_at e.number e.cut_to in
    let forgotten = cut_at e.number c.whole.result in
    let room = c.rooms_for.new in
    let blocks = ap unboxed c.restage.ensures.staged
    ∙ each-all_put (λ b. b.value) c.in_ok-new.new.blocks.items (uncut cut room.blocks.items)
    ∙ (λ i. all_put (c.in_ok-new.ensures.blocks i) (each-uncut (λ b. b.value) cut room.blocks.items i))
    ∙ ap (λ es. all_put (touched_entries e.number e.touched) (uncut cut (unboxed es))) c.rooms_for.ensures.same.0 in
    let slots = ap unboxed c.restage-2.ensures.staged
    ∙ each-all_put (λ b. b.value) c.in_ok-new.new.slots.items (uncut forgotten room.slots.items)
    ∙ (λ i. all_put (c.in_ok-new.ensures.slots i) (each-uncut (λ b. b.value) forgotten room.slots.items i))
    ∙ (λ i. all_put (slot_entries e.slots) (uncut (cut_at e.number (c.whole.ensures i)) (unboxed (c.rooms_for.ensures.same.1 i)))) in
    (λ i. record { blocks = blocks i; nodes = c.in_ok-node.ensures.staged i; slots = slots i })
    ∙ ap (λ h. staged h.overlay e) c.self.view_is

pub returns-clause-back : goal.returns-clause-back
returns-clause-back c =
    let e = c.args.effect in
    let entries = c.self.inside.nodes.entries in
    let blocks = sym (each-put_back (λ b. b.value) c.restage.result.items c.restage.new.entries.items) ∙ ap unboxed (c.restage.ensures.back ∙ c.rooms_for.ensures.same.0) in
    let slots = sym (each-put_back (λ b. b.value) c.restage-2.result.items c.restage-2.new.entries.items) ∙ ap unboxed (c.restage-2.ensures.back ∙ c.rooms_for.ensures.same.1) in
    let nodes = (λ i. node_back e.number (c.in_ok-node.ensures.was i) (c.in_ok-node.ensures.staged i))
    ∙ node_back-put e.number (node_after e.inode e.cut_to (find nat_cmp e.number entries)) entries c.self.invariant.sorted_nodes in
    (λ i. record { blocks = blocks i; nodes = nodes i; slots = slots i })
    ∙ ap (λ h. h.overlay) c.self.view_is

pub returns-clause-undoable : goal.returns-clause-undoable
returns-clause-undoable c =
    let e = c.args.effect in
    let entries = c.self.inside.nodes.entries in
    let node = node_after e.inode e.cut_to (find nat_cmp e.number entries) in
    let there_now = ap (find nat_cmp e.number) c.in_ok-node.ensures.staged
    ∙ find-put nat_cmp nat_cmp_total e.number e.number node entries
    ∙ ap (λ o. cond (is_eq o) (Some node) (find nat_cmp e.number entries)) (tied_itself nat_cmp_total e.number) in
    let some : IsSome (Some node) = refl in
    record {
      blocks = omega (arith, c.restage.ensures.room, length-each (λ b. b.value) c.restage.new.entries.items, there-each (λ b. b.value) c.restage.result.items);
      slots = omega (arith, c.restage-2.ensures.room, length-each (λ b. b.value) c.restage-2.new.entries.items, there-each (λ b. b.value) c.restage-2.result.items);
      node = subst (λ (o : Option NodeChange). IsSome o) (sym there_now) some;
    }
