use Rattle.std.proofs.Common.{◌≡◌, sym, ap, subst, ◌∙◌, length, arith}
use Rattle.std.proofs.lemmas.List.{length-map}
use Rattle.dirty_store.specs.Inside.{unboxed}
use Rattle.dirty_store.specs.Laws.{dirty_spots}
use Rattle.dirty_store.specs.contracts.store.DirtyStore.{the_view}
use Rattle.dirty_store.specs.Overlay.{IsOverlay}
use Rattle.dirty_store.proofs.BoxLaws.{each_kept}
use Rattle.dirty_store.proofs.store.DirtyStore.dirty_count.Goals as goal

pub returns-clause-count : goal.returns-clause-count
returns-clause-count c =
    let blocks = c.self.inside.blocks in
    let boxed : length blocks.items ≡ length (dirty_spots (the_view c.self.inside).overlay) = sym (length-map (unboxed blocks.items) (λ e. e.0) ∙ length-map blocks.items (λ e. (e.0, e.1.value))) in
    let long : c.len.result ≡ length blocks.items = omega (arith, c.len.ensures) in
    long ∙ boxed ∙ ap (λ h. length (dirty_spots h.overlay)) c.self.view_is

pub returns-clause-in_order : goal.returns-clause-in_order
returns-clause-in_order c = subst IsOverlay (ap (λ h. h.overlay) c.self.view_is) (record {
  blocks = each_kept (λ b. b.value) c.self.inside.blocks.items c.self.invariant.kept_blocks;
  nodes = c.self.invariant.sorted_nodes;
  slots = each_kept (λ b. b.value) c.self.inside.slots.items c.self.invariant.kept_slots;
})
