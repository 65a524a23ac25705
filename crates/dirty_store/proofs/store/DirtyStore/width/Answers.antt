use Rattle.std.proofs.Common.{sym, ap, subst, ◌∙◌, arith}
use Rattle.std.specs.Prelude.{Some}
use Rattle.std.specs.List.{slice_range}
use Rattle.dirty_store.specs.Entries.{cut_at, cut_away}
use Rattle.dirty_store.specs.Overlay.{IsOverlay, width_of}
use Rattle.dirty_store.proofs.BoxLaws.{width-each, each_kept}
use Rattle.dirty_store.proofs.KeptLaws.{filter_within}
use Rattle.dirty_store.proofs.LastLaws.{last, last_is}
use Rattle.dirty_store.proofs.WidthLaws.{end_of, last_within, own_are, own_sorted, own_width, width_last}
use Rattle.dirty_store.proofs.store.DirtyStore.width.Goals as goal

pub overflow_add-result : goal.overflow_add-result
overflow_add-result c =
    let bounds = c.bounds_of-bounds.result in
    let items = c.self.inside.slots.items in
    let own = cut_away (cut_at c.args.directory (Some 0)) items in
    let part = ap (λ es. slice_range es bounds.start bounds.end) (c.deref-2.ensures.value ∙ sym c.deref.ensures.value)
    ∙ c.bounds_of-bounds.ensures.inside ∙ ap (cut_away (cut_at c.args.directory (Some 0))) c.deref.ensures.value in
    let is = ap last (sym part) ∙ sym (last_is (slice_range c.deref-2.result.now bounds.start bounds.end)) ∙ sym c.in-Some.ensures.value in
    omega (arith, last_within own c.in-Some.last.now (filter_within _ items c.self.invariant.kept_slots.within) is)

pub returns-in-Some-clause-is : goal.returns-in-Some-clause-is
returns-in-Some-clause-is c =
    let bounds = c.bounds_of-bounds.result in
    let items = c.self.inside.slots.items in
    let directory = c.args.directory in
    let own = cut_away (cut_at directory (Some 0)) items in
    let part = ap (λ es. slice_range es bounds.start bounds.end) (c.deref-2.ensures.value ∙ sym c.deref.ensures.value)
    ∙ c.bounds_of-bounds.ensures.inside ∙ ap (cut_away (cut_at directory (Some 0))) c.deref.ensures.value in
    let is = ap last (sym part) ∙ sym (last_is (slice_range c.deref-2.result.now bounds.start bounds.end)) ∙ sym c.in-Some.ensures.value in
    sym (ap (λ h. width_of h.overlay.slots directory) (sym c.self.view_is)
    ∙ width-each (λ b. b.value) items directory ∙ sym (own_width directory items)
    ∙ width_last directory own (own_are directory items) (own_sorted directory items c.self.invariant.kept_slots.in_order)
    ∙ ap end_of is)

pub returns-in-None-clause-is : goal.returns-in-None-clause-is
returns-in-None-clause-is c =
    let bounds = c.bounds_of-bounds.result in
    let items = c.self.inside.slots.items in
    let directory = c.args.directory in
    let own = cut_away (cut_at directory (Some 0)) items in
    let part = ap (λ es. slice_range es bounds.start bounds.end) (c.deref-2.ensures.value ∙ sym c.deref.ensures.value)
    ∙ c.bounds_of-bounds.ensures.inside ∙ ap (cut_away (cut_at directory (Some 0))) c.deref.ensures.value in
    let is = ap last (sym part) ∙ sym (last_is (slice_range c.deref-2.result.now bounds.start bounds.end)) ∙ sym c.in-None.ensures.value in
    sym (ap (λ h. width_of h.overlay.slots directory) (sym c.self.view_is)
    ∙ width-each (λ b. b.value) items directory ∙ sym (own_width directory items)
    ∙ width_last directory own (own_are directory items) (own_sorted directory items c.self.invariant.kept_slots.in_order)
    ∙ ap end_of is)

pub returns-in-Some-clause-in_order : goal.returns-in-Some-clause-in_order
returns-in-Some-clause-in_order c = subst IsOverlay (ap (λ h. h.overlay) c.self.view_is) (record {
  blocks = each_kept (λ b. b.value) c.self.inside.blocks.items c.self.invariant.kept_blocks;
  nodes = c.self.invariant.sorted_nodes;
  slots = each_kept (λ b. b.value) c.self.inside.slots.items c.self.invariant.kept_slots;
})

pub returns-in-None-clause-in_order : goal.returns-in-None-clause-in_order
returns-in-None-clause-in_order c = subst IsOverlay (ap (λ h. h.overlay) c.self.view_is) (record {
  blocks = each_kept (λ b. b.value) c.self.inside.blocks.items c.self.invariant.kept_blocks;
  nodes = c.self.invariant.sorted_nodes;
  slots = each_kept (λ b. b.value) c.self.inside.slots.items c.self.invariant.kept_slots;
})
