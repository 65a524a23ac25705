use Rattle.std.proofs.Common.{◌/◌, sym, ap, subst, ◌∙◌, map}
use Rattle.std.specs.Prelude.{Some, IfOk}
use Rattle.std.specs.List.{slice_range}
use Rattle.dirty_store.specs.Entries.{cut_at, cut_away}
use Rattle.dirty_store.specs.Numbers.{AreOnce}
use Rattle.dirty_store.specs.Overlay.{dirty_places}
use Rattle.dirty_store.proofs.BoxLaws.{places-each}
use Rattle.dirty_store.proofs.WidthLaws.{own_places}
use Rattle.dirty_store.proofs.store.DirtyStore.pages.Goals as goal

pub returns : goal.returns
returns c =
    let bounds = c.bounds_of-bounds.result in
    let part = ap (λ es. slice_range es bounds.start bounds.end) (c.deref-2.ensures.value ∙ sym c.deref.ensures.value)
    ∙ c.bounds_of-bounds.ensures.inside ∙ ap (cut_away (cut_at c.args.directory (Some 0))) c.deref.ensures.value in
    let places = ap (map (λ e. e.0.1)) part
    ∙ own_places c.args.directory c.self.inside.slots.items
    ∙ sym (places-each (λ b. b.value) c.self.inside.slots.items c.args.directory)
    ∙ ap (λ h. dirty_places h.overlay.slots c.args.directory) c.self.view_is in
    subst (λ ps. IfOk c.pages_of.result (AreOnce (map (λ k. k / 16) ps))) places c.pages_of.ensures
