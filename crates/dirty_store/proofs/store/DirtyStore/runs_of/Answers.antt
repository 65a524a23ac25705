use Rattle.std.proofs.Common.{sym, ap, subst, ◌∙◌, map}
use Rattle.std.specs.Prelude.{Some, IfOk}
use Rattle.std.specs.List.{slice_range}
use Rattle.dirty_store.specs.Entries.{AreWithin, cut_at, cut_away}
use Rattle.dirty_store.specs.Overlay.{dirty_places}
use Rattle.dirty_store.specs.Runs.{AreRunsOf}
use Rattle.dirty_store.proofs.BoxLaws.{places-each}
use Rattle.dirty_store.proofs.KeptLaws.{filter_within}
use Rattle.dirty_store.proofs.WidthLaws.{own_places}
use Rattle.dirty_store.proofs.store.DirtyStore.runs_of.Goals as goal

pub runs_of-requires : goal.runs_of-requires
runs_of-requires c =
    let bounds = c.bounds_of-bounds.result in
    let part = ap (λ es. slice_range es bounds.start bounds.end) (c.deref-2.ensures.value ∙ sym c.deref.ensures.value)
    ∙ c.bounds_of-bounds.ensures.inside ∙ ap (cut_away (cut_at c.args.number (Some 0))) c.deref.ensures.value in
    subst AreWithin (sym part) (filter_within _ c.self.inside.blocks.items c.self.invariant.kept_blocks.within)

pub returns : goal.returns
returns c =
    let bounds = c.bounds_of-bounds.result in
    let part = ap (λ es. slice_range es bounds.start bounds.end) (c.deref-2.ensures.value ∙ sym c.deref.ensures.value)
    ∙ c.bounds_of-bounds.ensures.inside ∙ ap (cut_away (cut_at c.args.number (Some 0))) c.deref.ensures.value in
    let places = ap (map (λ e. e.0.1)) part
    ∙ own_places c.args.number c.self.inside.blocks.items
    ∙ sym (places-each (λ b. b.value) c.self.inside.blocks.items c.args.number)
    ∙ ap (λ h. dirty_places h.overlay.blocks c.args.number) c.self.view_is in
    subst (λ ps. IfOk c.runs_of.result (AreRunsOf ps)) places c.runs_of.ensures
