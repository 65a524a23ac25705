use Rattle.std.proofs.Common.{ap, ◌∙◌}
use Rattle.std.specs.Prelude.{Some, None}
use Rattle.dirty_store.proofs.BoxLaws.{looked_up}
use Rattle.dirty_store.proofs.store.DirtyStore.block.Goals as goal

pub returns-in-Some : goal.returns-in-Some
returns-in-Some c =
    ap Some c.deref-in-Some.ensures ∙ looked_up (λ b. b.value) (c.args.number, c.args.place) c.deref.result.now c.self.inside.blocks.items c.args.self.now.overlay.blocks (Some c.in-Some.block.now)
    c.in-Some.ensures c.deref.ensures.value (ap (λ h. h.overlay.blocks) c.self.view_is)

pub returns-in-None : goal.returns-in-None
returns-in-None c =
    looked_up (λ b. b.value) (c.args.number, c.args.place) c.deref.result.now c.self.inside.blocks.items c.args.self.now.overlay.blocks None
    c.in-None.ensures c.deref.ensures.value (ap (λ h. h.overlay.blocks) c.self.view_is)
