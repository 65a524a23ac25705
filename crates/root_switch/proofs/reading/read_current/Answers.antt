use Rattle.std.proofs.Common.{◌≡◌, ◌∙◌, ◌+◌, ◌≤◌, length, sym, ap, subst, arith}
use Rattle.std.specs.Prelude.{slice_get, IfSome}
use Rattle.disk_model.specs.Disk.{State}
use Rattle.disk_model.specs.Media.{Fixed}
use Rattle.block_format.specs.Root.{Root, root_of, root_in, HasGeometry, SpellsRoot}
use Rattle.root_switch.specs.Current.{root_of_image}
use Rattle.root_switch.proofs.CurrentLemmas.{root_found}
use Rattle.root_switch.proofs.reading.read_current.Goals as goal

pub returns-then-blocks-clause-bad_geometry : goal.returns-then-blocks-clause-bad_geometry
returns-then-blocks-clause-bad_geometry g c is tells =
    let s = g.D.Disk.state c.args.disk.now in
    let slot = c.in-Ok.slot in
    let body = c.in_ok-body.body in
    let same = c.in-Ok.ensures.same tells in
    let size : length s.contents ≡ (g.D.Disk.fixed c.args.disk.now).size = g.met.D.Disk.has_size c.args.disk.now tells in
    let slots : 3 ≤ length s.contents = omega (arith, size, c.blocks-2.ensures, c.if-blocks-lt3.false) in
    let spells = subst (λ (m : State). IfSome (slice_get m.contents (1 + slot)) (λ block. SpellsRoot body block)) same (c.in_ok-body.ensures.spelled tells) in
    let fields = subst (λ (m : State). IfSome (slice_get m.contents (1 + slot)) (λ block. root_of body ≡ root_in block.bytes)) same (c.in_ok-body.ensures.fields tells) in
    let root = root_found s.contents slot (c.in-Ok.ensures.current tells) c.in-Ok.ensures.slot slots body spells fields in
    let sizes : c.blocks-4.result ≡ length s.contents = c.blocks-4.ensures ∙ ap (λ (f : Fixed). f.size) (c.read_slot.ensures.fixed ∙ c.named_slot.ensures.fixed) ∙ sym size in
    let blocks : body.geometry.blocks ≡ (root_of_image s.contents).layout.blocks = ap (λ (r : Root). r.layout.blocks) root.1 in
    (root.0, λ fits. c.if-blocks.true (c.blocks-3.ensures ∙ blocks ∙ fits.size ∙ sym sizes))

pub returns-clause-root : goal.returns-clause-root
returns-clause-root g c tells =
    let s = g.D.Disk.state c.args.disk.now in
    let slot = c.in-Ok.slot in
    let body = c.in_ok-body.body in
    let same = c.in-Ok.ensures.same tells in
    let size : length s.contents ≡ (g.D.Disk.fixed c.args.disk.now).size = g.met.D.Disk.has_size c.args.disk.now tells in
    let slots : 3 ≤ length s.contents = omega (arith, size, c.blocks-2.ensures, c.if-blocks-lt3.false) in
    let spells = subst (λ (m : State). IfSome (slice_get m.contents (1 + slot)) (λ block. SpellsRoot body block)) same (c.in_ok-body.ensures.spelled tells) in
    let fields = subst (λ (m : State). IfSome (slice_get m.contents (1 + slot)) (λ block. root_of body ≡ root_in block.bytes)) same (c.in_ok-body.ensures.fields tells) in
    let root = root_found s.contents slot (c.in-Ok.ensures.current tells) c.in-Ok.ensures.slot slots body spells fields in
    let sizes : c.blocks-4.result ≡ length s.contents = c.blocks-4.ensures ∙ ap (λ (f : Fixed). f.size) (c.read_slot.ensures.fixed ∙ c.named_slot.ensures.fixed) ∙ sym size in
    let blocks : body.geometry.blocks ≡ (root_of_image s.contents).layout.blocks = ap (λ (r : Root). r.layout.blocks) root.1 in (
      root.0,
      record { geometry = subst HasGeometry root.1 c.in_ok-body.ensures.grammar; size = sym blocks ∙ sym c.blocks-3.ensures ∙ c.if-blocks.false ∙ sizes },
      c.in-Ok.ensures.current tells,
      root.1,
    )
