use Rattle.std.proofs.Common.{◌≡◌, None, sym, subst}
use Rattle.block_tree.proofs.DamageLaws.{damage_like}
use Rattle.node_table.specs.Changes.{Does}
use Rattle.node_table.specs.Held.{HoldsNodes}
use Rattle.node_table.specs.declared.change.Change.{Change}
use Rattle.tree_model.specs.Shape.{IsTree}
use Rattle.tree_model.specs.Step.{refusal_of}
use Rattle.tree_model.specs.Tree.{Tree}
use Rattle.volume_core.specs.Memory.{Memory, IsFitting}
use Rattle.volume_core.specs.Staging.{HoldsNow}
use Rattle.volume_core.proofs.Fitting.{fits_staged, tree_after}
use Rattle.volume_core.proofs.StagedLaws.{tree_now, staged_is}
use Rattle.volume_core.proofs.volume.Volume.stage.Given.{Over}
use Rattle.volume_core.proofs.volume.Volume.stage.Goals.{After-drop-staged-inside-2}
use Rattle.volume_core.proofs.volume.Volume.stage.Goals as goal

-- the change that was planned is the one that the table did
planned : (g : Over) (c : After-drop-staged-inside-2 g) → Does c.args.command.now c.plan-change.result c.self.inside.nodes c.change.new.self
planned g c =
    subst (λ (x : Change). Does c.args.command.now x c.self.inside.nodes c.change.new.self) (c.plan-change.ensures.said c.in_default-change.field-0 c.change.new.self c.in_default-change.ensures.done)
    c.in_default-change.ensures.done

-- the table's trees don't refuse it
accepted : (g : Over) (c : After-drop-staged-inside-2 g) → (tree : Tree) → IsTree tree → HoldsNodes c.self.inside.nodes tree → refusal_of tree c.args.command.now ≡ None
accepted g c tree is holds = c.requires.accepted tree is (subst (λ (v : Memory). HoldsNodes v.nodes tree) c.self.view_is holds)

pub returns-in_err-effect-clause-sound : goal.returns-in_err-effect-clause-sound
returns-in_err-effect-clause-sound g c tells r m now =
    let inside = subst (λ (v : Memory). HoldsNow r m (g.D.Disk.state c.args.disk.now).contents v) (sym c.self.view_is) now in
    damage_like c.from_residual.result c.in_err-effect.field-0.0 (λ b. ⊥) (λ b. ⊥) c.from_residual.ensures.1 (c.in_err-effect.ensures.sound tells r m inside.files inside.layout) (λ b is. is)

pub returns-clause-staged : goal.returns-clause-staged
returns-clause-staged g c tells r m now =
    let inside = subst (λ (v : Memory). HoldsNow r m (g.D.Disk.state c.args.disk.now).contents v) (sym c.self.view_is) now in
    let tree = tree_now c.table_holds_tree.ensures c.built_is_of_change.ensures c.staging_holds.ensures r m c.args.command.now (g.D.Disk.state c.args.disk.now).contents _ inside in
    staged_is c.table_holds_tree.ensures c.built_is_of_change.ensures c.staging_holds.ensures r m c.args.command.now (g.D.Disk.state c.args.disk.now).contents _ inside c.requires.change (accepted g c) _
    c.plan-change.result c.in_ok-effect.effect (record {
      does = planned g c;
      directories = c.in_default-change.ensures.directories;
      holds = c.in_default-change.ensures.holds;
      effect = c.in_ok-effect.ensures.effect;
      built = c.in_ok-effect.ensures.built;
      on = c.in_ok-effect.ensures.on tells r m inside.files tree;
      overlay = c.in-Ok.ensures.staged;
    })

pub returns-clause-fits : goal.returns-clause-fits
returns-clause-fits g c =
    let size = (g.D.Disk.fixed c.args.disk.now).size in
    let inside = subst (IsFitting size) (sym c.self.view_is) c.requires.fits in
    fits_staged c.staging_fits.ensures size _ inside c.stage.new.self c.change.new.self c.args.command.now c.plan-change.result c.in_ok-effect.effect
    (record {
      within = inside.size.staged;
      table = inside.table;
      does = planned g c;
      rules = c.plan-change.ensures.within;
      directories = c.in_default-change.ensures.directories;
      built = c.in_ok-effect.ensures.built;
      effect = c.in_ok-effect.ensures.effect;
      cut = c.in_ok-effect.ensures.cut;
      places = c.in_ok-effect.ensures.places;
    })
    c.in-Ok.ensures.staged
    (tree_after size _ inside c.stage.new.self c.change.new.self c.args.command.now (accepted g c) c.in_default-change.ensures.holds)
