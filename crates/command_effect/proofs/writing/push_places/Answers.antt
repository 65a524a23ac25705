use Rattle.std.proofs.Common.{◌≡◌, ◌≤◌, ◌/◌, ◌∷◌, [], ◌++◌, ◌∙◌, ℕ, List, ap, sym, subst, arith, length, length-append}
use Rattle.disk_model.specs.Disk.{State}
use Rattle.disk_model.proofs.Moments.{adds_read}
use Rattle.dirty_store.specs.declared.effect.Touched.{Touched}
use Rattle.block_tree.proofs.DamageLaws.{look_passed}
use Rattle.place_read.specs.Holding.{HoldsFiles}
use Rattle.command_effect.specs.Blocks.{AreFrom, IsWrittenBlock}
use Rattle.command_effect.proofs.BlockLaws.{are_pushed}
use Rattle.command_effect.proofs.writing.push_places.Goals as goal

pub loop-place-preserved : goal.loop-place-preserved
loop-place-preserved g c =
    let inv = c.loop-place.invariant in
    let first : ℕ = c.args.offset / 4096 in
    let before : List Touched = c.loop-place.touched.items in
    let t : Touched = record { place = c.loop-place.place; block = c.in_ok-block.block } in
    let written = c.in_ok-block.ensures.is in
    let low : first ≤ c.loop-place.place = omega (arith, c.loop-place.auto.place) in
    let items : c.push_touched.new.touched.items ≡ before ++ t ∷ [] = c.in_ok-push_touched.ensures in
    record {
      many = ap length items ∙ length-append before (t ∷ []) ∙ omega (arith, inv.many, low);
      are = subst (AreFrom (IsWrittenBlock g.D.Disk.tells (g.D.Disk.state c.args.disk.now).contents c.args.inodes.now c.args.dirty.now.overlay c.args.number c.args.offset c.args.given.now) first) (sym items)
          (are_pushed _ first before t inv.are (omega (arith, inv.many, low)) (record {
            whole = written.whole;
            laid = λ tells r m holds. written.laid tells r m (subst (λ (s : State). HoldsFiles r m s.contents c.args.inodes.now c.args.dirty.now.overlay) (sym (inv.same tells)) holds);
          }));
      same = λ tells. c.in_ok-block.ensures.same tells ∙ inv.same tells;
      moments = λ tells. adds_read (inv.moments tells) (inv.same tells) (c.in_ok-block.ensures.moments tells);
      fixed = c.in_ok-block.ensures.fixed ∙ inv.fixed;
      given = omega (arith, c.in_ok-block.ensures.damaged, inv.given);
      faults = c.in_ok-block.ensures.cause ∙ inv.faults;
    }

pub returns-in_err-block-clause-sound : goal.returns-in_err-block-clause-sound
returns-in_err-block-clause-sound g c tells r m holds layout =
    let now = subst (λ (s : State). HoldsFiles r m s.contents c.args.inodes.now c.args.dirty.now.overlay) (sym (c.loop-place.invariant.same tells)) holds in
    look_passed c.from_residual.result c.in_err-block.field-0.0 (λ b. ⊥) (λ b. ⊥) c.from_residual.ensures.1 (c.in_err-block.ensures.sound tells r m now layout) (λ b is. is)
