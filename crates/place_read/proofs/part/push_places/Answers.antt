use Rattle.std.proofs.Common.{◌≡◌, ◌<◌, ◌+◌, ◌-◌, ◌*◌, ◌++◌, ◌∙◌, ℕ, List, ap, sym, subst, arith, length}
use Rattle.std.specs.Prelude.{min, slice_range}
use Rattle.disk_model.specs.Disk.{State}
use Rattle.disk_model.proofs.Moments.{adds_read}
use Rattle.block_tree.proofs.DamageLaws.{look_passed}
use Rattle.place_read.specs.Holding.{HoldsFiles}
use Rattle.place_read.specs.Part.{end_of}
use Rattle.place_read.proofs.PartLaws.{AreFrom, damage_passed, piece_is, piece_many, piece_from}
use Rattle.place_read.proofs.part.push_places.Goals as goal
use Rattle.volume_model.specs.Machine.{bytes_numbered}

pub returns-in_err-read_place-clause-damaged : goal.returns-in_err-read_place-clause-damaged
returns-in_err-read_place-clause-damaged g c =
    damage_passed _ _ _ _ _ _ c.from_residual-in_err-read_place.result c.in_err-read_place.field-0.0 c.from_residual-in_err-read_place.ensures.1 c.loop-place.invariant.given c.in_err-read_place.ensures.damaged

pub returns-in_err-read_place-clause-sound : goal.returns-in_err-read_place-clause-sound
returns-in_err-read_place-clause-sound g c tells r m holds layout =
    let now = subst (λ (s : State). HoldsFiles r m s.contents c.args.inodes.now c.args.dirty.now.overlay) (sym (c.loop-place.invariant.same tells)) holds in
    look_passed c.from_residual-in_err-read_place.result c.in_err-read_place.field-0.0 (λ b. ⊥) (λ b. ⊥) c.from_residual-in_err-read_place.ensures.1 (c.in_err-read_place.ensures.sound tells r m now layout) (λ b is. is)

pub loop-place-preserved : goal.loop-place-preserved
loop-place-preserved g c =
    let inv = c.loop-place.invariant in
    let offset : ℕ = c.args.part.now.offset in
    let end : ℕ = end_of c.args.part.now in
    let k : ℕ = c.loop-place.place in
    let before : List ℕ = c.loop-place.bytes.items in
    let block : List ℕ = c.read_place.new.into.bytes in
    let items : c.push_piece.new.bytes.items ≡ before ++ slice_range block (offset - 4096 * k) (min (end - 4096 * k) 4096) =
    piece_is _ before block _ _ (offset - 4096 * k) (min (end - 4096 * k) 4096) c.in_ok-push_piece.ensures.pushed
    (omega (arith, c.saturating_sub-start.ensures)) (omega (arith, c.min-stop.ensures, c.end-end.ensures)) in
    let below : 4096 * k < end = omega (arith, c.loop-place-test.true, c.div_ceil-place-end.ensures, c.end-end.ensures) in
    let reached : offset < 4096 * (k + 1) = omega (arith, c.loop-place.auto.place) in
    let more : length (before ++ slice_range block (offset - 4096 * k) (min (end - 4096 * k) 4096)) ≡ length before + (min (end - 4096 * k) 4096 - (offset - 4096 * k)) =
    omega (arith, ap length items, c.in_ok-push_piece.ensures.many, c.saturating_sub-start.ensures, c.min-stop.ensures, c.end-end.ensures) in
    record {
      many = ap length items ∙ piece_many before block offset end k inv.many below reached more c.requires.some;
      read = λ tells r m holds.
          let now = subst (λ (s : State). HoldsFiles r m s.contents c.args.inodes.now c.args.dirty.now.overlay) (sym (inv.same tells)) holds in
          subst (λ (xs : List ℕ). AreFrom (bytes_numbered c.args.part.now.number m.tree) offset xs) (sym items)
          (piece_from before block offset end k inv.many below reached more (bytes_numbered c.args.part.now.number m.tree) (c.in_ok-read_place.ensures.read tells r m now) (inv.read tells r m holds));
      same = λ tells. c.in_ok-read_place.ensures.same tells ∙ inv.same tells;
      moments = λ tells. adds_read (inv.moments tells) (inv.same tells) (c.in_ok-read_place.ensures.moments tells);
      fixed = c.in_ok-read_place.ensures.fixed ∙ inv.fixed;
      given = omega (arith, c.in_ok-read_place.ensures.damaged, inv.given);
      faults = c.in_ok-read_place.ensures.cause ∙ inv.faults;
    }
