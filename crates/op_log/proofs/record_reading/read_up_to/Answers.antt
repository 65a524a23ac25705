use Rattle.std.proofs.Common.{◌≡◌, ◌∙◌, ◌+◌, ℕ, List, length, drop, subst, arith}
use Rattle.std.specs.Prelude.{slice_get, Some}
use Rattle.vol_numbers.specs.declared.block.Block.{Block}
use Rattle.disk_model.specs.Disk.{State}
use Rattle.disk_model.proofs.Moments.{adds_read}
use Rattle.op_log.proofs.ReadLemmas.{blocks_more, front_stays}
use Rattle.op_log.proofs.record_reading.read_up_to.Goals as goal

pub loop-i-preserved : goal.loop-i-preserved
loop-i-preserved g c =
    let so_far = c.loop-i.invariant in
    let image : List Block = (g.D.Disk.state c.args.disk.now).contents in
    let i : ℕ = c.loop-i.i in
    let at : ℕ = c.args.at in
    let old : List ℕ = c.loop-i.bytes.items in
    let new : List ℕ = c.read_onto.new.bytes.items in
    record {
      long = omega (arith, so_far.long, c.in_default.ensures.long);
      front = front_stays c.args.done i old new c.args.bytes.now.items (omega arith) so_far.long c.in_default.ensures.front so_far.front;
      blocks = λ tells. blocks_more image at i old new so_far.long c.in_default.ensures.long c.in_default.ensures.front (so_far.blocks tells)
          (subst (λ (s : State). slice_get s.contents (at + i) ≡ Some (record { bytes = drop (length old) new })) (so_far.same tells) (c.in_default.ensures.block tells));
      reads = omega (arith, c.in_default.ensures.reads, so_far.reads);
      same = λ tells. c.in_default.ensures.same tells ∙ so_far.same tells;
      moments = λ tells. adds_read (so_far.moments tells) (so_far.same tells) (c.in_default.ensures.moments tells);
      fixed = c.in_default.ensures.fixed ∙ so_far.fixed;
      faults = c.in_default.ensures.cause ∙ so_far.faults;
    }
