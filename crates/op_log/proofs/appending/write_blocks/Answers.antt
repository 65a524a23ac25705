use Rattle.std.proofs.Common.{◌∙◌, ◌<◌, ◌+◌, ◌++◌, ℕ, List, length, sym, ap, subst, arith}
use Rattle.std.specs.Prelude.{Result, Ok, Err, OnErr}
use Rattle.disk_model.specs.Disk.{State}
use Rattle.disk_model.specs.Media.{Fixed}
use Rattle.disk_model.proofs.Moments.{adds_then, torn_unsynced}
use Rattle.op_log.specs.Append.{ChangesWithin}
use Rattle.op_log.proofs.ChangeLemmas.{changes_write, stand_more, joined_more}
use Rattle.op_log.proofs.appending.write_blocks.Goals as goal

on_err : {T E P : Type 0} (r : Result T E) → P → OnErr r P
on_err (Ok x) p = tt
on_err (Err e) p = p

pub returns-in_err-write_block-clause-changes : goal.returns-in_err-write_block-clause-changes
returns-in_err-write_block-clause-changes g c tells =
    let s : State = g.D.Disk.state c.args.disk.now in
    let m : State = g.D.Disk.state c.loop-i.disk in
    let torn = c.in_err-write_block.ensures.torn tells in
    subst (ChangesWithin c.args.first c.args.count s) (sym torn.is)
    (changes_write c.args.first c.args.count s m (c.args.first + c.loop-i.i) torn.block (c.loop-i.invariant.changes tells) (omega arith) (omega (arith, c.loop-i-test.true)))

pub returns-in_err-write_block-clause-during : goal.returns-in_err-write_block-clause-during
returns-in_err-write_block-clause-during g c tells =
    let s : State = g.D.Disk.state c.args.disk.now in
    let m : State = g.D.Disk.state c.loop-i.disk in
    adds_then (c.loop-i.invariant.during tells) c.write_block.ensures.moments (λ r during. subst (ChangesWithin c.args.first c.args.count s) (sym during.is)
    (changes_write c.args.first c.args.count s m (c.args.first + c.loop-i.i) during.block (c.loop-i.invariant.changes tells) (omega arith) (omega (arith, c.loop-i-test.true))))

pub returns-in_err-write_block-clause-unsynced : goal.returns-in_err-write_block-clause-unsynced
returns-in_err-write_block-clause-unsynced g c = on_err c.from_residual.result (λ tells. torn_unsynced (c.in_err-write_block.ensures.torn tells))

pub loop-i-preserved : goal.loop-i-preserved
loop-i-preserved g c =
    let s : State = g.D.Disk.state c.args.disk.now in
    let m : State = g.D.Disk.state c.loop-i.disk in
    let first : ℕ = c.args.first in
    let i : ℕ = c.loop-i.i in
    let so_far = c.loop-i.invariant in
    let text : List ℕ = c.args.spelling.now.head.items ++ c.args.spelling.now.payload.now in
    record {
      stand = λ tells.
          let room : first + i < length m.contents = omega (arith, g.met.D.Disk.has_size c.loop-i.disk tells, ap (λ (f : Fixed). f.size) so_far.fixed, c.requires.room, c.loop-i-test.true) in
          stand_more m (g.D.Disk.state c.write_block.new.self) first i c.block.result text room (c.in_ok-write_block.ensures.written tells) c.block.ensures (so_far.stand tells);
      joined = λ tells. joined_more m (g.D.Disk.state c.write_block.new.self) first i c.block.result (c.in_ok-write_block.ensures.written tells) (so_far.joined tells);
      changes = λ tells. subst (ChangesWithin first c.args.count s) (sym (c.in_ok-write_block.ensures.written tells))
          (changes_write first c.args.count s m (first + i) c.block.result (so_far.changes tells) (omega arith) (omega (arith, c.loop-i-test.true)));
      during = λ tells. adds_then (so_far.during tells) c.write_block.ensures.moments (λ r during. subst (ChangesWithin first c.args.count s) (sym during.is)
          (changes_write first c.args.count s m (first + i) during.block (so_far.changes tells) (omega arith) (omega (arith, c.loop-i-test.true))));
      fixed = c.in_ok-write_block.ensures.fixed ∙ so_far.fixed;
      given = c.in_ok-write_block.ensures.given ∙ so_far.given;
      faults = c.in_ok-write_block.ensures.cause ∙ so_far.faults;
    }
