use Rattle.std.proofs.Common.{◌≡◌, ◌∙◌, ap, subst, arith, length}
use Rattle.std.proofs.lemmas.List.{length-append}
use Rattle.disk_model.specs.Disk.{State}
use Rattle.disk_model.proofs.Moments.{adds_read}
use Rattle.count_pairs.specs.Homes.{blocks_in, home_of}
use Rattle.block_format.specs.Words.{words}
use Rattle.count_pairs.proofs.CountLaws.{stand_more, given_more}
use Rattle.count_pairs.proofs.loading.read_table.Goals as goal

pub loop-i-preserved : goal.loop-i-preserved
loop-i-preserved g c =
    let inv = c.loop-i.invariant in
    let block = c.in_ok-block.block in
    let full : length block ≡ 1024 = omega arith in
    record {
      stand = λ tells. rw c.in_ok-extend_from_slice.ensures.items
          (stand_more (blocks_in (g.D.Disk.state c.args.disk.now).contents) c.args.body.now.homes.bytes c.loop-i.counts.items block c.loop-i.i inv.long full
          (subst (λ (s : State). words (blocks_in s.contents (home_of c.args.body.now.homes.bytes c.loop-i.i)) ≡ block) (inv.same tells) (c.in_ok-block.ensures.spelled tells)) (inv.stand tells));
      long = ap length c.in_ok-extend_from_slice.ensures.items ∙ (length-append c.loop-i.counts.items block ∙ omega (arith, inv.long, full));
      given = λ _. rw c.in_ok-extend_from_slice.ensures.items
          (given_more _ c.args.body.now.homes.bytes c.loop-i.counts.items block c.loop-i.i inv.long full c.in_ok-block.ensures.at c.in_ok-block.ensures.given);
      reads = omega (arith, c.in_ok-block.ensures.reads, inv.reads);
      same = λ tells. c.in_ok-block.ensures.same tells ∙ inv.same tells;
      moments = λ tells. adds_read (inv.moments tells) (inv.same tells) c.in_ok-block.ensures.moments;
      fixed = c.in_ok-block.ensures.fixed ∙ inv.fixed;
      faults = c.in_ok-block.ensures.cause ∙ inv.faults;
    }
