use Rattle.std.proofs.Common.{ap, subst, arith}
use Rattle.vol_numbers.specs.Layout.{log_start}
use Rattle.block_format.specs.declared.root.RootBody.{RootBody}
use Rattle.block_format.specs.Root.{root_of}
use Rattle.op_log.specs.Log.{IsFirstBad}
use Rattle.op_log.proofs.LogLemmas.{none_behind_bad}
use Rattle.log_check.proofs.reading.read_before.Goals as goal

pub returns-in-Err-BadRecord-clause-found : goal.returns-in-Err-BadRecord-clause-found
returns-in-Err-BadRecord-clause-found g c tells =
    let again = rw c.in-Err-BadRecord.field-0-is at c.in-Err-BadRecord.ensures in
    let first = c.requires.first_bad tells in
    let sooner = subst (λ (b : RootBody). IsFirstBad (g.D.Disk.state c.args.disk.now).contents (log_start (root_of b).layout) b.log_used c.in-Err-BadRecord.i) c.shorter.ensures.is (again.bad_record tells) in
    let at_most = none_behind_bad _ _ _ _ _ sooner first.good in
    absurd (omega (arith, at_most, first.count, again.bad_number, ap (λ (b : RootBody). b.records) c.shorter.ensures.is))

pub returns-in-Ok-clause-reads : goal.returns-in-Ok-clause-reads
returns-in-Ok-clause-reads g c = omega (arith, c.in-Ok.ensures.reads, c.in-Ok.ensures.within, ap (λ (b : RootBody). b.log_used) c.shorter.ensures.is)

pub returns-in-Err-BadRecord-clause-reads_found : goal.returns-in-Err-BadRecord-clause-reads_found
returns-in-Err-BadRecord-clause-reads_found g c =
    let again = rw c.in-Err-BadRecord.field-0-is at c.in-Err-BadRecord.ensures in
    omega (arith, again.reads_bad, ap (λ (b : RootBody). b.log_used) c.shorter.ensures.is)
