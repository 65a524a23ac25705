use Rattle.std.proofs.Common.{◌≤◌, ◌+◌, ◌*◌, arith}
use Rattle.std.specs.Prelude.{IfNone}
use Rattle.std.proofs.lemmas.Result.{IfOk-weaker}
use Rattle.log_check.specs.declared.reading.Front.{Front}
use Rattle.log_check.proofs.ResultLemmas.{found_map, some_not_none}
use Rattle.log_check.proofs.reading.read_front.Goals as goal

pub returns-in-Ok-clause-reads : goal.returns-in-Ok-clause-reads
returns-in-Ok-clause-reads g c = omega (arith, c.in-Ok.ensures.reads, c.in-Ok.ensures.within)

pub returns-in-Ok-clause-reads_again : goal.returns-in-Ok-clause-reads_again
returns-in-Ok-clause-reads_again g c = omega (arith, c.in-Ok.ensures.reads, c.in-Ok.ensures.within)

pub returns-in-Err-BadRecord-clause-reads : goal.returns-in-Err-BadRecord-clause-reads
returns-in-Err-BadRecord-clause-reads g c =
    IfOk-weaker c.read_before.result _ (λ (front : Front). IfNone front.bad _) (λ front is. some_not_none front.bad _ _ is) c.read_before.ensures.bad

pub returns-in-Err-BadRecord-clause-reads_again : goal.returns-in-Err-BadRecord-clause-reads_again
returns-in-Err-BadRecord-clause-reads_again g c =
    let first = rw c.in-Err-BadRecord.field-0-is at c.in-Err-BadRecord.ensures in
    IfOk-weaker c.read_before.result _ (λ (front : Front). (g.D.Disk.given c.read_before.new.disk).count ≤ (g.D.Disk.given c.args.disk.now).count + 2 * c.args.body.now.log_used)
    (λ front few. omega (arith, few, first.reads_bad)) c.read_before.ensures.reads

pub returns-in-Err-BadRecord-clause-reads_found : goal.returns-in-Err-BadRecord-clause-reads_found
returns-in-Err-BadRecord-clause-reads_found g c =
    let first = rw c.in-Err-BadRecord.field-0-is at c.in-Err-BadRecord.ensures in
    found_map c.read_before.result _ (λ _. (g.D.Disk.given c.read_before.new.disk).count ≤ (g.D.Disk.given c.args.disk.now).count + 2 * c.args.body.now.log_used)
    (λ i few. omega (arith, few, first.reads_bad)) c.read_before.ensures.reads_found
