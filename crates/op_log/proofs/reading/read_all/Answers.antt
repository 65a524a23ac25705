use Rattle.std.proofs.Common.{◌≡◌, ◌∙◌, ◌+◌, ◌-◌, ◌≤◌, ℕ, List, [], ◌∷◌, ◌++◌, length, sym, ap, subst, arith}
use Rattle.std.specs.Prelude.{All}
use Rattle.std.proofs.lemmas.List.{length_push}
use Rattle.std.proofs.lemmas.List.Elements.{All-push}
use Rattle.vol_numbers.specs.declared.block.Block.{Block}
use Rattle.vol_numbers.specs.Layout.{log_start}
use Rattle.disk_model.specs.Disk.{State}
use Rattle.block_format.specs.Root.{root_of}
use Rattle.tree_model.specs.declared.command.Command.{Command}
use Rattle.op_log.specs.Log.{HoldsRecords, RecordStands, blocks_of}
use Rattle.op_log.specs.Reading.{NoRecordStands}
use Rattle.op_log.specs.Record.{HasRecord, record_blocks}
use Rattle.op_log.proofs.LogLemmas.{blocks_of-push, first_bad, holds-push}
use Rattle.disk_model.proofs.Moments.{adds_read}
use Rattle.op_log.proofs.reading.read_all.Goals as goal

pub returns-in-Ok-None-clause-bad_record : goal.returns-in-Ok-None-clause-bad_record
returns-in-Ok-None-clause-bad_record g c = λ tells.
    let so_far = c.loop-i.invariant in
    let next = rw c.in-Ok-None.field-0-is at c.in-Ok-None.ensures in
    let image : List Block = (g.D.Disk.state c.args.disk.now).contents in
    let commands : List Command = c.loop-i.commands.items in
    let first : ℕ = log_start (root_of c.args.body.now).layout in
    let log_used : ℕ = c.args.body.now.log_used in
    let at : c.log_start-first.result + c.loop-i.used ≡ first + blocks_of commands = omega (arith, c.log_start-first.ensures, so_far.used) in
    let left : log_used - c.loop-i.used ≡ log_used - blocks_of commands = ap (λ (n : ℕ). log_used - n) so_far.used in
    let none : NoRecordStands image (c.log_start-first.result + c.loop-i.used) (log_used - c.loop-i.used) =
    subst (λ (s : State). NoRecordStands s.contents (c.log_start-first.result + c.loop-i.used) (log_used - c.loop-i.used)) (so_far.same tells) (next.none tells) in
    first_bad image first log_used c.loop-i.i commands so_far.count (so_far.holds tells)
    (subst (λ (n : ℕ). NoRecordStands image n (log_used - blocks_of commands)) at (subst (NoRecordStands image (c.log_start-first.result + c.loop-i.used)) left none))

pub loop-i-preserved : goal.loop-i-preserved
loop-i-preserved g c =
    let so_far = c.loop-i.invariant in
    let next = rw c.in-Ok-Some.field-0-is at c.in-Ok-Some.ensures in
    let one = next.gained in
    let image : List Block = (g.D.Disk.state c.args.disk.now).contents in
    let commands : List Command = c.loop-i.commands.items in
    let command : Command = one.command in
    let first : ℕ = log_start (root_of c.args.body.now).layout in
    let log_used : ℕ = c.args.body.now.log_used in
    let at : c.log_start-first.result + c.loop-i.used ≡ first + blocks_of commands = omega (arith, c.log_start-first.ensures, so_far.used) in
    let longer : c.push_next.new.commands.items ≡ commands ++ command ∷ [] = one.gained in
    let room : blocks_of commands + record_blocks command ≤ log_used = omega (arith, one.counted, one.within, so_far.used, so_far.within) in
    let taken : blocks_of c.push_next.new.commands.items ≡ blocks_of commands + record_blocks command = ap blocks_of longer ∙ blocks_of-push commands command in
    record {
      holds = λ tells.
          let stands : RecordStands image (first + blocks_of commands) command =
          subst (λ (n : ℕ). RecordStands image n command) at (subst (λ (s : State). RecordStands s.contents (c.log_start-first.result + c.loop-i.used) command) (so_far.same tells) (one.stands tells)) in
          subst (HoldsRecords image first log_used) (sym longer) (holds-push image first log_used commands command (so_far.holds tells) one.has_record stands room);
      count = ap length longer ∙ length_push commands command ∙ ap (λ (n : ℕ). n + 1) so_far.count;
      have_records = subst (All HasRecord) (sym longer) (All-push HasRecord commands command so_far.have_records one.has_record);
      within = omega (arith, taken, room);
      used = omega (arith, taken, so_far.used, one.counted);
      reads = omega (arith, next.reads, so_far.reads);
      same = λ tells. next.same tells ∙ so_far.same tells;
      moments = λ tells. adds_read (so_far.moments tells) (so_far.same tells) (next.moments tells);
      fixed = next.fixed ∙ so_far.fixed;
      faults = next.cause ∙ so_far.faults;
    }
