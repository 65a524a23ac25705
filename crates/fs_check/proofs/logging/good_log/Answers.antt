use Rattle.std.proofs.Common.{List, ℕ}
use Rattle.std.specs.Prelude.{IsTrue}
use Rattle.tree_model.specs.declared.command.Command.{Command}
use Rattle.volume_model.specs.Machine.{Stored}
use Rattle.image_model.specs.Finds.{IsBadLog}
use Rattle.log_check.specs.Accepting.{IsShown}
use Rattle.fs_check.specs.Faults.{of_log}
use Rattle.fs_check.specs.declared.fault.CheckFault.TheVariants.{OutOfMemory}
use Rattle.fs_check.proofs.CauseLaws.{cause_err, log_cause}
use Rattle.fs_check.proofs.LogLaws.{verdict_err, stands_with, log_fault, found_at, are_accepted}
use Rattle.fs_check.proofs.logging.good_log.Goals as goal

pub returns-in_err-table-clause-verdict : goal.returns-in_err-table-clause-verdict
returns-in_err-table-clause-verdict g c tells early = verdict_err _ _ _ OutOfMemory c.from_residual.ensures.1 tt

pub returns-in_err-records-clause-verdict : goal.returns-in_err-records-clause-verdict
returns-in_err-records-clause-verdict g c tells early =
    let image = (g.D.Disk.state c.args.disk.now).contents in
    let fault = c.in_err-records.field-0.0 in
    let table = c.in_ok-table.table in
    let bad : ℕ → Type 0 = λ i. IsTrue g.D.Disk.tells → (s : Stored) → IsShown image table c.args.free s → IsBadLog image i in
    verdict_err image _ _ (of_log fault) c.from_residual-in_err-records.ensures.1
    (log_fault image c.args.nodes.now c.args.directories.now c.args.free early table fault c.in_ok-table.ensures.trees (λ i same. found_at (List Command) fault bad c.in_err-records.ensures.found i same tells))

pub returns-in_err-records-clause-cause : goal.returns-in_err-records-clause-cause
returns-in_err-records-clause-cause g c =
    let fault = c.in_err-records.field-0.0 in
    cause_err _ _ _ (of_log fault) c.from_residual-in_err-records.ensures.1 (log_cause (List Command) _ _ fault c.in_err-records.ensures.cause)

pub returns-clause-verdict : goal.returns-clause-verdict
returns-clause-verdict g c tells early =
    stands_with (g.D.Disk.state c.args.disk.now).contents c.args.nodes.now c.args.directories.now c.args.free early c.in_ok-table.table c.in_ok-records.records c.in_ok-table.ensures.trees (c.in_ok-records.ensures.logs tells)

pub returns-clause-accepted : goal.returns-clause-accepted
returns-clause-accepted g c =
    are_accepted c.args.nodes.now c.args.directories.now c.args.free c.in_ok-records.records c.in_ok-table.table c.check_log.new.nodes c.in_ok-table.ensures.nodes c.in_ok-records.ensures.takes
