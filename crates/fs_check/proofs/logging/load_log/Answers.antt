use Rattle.std.proofs.Common.{List, ℕ, sym, subst}
use Rattle.block_format.specs.declared.inode.Inode.{Inode}
use Rattle.fs_check.specs.Checked.{IsEarly, StandsWith}
use Rattle.fs_check.specs.declared.fault.CheckFault.TheVariants.{OutOfMemory}
use Rattle.fs_check.proofs.LogLaws.{verdict_err}
use Rattle.fs_check.proofs.logging.load_log.Goals as goal

pub returns-in_err-records-clause-verdict : goal.returns-in_err-records-clause-verdict
returns-in_err-records-clause-verdict g c tells early =
    let image = (g.D.Disk.state c.args.disk.now).contents in
    let l = c.args.looked.now in
    verdict_err image _ _ c.in_err-records.field-0.0 c.from_residual.ensures.1
    (c.in_err-records.ensures.verdict tells (subst (λ (ns : List (ℕ × Inode)). IsEarly image ns l.directories l.free) (sym c.as_slice-nodes.ensures) early))

pub returns-in_err-table-clause-verdict : goal.returns-in_err-table-clause-verdict
returns-in_err-table-clause-verdict g c tells early = verdict_err _ _ _ OutOfMemory c.from_residual-in_err-table.ensures.1 tt

pub returns-clause-verdict : goal.returns-clause-verdict
returns-clause-verdict g c tells early =
    let image = (g.D.Disk.state c.args.disk.now).contents in
    let l = c.args.looked.now in
    let nodes_are = c.as_slice-nodes.ensures in
    let stands = c.in_ok-records.ensures.verdict tells (subst (λ (ns : List (ℕ × Inode)). IsEarly image ns l.directories l.free) (sym nodes_are) early) in
    subst (λ (ns : List (ℕ × Inode)). StandsWith image ns l.directories l.free c.in_ok-records.records) nodes_are stands
