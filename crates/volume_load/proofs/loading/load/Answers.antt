use Rattle.std.proofs.Common.{subst}
use Rattle.disk_model.specs.Disk.{State}
use Rattle.fs_check.specs.Checked.{IsLoaded, IsVerdict}
use Rattle.volume_load.specs.Last.{HoldsLast}
use Rattle.volume_load.proofs.LastLaws.{verdict_err}
use Rattle.volume_load.proofs.loading.load.Goals as goal

pub returns-in_err-examined-clause-verdict : goal.returns-in_err-examined-clause-verdict
returns-in_err-examined-clause-verdict g c tells =
    verdict_err (g.D.Disk.state c.args.disk.now).contents _ _ c.in_err-examined.field-0.0 c.from_residual.ensures.1 (c.in_err-examined.ensures.verdict tells)

pub returns-clause-verdict : goal.returns-clause-verdict
returns-clause-verdict g c tells =
    let e = c.in_ok-examined.examined in
    (subst (λ (st : State). IsLoaded st.contents e → IsVerdict st.contents (HoldsLast st.contents) c.with_inodes.result) (c.in_ok-examined.ensures.same tells) (c.with_inodes.ensures.verdict tells))
    (c.in_ok-examined.ensures.verdict tells)
