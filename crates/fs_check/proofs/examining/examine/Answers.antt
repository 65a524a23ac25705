use Rattle.std.proofs.Common.{◌≤◌, ◌+◌, IsTrue, ap, subst, arith}
use Rattle.block_format.specs.Root.{Root, root_of}
use Rattle.disk_model.specs.Disk.{State}
use Rattle.image_model.specs.Findings.{body_finding}
use Rattle.image_model.specs.Roots.{root_finding}
use Rattle.image_model.specs.Seen.{seen}
use Rattle.fs_check.specs.Phases.{FindsBy}
use Rattle.fs_check.proofs.LogLaws.{early_fault, verdict_err, in_body}
use Rattle.fs_check.proofs.PhaseLaws.{first_by}
use Rattle.std.proofs.lemmas.Result.{IfOk-weaker}
use Rattle.vol_numbers.specs.Layout.{count_blocks}
use Rattle.fs_check.specs.Reads.{reads_of, reads_behind}
use Rattle.fs_check.specs.declared.examining.Examined.{Examined}
use Rattle.fs_check.proofs.examining.examine.Goals as goal

pub returns-in_err-current-clause-verdict : goal.returns-in_err-current-clause-verdict
returns-in_err-current-clause-verdict g c tells =
    let image = (g.D.Disk.state c.args.disk.now).contents in
    let fault = c.in_err-current.field-0.0 in
    verdict_err image _ _ fault c.from_residual.ensures.1 (early_fault image fault (first_by (root_finding image) _ fault (c.in_err-current.ensures.found tells)))

pub returns-in_err-looked-clause-verdict : goal.returns-in_err-looked-clause-verdict
returns-in_err-looked-clause-verdict g c tells =
    let image = (g.D.Disk.state c.args.disk.now).contents in
    let fault = c.in_err-looked.field-0.0 in
    let lay = (root_of c.in_ok-current.current.body).layout in
    verdict_err image _ _ fault c.from_residual-in_err-looked.ensures.1
    (in_body image lay fault (c.in_ok-current.ensures.found tells) (ap (λ (r : Root). r.layout) (c.in_ok-current.ensures.root tells))
    (subst (λ (st : State). FindsBy (body_finding lay (seen st.contents)) fault) (c.in_ok-current.ensures.same tells) (c.in_err-looked.ensures.found tells)))

pub returns-clause-reads : goal.returns-clause-reads
returns-clause-reads g c =
    let image = (g.D.Disk.state c.args.disk.now).contents in
    IfOk-weaker c.with_log.result _ (λ (e : Examined). IsTrue g.D.Disk.tells → (g.D.Disk.given c.with_log.new.disk).count ≤ (g.D.Disk.given c.args.disk.now).count + reads_of image)
    (λ e few tells.
    let root = c.in_ok-current.ensures.root tells in
    let behind = ap (λ (st : State). reads_behind (seen st.contents)) (c.in_ok-current.ensures.same tells) in
    let counts = ap (λ (r : Root). count_blocks r.layout) root in
    let used = ap (λ (r : Root). r.log_used) root in
    omega (arith, few, behind, counts, used, c.in_ok-current.ensures.reads, c.in_ok-looked.ensures.reads tells))
    c.with_log.ensures.reads
