use Rattle.std.proofs.Common.{sym, ap, ◌∙◌}
use Rattle.block_format.specs.Root.{root_of}
use Rattle.count_check.specs.declared.comparing.Counted.{Counted}
use Rattle.image_model.specs.Findings.{free_in, reserve_finding}
use Rattle.image_model.specs.Seen.{seen}
use Rattle.fs_check.specs.Faults.{of_counts}
use Rattle.fs_check.specs.declared.fault.CheckFault.TheVariants.{Found}
use Rattle.fs_check.proofs.CauseLaws.{cause_err, count_cause}
use Rattle.fs_check.proofs.PhaseLaws.{phase_err, first_by, later_by, none_two, counts_by, kept_is}
use Rattle.fs_check.proofs.counting.good_counts.Goals as goal

pub returns-in_err-counted-clause-found : goal.returns-in_err-counted-clause-found
returns-in_err-counted-clause-found g c tells says =
    let image = (g.D.Disk.state c.args.disk.now).contents in
    let body = c.args.body.now in
    let fault = c.in_err-counted.field-0.0 in
    phase_err _ _ (of_counts fault) c.from_residual.ensures.1
    (first_by _ (reserve_finding (root_of body).layout (seen image).kept) (of_counts fault)
    (counts_by Counted (root_of body).layout (seen image) fault (c.in_err-counted.ensures.found tells (seen image) says (kept_is image body (c.requires.root tells)))))

pub returns-in_err-counted-clause-cause : goal.returns-in_err-counted-clause-cause
returns-in_err-counted-clause-cause g c =
    let fault = c.in_err-counted.field-0.0 in
    cause_err _ _ _ (of_counts fault) c.from_residual.ensures.1 (count_cause Counted _ _ fault c.in_err-counted.ensures.cause)

pub returns-in-None-clause-kept : goal.returns-in-None-clause-kept
returns-in-None-clause-kept g c tells = c.in_ok-counted.ensures.kept tells ∙ sym (kept_is (g.D.Disk.state c.args.disk.now).contents c.args.body.now (c.requires.root tells))

pub returns-in-None-clause-found : goal.returns-in-None-clause-found
returns-in-None-clause-found g c tells says =
    let image = (g.D.Disk.state c.args.disk.now).contents in
    let body = c.args.body.now in
    let lay = (root_of body).layout in
    let kept = kept_is image body (c.requires.root tells) in
    let same = c.in_ok-counted.ensures.kept tells ∙ sym kept in
    none_two _ (reserve_finding lay (seen image).kept) (c.in_ok-counted.ensures.found tells (seen image) says kept)
    (sym (c.reserve.ensures lay (seen image).kept (c.in_ok-counted.ensures.free ∙ ap (free_in lay) same)) ∙ c.in-None.is)

pub returns-in-Some-clause-found : goal.returns-in-Some-clause-found
returns-in-Some-clause-found g c tells says =
    let image = (g.D.Disk.state c.args.disk.now).contents in
    let body = c.args.body.now in
    let lay = (root_of body).layout in
    let kept = kept_is image body (c.requires.root tells) in
    let same = c.in_ok-counted.ensures.kept tells ∙ sym kept in
    later_by _ (reserve_finding lay (seen image).kept) (Found c.in-Some.finding) (c.in_ok-counted.ensures.found tells (seen image) says kept)
    (sym (c.reserve.ensures lay (seen image).kept (c.in_ok-counted.ensures.free ∙ ap (free_in lay) same)) ∙ c.in-Some.is)
