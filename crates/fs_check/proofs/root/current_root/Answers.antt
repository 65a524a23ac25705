use Rattle.root_switch.specs.declared.reading.Current.{Current}
use Rattle.root_switch.specs.declared.reading.RootFault.{RootFault}
use Rattle.fs_check.specs.Faults.{of_root}
use Rattle.fs_check.proofs.CauseLaws.{cause_err, root_cause, is_err, err_is}
use Rattle.fs_check.proofs.PhaseLaws.{phase_err, root_by, root_none}
use Rattle.fs_check.proofs.root.current_root.Goals as goal

pub returns-in_err-current-clause-found : goal.returns-in_err-current-clause-found
returns-in_err-current-clause-found g c tells =
    let image = (g.D.Disk.state c.args.disk.now).contents in
    let fault = c.in_err-current.field-0.0 in
    phase_err _ _ (of_root fault) c.from_residual.ensures.1 (root_by image fault (λ e. c.in_err-current.ensures.no_root (is_err Current RootFault _ _ e) tells) (λ e. c.in_err-current.ensures.bad_geometry (is_err Current RootFault _ _ e) tells))

pub returns-in_err-current-clause-cause : goal.returns-in_err-current-clause-cause
returns-in_err-current-clause-cause g c =
    let fault = c.in_err-current.field-0.0 in
    cause_err _ _ _ (of_root fault) c.from_residual.ensures.1 (root_cause _ _ fault (λ e. c.in_err-current.ensures.device (is_err Current RootFault _ _ e)) (λ other. c.in_err-current.ensures.kept (λ e. other (err_is Current RootFault _ _ e))))

pub returns-clause-found : goal.returns-clause-found
returns-clause-found g c tells = let root = c.in_ok-current.ensures.root tells in root_none _ root.0 root.1
