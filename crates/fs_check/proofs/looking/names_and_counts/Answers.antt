use Rattle.std.proofs.Common.{◌≡◌, None, subst}
use Rattle.block_format.specs.Root.{root_of}
use Rattle.disk_model.specs.Disk.{State}
use Rattle.image_model.specs.Seen.{seen}
use Rattle.image_walk.specs.Marks.{Says}
use Rattle.fs_check.specs.Phases.{FindsBy, names_finding, counts_finding}
use Rattle.fs_check.proofs.PhaseLaws.{phase_err, first_by, later_by, none_two}
use Rattle.fs_check.proofs.looking.names_and_counts.Goals as goal

pub returns-in_err-directories-clause-found : goal.returns-in_err-directories-clause-found
returns-in_err-directories-clause-found g c tells sees =
    let lay = (root_of c.args.body.now).layout in
    let s = seen (g.D.Disk.state c.args.disk.now).contents in
    let fault = c.in_err-directories.field-0.0 in
    phase_err _ _ fault c.from_residual.ensures.1 (first_by (names_finding lay s) (counts_finding lay s) fault (c.in_err-directories.ensures.found tells s sees))

pub returns-in_err-counted-clause-found : goal.returns-in_err-counted-clause-found
returns-in_err-counted-clause-found g c tells sees =
    let lay = (root_of c.args.body.now).layout in
    let s = seen (g.D.Disk.state c.args.disk.now).contents in
    let marks = c.args.walked.now.marks in
    let fault = c.in_err-counted.field-0.0 in
    phase_err _ _ fault c.from_residual-in_err-counted.ensures.1
    (later_by (names_finding lay s) (counts_finding lay s) fault (c.in_ok-directories.ensures.found tells s sees)
    ((subst (λ (st : State). Says marks (seen st.contents).met → FindsBy (counts_finding lay (seen st.contents)) fault) (c.in_ok-directories.ensures.same tells) (c.in_err-counted.ensures.found tells)) sees.marks))

pub returns-clause-found : goal.returns-clause-found
returns-clause-found g c tells sees =
    let lay = (root_of c.args.body.now).layout in
    let s = seen (g.D.Disk.state c.args.disk.now).contents in
    let marks = c.args.walked.now.marks in
    none_two (names_finding lay s) (counts_finding lay s) (c.in_ok-directories.ensures.found tells s sees)
    ((subst (λ (st : State). Says marks (seen st.contents).met → counts_finding lay (seen st.contents) ≡ None) (c.in_ok-directories.ensures.same tells) (c.in_ok-counted.ensures.found tells)) sees.marks)
