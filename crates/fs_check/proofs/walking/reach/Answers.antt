use Rattle.std.proofs.Common.{◌≡◌, [], List, None, refl, sym, subst}
use Rattle.block_format.specs.Root.{root_of}
use Rattle.block_tree.specs.Tree.{blocks_in}
use Rattle.image_model.specs.Findings.{walk_finding}
use Rattle.image_model.specs.Met.{Met}
use Rattle.image_model.specs.Walk.{walk}
use Rattle.image_walk.specs.declared.walked.Walked.{Walked}
use Rattle.fs_check.specs.Faults.{of_walk}
use Rattle.fs_check.specs.Phases.{FindsBy}
use Rattle.fs_check.proofs.CauseLaws.{cause_err, walk_cause}
use Rattle.fs_check.proofs.PhaseLaws.{phase_err, walk_by, met_is, is_seen}
use Rattle.fs_check.proofs.walking.reach.Goals as goal

pub returns-in_err-walked-clause-found : goal.returns-in_err-walked-clause-found
returns-in_err-walked-clause-found g c tells =
    let image = (g.D.Disk.state c.args.disk.now).contents in
    let body = c.args.body.now in
    let lay = (root_of body).layout in
    let fault = c.in_err-walked.field-0.0 in
    phase_err _ _ (of_walk fault) c.from_residual.ensures.1
    (subst (λ (ms : List Met). FindsBy (walk_finding lay [] ms) (of_walk fault)) (sym (met_is image body (c.requires.root tells)))
    (walk_by Walked lay (walk (blocks_in image) body.inode_index) fault (c.in_err-walked.ensures.found tells)))

pub returns-in_err-walked-clause-cause : goal.returns-in_err-walked-clause-cause
returns-in_err-walked-clause-cause g c =
    let fault = c.in_err-walked.field-0.0 in
    cause_err _ _ _ (of_walk fault) c.from_residual.ensures.1 (walk_cause Walked _ _ fault c.in_err-walked.ensures.cause)

pub returns-clause-found : goal.returns-clause-found
returns-clause-found g c tells =
    let image = (g.D.Disk.state c.args.disk.now).contents in
    let body = c.args.body.now in
    subst (λ (ms : List Met). walk_finding (root_of body).layout [] ms ≡ None) (sym (met_is image body (c.requires.root tells))) (c.in_ok-walked.ensures.found tells)

pub returns-clause-seen : goal.returns-clause-seen
returns-clause-seen g c tells =
    let w = c.in_ok-walked.ensures in
    is_seen (g.D.Disk.state c.args.disk.now).contents c.args.body.now (c.requires.root tells) c.in_ok-walked.walked (w.nodes tells) (w.marks tells) (w.pages tells) (w.owners refl tells) (w.ends tells)

pub returns-clause-left : goal.returns-clause-left
returns-clause-left g c =
    let w = c.in_ok-walked.ensures in
    record {
      numbers = w.numbers;
      within = w.within;
      widths = w.widths;
      root = w.root;
      page_order = w.order.0;
      last_order = w.order.1;
      pages = w.on_disk.0;
      lasts = w.on_disk.1;
    }
