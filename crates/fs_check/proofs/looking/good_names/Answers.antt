use Rattle.std.proofs.Common.{◌≡◌, ◌∙◌, None, sym, subst}
use Rattle.vol_numbers.specs.Geometry.{layout_of}
use Rattle.disk_model.specs.Disk.{State}
use Rattle.block_tree.specs.Tree.{blocks_in}
use Rattle.image_model.specs.Findings.{mixed_finding}
use Rattle.image_model.specs.Nodes.{tail_finding, directory_finding, tree_finding}
use Rattle.image_model.specs.Seen.{Seen}
use Rattle.name_check.specs.Seeing.{HoldsDirectories}
use Rattle.fs_check.specs.Left.{IsSeen}
use Rattle.fs_check.specs.Phases.{FindsBy}
use Rattle.fs_check.proofs.CauseLaws.{cause_err, cause_then}
use Rattle.fs_check.proofs.PhaseLaws.{phase_err, first_by, later_by, none_two}
use Rattle.fs_check.proofs.looking.good_names.Goals as goal

pub returns-in_err-unmixed-clause-found : goal.returns-in_err-unmixed-clause-found
returns-in_err-unmixed-clause-found g c tells s sees =
    let fault = c.in_err-unmixed.field-0.0 in
    phase_err _ _ fault c.from_residual.ensures.1 (first_by (mixed_finding s.met 0 (layout_of c.args.g.now).blocks) _ fault (c.in_err-unmixed.ensures.found s.met sees.marks))

pub returns-in_err-clean_tails-clause-found : goal.returns-in_err-clean_tails-clause-found
returns-in_err-clean_tails-clause-found g c tells s sees =
    let fault = c.in_err-clean_tails.field-0.0 in
    phase_err _ _ fault c.from_residual-in_err-clean_tails.ensures.1
    (later_by (mixed_finding s.met 0 (layout_of c.args.g.now).blocks) _ fault (c.in_ok-unmixed.ensures.found s.met sees.marks)
    (first_by (tail_finding s) _ fault (c.in_err-clean_tails.ensures.found tells s sees)))

pub returns-in_err-held-clause-found : goal.returns-in_err-held-clause-found
returns-in_err-held-clause-found g c tells s sees =
    let fault = c.in_err-held.field-0.0 in
    let w = c.args.walked.now in
    phase_err _ _ fault c.from_residual-in_err-held.ensures.1
    (later_by (mixed_finding s.met 0 (layout_of c.args.g.now).blocks) _ fault (c.in_ok-unmixed.ensures.found s.met sees.marks)
    (later_by (tail_finding s) _ fault (c.in_ok-clean_tails.ensures.found tells s sees)
    (first_by (directory_finding s) _ fault
    ((subst (λ (st : State). (s : Seen) → IsSeen (blocks_in st.contents) w s → FindsBy (directory_finding s) fault) (c.in_ok-clean_tails.ensures.same tells) (c.in_err-held.ensures.found tells)) s sees))))

pub returns-in_err-one_tree-clause-found : goal.returns-in_err-one_tree-clause-found
returns-in_err-one_tree-clause-found g c tells s sees =
    let fault = c.in_err-one_tree.field-0.0 in
    let w = c.args.walked.now in
    let same = c.in_ok-clean_tails.ensures.same tells in
    phase_err _ _ fault c.from_residual-in_err-one_tree.ensures.1
    (later_by (mixed_finding s.met 0 (layout_of c.args.g.now).blocks) _ fault (c.in_ok-unmixed.ensures.found s.met sees.marks)
    (later_by (tail_finding s) _ fault (c.in_ok-clean_tails.ensures.found tells s sees)
    (later_by (directory_finding s) (tree_finding s) fault
    ((subst (λ (st : State). (s : Seen) → IsSeen (blocks_in st.contents) w s → directory_finding s ≡ None) same (c.in_ok-held.ensures.found tells)) s sees)
    (c.in_err-one_tree.ensures.found s (sees.nodes ∙ sym c.as_slice.ensures)
    ((subst (λ (st : State). (s : Seen) → IsSeen (blocks_in st.contents) w s → HoldsDirectories s c.in_ok-held.held) same (c.in_ok-held.ensures.holds tells)) s sees)))))

pub returns-clause-found : goal.returns-clause-found
returns-clause-found g c tells s sees =
    let w = c.args.walked.now in
    let same = c.in_ok-clean_tails.ensures.same tells in
    none_two (mixed_finding s.met 0 (layout_of c.args.g.now).blocks) _ (c.in_ok-unmixed.ensures.found s.met sees.marks)
    (none_two (tail_finding s) _ (c.in_ok-clean_tails.ensures.found tells s sees)
    (none_two (directory_finding s) (tree_finding s)
    ((subst (λ (st : State). (s : Seen) → IsSeen (blocks_in st.contents) w s → directory_finding s ≡ None) same (c.in_ok-held.ensures.found tells)) s sees)
    (c.in_ok-one_tree.ensures.found s (sees.nodes ∙ sym c.as_slice.ensures)
    ((subst (λ (st : State). (s : Seen) → IsSeen (blocks_in st.contents) w s → HoldsDirectories s c.in_ok-held.held) same (c.in_ok-held.ensures.holds tells)) s sees))))

pub returns-clause-holds : goal.returns-clause-holds
returns-clause-holds g c tells s sees =
    let w = c.args.walked.now in
    (subst (λ (st : State). (s : Seen) → IsSeen (blocks_in st.contents) w s → HoldsDirectories s c.in_ok-held.held) (c.in_ok-clean_tails.ensures.same tells) (c.in_ok-held.ensures.holds tells)) s sees

pub returns-in_err-unmixed-clause-cause : goal.returns-in_err-unmixed-clause-cause
returns-in_err-unmixed-clause-cause g c = let count = g.D.Disk.faults c.args.disk.now in cause_err count count _ c.in_err-unmixed.field-0.0 c.from_residual.ensures.1 (c.in_err-unmixed.ensures.cause count)

pub returns-in_err-one_tree-clause-cause : goal.returns-in_err-one_tree-clause-cause
returns-in_err-one_tree-clause-cause g c =
    let fault = c.in_err-one_tree.field-0.0 in
    let now = g.D.Disk.faults c.good_directories.new.disk in
    cause_err _ now _ fault c.from_residual-in_err-one_tree.ensures.1
    (cause_then _ now now fault (c.in_ok-held.ensures.cause ∙ c.in_ok-clean_tails.ensures.cause) (c.in_err-one_tree.ensures.cause now))
