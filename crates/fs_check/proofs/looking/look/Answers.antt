use Rattle.std.proofs.Common.{◌≡◌, ◌∙◌, List, None, length, ap, subst, arith}
use Rattle.block_format.specs.Root.{root_of}
use Rattle.block_tree.specs.Tree.{blocks_in}
use Rattle.disk_model.specs.Disk.{State}
use Rattle.image_model.specs.Seen.{seen}
use Rattle.fs_check.specs.Left.{IsSeen}
use Rattle.fs_check.specs.Phases.{FindsBy, rest_finding}
use Rattle.fs_check.proofs.PhaseLaws.{phase_err, in_walk, in_rest, in_none, met_is}
use Rattle.image_walk.specs.Reads.{file_count, metadata_count}
use Rattle.std.proofs.lemmas.List.{length-map}
use Rattle.image_model.specs.Seen.{SeenBlock}
use Rattle.image_walk.specs.Blocks.{block_held}
use Rattle.fs_check.proofs.looking.look.Goals as goal

pub returns-in_err-walked-clause-found : goal.returns-in_err-walked-clause-found
returns-in_err-walked-clause-found g c tells =
    let s = seen (g.D.Disk.state c.args.disk.now).contents in
    let fault = c.in_err-walked.field-0.0 in
    phase_err _ _ fault c.from_residual.ensures.1 (in_walk (root_of c.args.body.now).layout s fault (c.in_err-walked.ensures.found tells))

pub returns-in_err-directories-clause-found : goal.returns-in_err-directories-clause-found
returns-in_err-directories-clause-found g c tells =
    let lay = (root_of c.args.body.now).layout in
    let s = seen (g.D.Disk.state c.args.disk.now).contents in
    let w = c.in_ok-walked.walked in
    let fault = c.in_err-directories.field-0.0 in
    phase_err _ _ fault c.from_residual-in_err-directories.ensures.1
    (in_rest lay s fault (c.in_ok-walked.ensures.found tells)
    ((subst (λ (st : State). IsSeen (blocks_in st.contents) w (seen st.contents) → FindsBy (rest_finding lay (seen st.contents)) fault) (c.in_ok-walked.ensures.same tells) (c.in_err-directories.ensures.found tells)) (c.in_ok-walked.ensures.seen tells)))

pub returns-clause-found : goal.returns-clause-found
returns-clause-found g c tells =
    let lay = (root_of c.args.body.now).layout in
    let s = seen (g.D.Disk.state c.args.disk.now).contents in
    let w = c.in_ok-walked.walked in
    in_none lay s (c.in_ok-walked.ensures.found tells)
    ((subst (λ (st : State). IsSeen (blocks_in st.contents) w (seen st.contents) → rest_finding lay (seen st.contents) ≡ None) (c.in_ok-walked.ensures.same tells) (c.in_ok-directories.ensures.found tells)) (c.in_ok-walked.ensures.seen tells))

pub returns-clause-reads : goal.returns-clause-reads
returns-clause-reads g c tells =
    let read = blocks_in (g.D.Disk.state c.args.disk.now).contents in
    let w = c.in_ok-walked.walked in
    let sees = c.in_ok-walked.ensures.seen tells in
    let met = ap metadata_count (met_is (g.D.Disk.state c.args.disk.now).contents c.args.body.now (c.requires.root tells)) in
    let files = ap file_count sees.nodes in
    let pages = ap (λ (blocks : List SeenBlock). length blocks) sees.pages ∙ length-map w.pages (block_held read) in
    omega (arith, met, files, pages, c.in_ok-walked.ensures.reads tells, c.in_ok-directories.ensures.reads)
