use Rattle.std.proofs.Common.{◌≡◌, ℕ, List, sym, subst, arith}
use Rattle.std.specs.Prelude.{Err}
use Rattle.tree_model.specs.Tree.{Tree}
use Rattle.tree_model.specs.declared.command.Command.{Command}
use Rattle.log_volume.specs.Mounting.{OnFound, HasMountCause}
use Rattle.log_volume.specs.Replay.{nothing_kept, after, DoesEach}
use Rattle.log_volume.specs.Replaying.{IsRefusal}
use Rattle.log_volume.proofs.ReplayLemmas.{refused_found, first_bad_bad, all_logs}
use Rattle.log_volume.proofs.replaying.read_tree.Goals as goal

pub returns-in-Err-clause-found : goal.returns-in-Err-clause-found
returns-in-Err-clause-found g c =
    refused_found {T = Tree} g.D.Disk.tells (g.D.Disk.state c.args.disk.now).contents c.args.body.now c.in_ok-front.front (Err c.in-Err.fault) c.in_ok-front.ensures.front c.requires.root
    (subst (λ (l : List Command). OnFound {T = Tree} (Err c.in-Err.fault) (IsRefusal l)) c.as_slice.ensures c.in-Err.ensures.refused)

pub returns-in-Err-clause-cause : goal.returns-in-Err-clause-cause
returns-in-Err-clause-cause g c = subst (λ (n : ℕ). HasMountCause {T = Tree} (g.D.Disk.faults c.args.disk.now) n (Err c.in-Err.fault)) (sym c.in_ok-front.ensures.cause) (c.in-Err.ensures.no_fault (g.D.Disk.faults c.args.disk.now))

pub returns-in-Some-clause-found : goal.returns-in-Some-clause-found
returns-in-Some-clause-found g c tells =
    first_bad_bad g.D.Disk.tells _ c.args.body.now c.in_ok-front.front tells c.in_ok-front.ensures.front (c.requires.root tells) c.in-Some.i c.in-Some.is (subst (DoesEach nothing_kept) c.as_slice.ensures c.in-Ok.ensures.done)

pub returns-clause-logs : goal.returns-clause-logs
returns-clause-logs g c tells =
    all_logs g.D.Disk.tells _ c.args.body.now c.in_ok-front.front tells c.in_ok-front.ensures.front (c.requires.root tells) c.in-Ok.tree c.in_default.is (subst (DoesEach nothing_kept) c.as_slice.ensures c.in-Ok.ensures.done)
    (subst (λ (l : List Command). c.in-Ok.tree ≡ (after l nothing_kept).tree) c.as_slice.ensures c.in-Ok.ensures.is) (omega (arith, c.if-used-body.false, c.blocks_of-used.ensures))
