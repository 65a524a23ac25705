use Rattle.std.proofs.Common.{◌≤◌, ◌+◌, ℕ, List, subst}
use Rattle.std.specs.Prelude.{Err, IfNone, IsTrue, Option}
use Rattle.tree_model.specs.declared.command.Command.{Command}
use Rattle.volume_model.specs.Machine.{Stored}
use Rattle.image_model.specs.Finds.{IsBadLog}
use Rattle.image_model.specs.Stands.{Logs}
use Rattle.log_check.specs.Accepting.{IsShown, TakesEach, IsRefusedAt, with_records}
use Rattle.log_check.specs.Cause.{IfFound}
use Rattle.log_check.specs.Reading.{IsWhole, IsPart}
use Rattle.log_check.specs.declared.fault.LogCheckFault.{LogCheckFault}
use Rattle.log_check.proofs.LogLemmas.{all_logs, refused_bad, part_bad}
use Rattle.log_check.proofs.ResultLemmas.{found_map, found_same, found_known, cause_moved, cause_same, ok_is}
use Rattle.log_check.proofs.checking.check_log.Goals as goal

pub returns-in-Err-clause-found : goal.returns-in-Err-clause-found
returns-in-Err-clause-found g c =
    let refused : IfFound {T = Unit {0}} (Err c.in-Err.fault) (IsRefusedAt c.args.free c.args.nodes.now c.in_ok-front.front.commands) =
    subst (λ (l : List Command). IfFound {T = Unit {0}} (Err c.in-Err.fault) (IsRefusedAt c.args.free c.args.nodes.now l)) c.as_slice.ensures c.in-Err.ensures.refused in
    found_map {T = List Command} (Err c.in-Err.fault) (IsRefusedAt c.args.free c.args.nodes.now c.in_ok-front.front.commands)
    (λ i. IsTrue g.D.Disk.tells → (s : Stored) → IsShown (g.D.Disk.state c.args.disk.now).contents c.args.nodes.now c.args.free s → IsBadLog (g.D.Disk.state c.args.disk.now).contents i)
    (λ i at tell s shown. refused_bad g.D.Disk.tells (g.D.Disk.state c.args.disk.now).contents c.args.body.now c.in_ok-front.front tell c.in_ok-front.ensures.front (c.requires.root tell) c.args.free c.args.nodes.now s shown i at)
    (found_same (Unit {0}) (List Command) c.in-Err.fault (IsRefusedAt c.args.free c.args.nodes.now c.in_ok-front.front.commands) refused)

pub returns-in-Err-clause-cause : goal.returns-in-Err-clause-cause
returns-in-Err-clause-cause g c =
    cause_moved {T = List Command} (Err c.in-Err.fault) (g.D.Disk.faults c.args.disk.now) (g.D.Disk.faults c.read_front.new.disk) c.in_ok-front.ensures.cause
    (λ count. cause_same (Unit {0}) (List Command) c.in-Err.fault count (c.in-Err.ensures.no_fault count))

pub returns-in-Ok-clause-found : goal.returns-in-Ok-clause-found
returns-in-Ok-clause-found g c =
    let takes : TakesEach c.args.free c.args.nodes.now c.in_ok-front.front.commands c.accept_each.new.nodes =
    subst (λ (l : List Command). TakesEach c.args.free c.args.nodes.now l c.accept_each.new.nodes) c.as_slice.ensures c.in-Ok.ensures.takes in
    found_map {T = List Command} c.if_whole.result (IsPart c.args.body.now c.in_ok-front.front)
    (λ i. IsTrue g.D.Disk.tells → (s : Stored) → IsShown (g.D.Disk.state c.args.disk.now).contents c.args.nodes.now c.args.free s → IsBadLog (g.D.Disk.state c.args.disk.now).contents i)
    (λ i part tell s shown. part_bad g.D.Disk.tells (g.D.Disk.state c.args.disk.now).contents c.args.body.now c.in_ok-front.front tell c.in_ok-front.ensures.front (c.requires.root tell) c.args.free c.args.nodes.now s shown c.accept_each.new.nodes i takes part)
    c.if_whole.ensures.part

pub returns-in-Ok-clause-cause : goal.returns-in-Ok-clause-cause
returns-in-Ok-clause-cause g c =
    cause_moved {T = List Command} c.if_whole.result (g.D.Disk.faults c.args.disk.now) (g.D.Disk.faults c.read_front.new.disk) c.in_ok-front.ensures.cause c.if_whole.ensures.no_fault

pub returns-in-Ok-clause-logs : goal.returns-in-Ok-clause-logs
returns-in-Ok-clause-logs g c =
    let takes : TakesEach c.args.free c.args.nodes.now c.in_ok-front.front.commands c.accept_each.new.nodes =
    subst (λ (l : List Command). TakesEach c.args.free c.args.nodes.now l c.accept_each.new.nodes) c.as_slice.ensures c.in-Ok.ensures.takes in
    ok_is {T = List Command} {E = LogCheckFault} c.if_whole.result c.in_ok-front.front.commands (IsWhole c.args.body.now c.in_ok-front.front)
    (λ records. IsTrue g.D.Disk.tells → (s : Stored) → IsShown (g.D.Disk.state c.args.disk.now).contents c.args.nodes.now c.args.free s → Logs (g.D.Disk.state c.args.disk.now).contents (with_records s records))
    c.if_whole.ensures.whole c.if_whole.ensures.is
    (λ whole tell s shown. all_logs g.D.Disk.tells (g.D.Disk.state c.args.disk.now).contents c.args.body.now c.in_ok-front.front tell c.in_ok-front.ensures.front (c.requires.root tell) c.args.free c.args.nodes.now s shown c.accept_each.new.nodes takes whole)

pub returns-in-Ok-clause-takes : goal.returns-in-Ok-clause-takes
returns-in-Ok-clause-takes g c =
    let takes : TakesEach c.args.free c.args.nodes.now c.in_ok-front.front.commands c.accept_each.new.nodes =
    subst (λ (l : List Command). TakesEach c.args.free c.args.nodes.now l c.accept_each.new.nodes) c.as_slice.ensures c.in-Ok.ensures.takes in
    ok_is {T = List Command} {E = LogCheckFault} c.if_whole.result c.in_ok-front.front.commands (IsWhole c.args.body.now c.in_ok-front.front)
    (λ records. TakesEach c.args.free c.args.nodes.now records c.accept_each.new.nodes)
    c.if_whole.ensures.whole c.if_whole.ensures.is (λ whole. takes)

pub returns-in-Err-clause-reads_again : goal.returns-in-Err-clause-reads_again
returns-in-Err-clause-reads_again g c = found_known {T = List Command} (Err c.in-Err.fault) _ c.in_ok-front.ensures.reads_again

pub returns-in-Ok-clause-reads_again : goal.returns-in-Ok-clause-reads_again
returns-in-Ok-clause-reads_again g c = found_known {T = List Command} c.if_whole.result _ c.in_ok-front.ensures.reads_again

pub returns-in-Ok-clause-reads : goal.returns-in-Ok-clause-reads
returns-in-Ok-clause-reads g c =
    let few : Type 0 = (g.D.Disk.given c.read_front.new.disk).count ≤ (g.D.Disk.given c.args.disk.now).count + c.args.body.now.log_used in
    ok_is {T = List Command} {E = LogCheckFault} c.if_whole.result c.in_ok-front.front.commands (IsWhole c.args.body.now c.in_ok-front.front) (λ records. few)
    c.if_whole.ensures.whole c.if_whole.ensures.is (λ whole. subst (λ (bad : Option ℕ). IfNone bad few) whole.none_bad c.in_ok-front.ensures.reads)
