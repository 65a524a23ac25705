-- A change is refused, done, or stopped at.
use Rattle.std.proofs.Common.{◌∙◌, ◌+◌, IsTrue, sym, ap, subst, arith}
use Rattle.std.specs.Prelude.{not, Ok, Err}
use Rattle.command_log.specs.Logging.{StandsForEither}
use Rattle.disk_model.specs.Disk.{EachImage}
use Rattle.node_table.specs.Held.{HoldsNodes}
use Rattle.session_model.specs.Follows.{seen_of}
use Rattle.tree_model.specs.declared.refusal.Refusal.{Refusal}
use Rattle.tree_model.specs.declared.refusal.Refusal.TheVariants.{NoSpace}
use Rattle.tree_model.specs.declared.reply.Reply.TheVariants.{Refused}
use Rattle.volume_model.specs.Done.{done}
use Rattle.volume_model.specs.Machine.{Machine, Rules}
use Rattle.volume_core.specs.Changing.{HasChangeCause}
use Rattle.volume_core.specs.Memory.{Memory, IsIn}
use Rattle.volume_core.specs.Replied.{Replied}
use Rattle.volume_core.specs.declared.given.Undone.{Undone}
use Rattle.volume_core.proofs.Between.{is_at_rest}
use Rattle.volume_core.proofs.RepliedLaws.{refused_by_tree, without_room, done_now, stopped_now, fault_told}
use Rattle.volume_core.proofs.UndoneForms.{on_damaged, on_fault, on_stopped}
use Rattle.volume_core.proofs.volume.Volume.reply_to_change.Goals as goal

pub returns-in-Some-clause-replied : goal.returns-in-Some-clause-replied
returns-in-Some-clause-replied g c r m is_in due =
    refused_by_tree c.table_holds_tree.ensures r g.D.Disk.tells m c.args.command.now (seen_of (g.D.Disk.state c.args.disk.now) (g.D.Disk.past c.args.disk.now) (g.D.Disk.faults c.args.disk.now)) c.args.self.now
    (g.D.Disk.fixed c.args.disk.now).size c.requires.fits c.requires.change due is_in c.in-Some.refusal
    (λ tree is holds. c.in-Some.ensures tree is (subst (λ (v : Memory). HoldsNodes v.nodes tree) (sym c.self.view_is) holds))

pub returns-then-not-has_room-clause-replied : goal.returns-then-not-has_room-clause-replied
returns-then-not-has_room-clause-replied g c r m is_in due =
    let at_first = seen_of (g.D.Disk.state c.args.disk.now) (g.D.Disk.past c.args.disk.now) (g.D.Disk.faults c.args.disk.now) in
    subst (λ (v : Memory). Replied g.D.Disk.tells m c.args.command.now (Ok (Refused (NoSpace v.free (c.charge.result + c.reserve.result)))) at_first at_first) (sym c.self.view_is)
    (without_room c.table_holds_tree.ensures r g.D.Disk.tells m c.args.command.now at_first c.args.self.now (g.D.Disk.fixed c.args.disk.now).size c.requires.fits c.requires.change due is_in
    (λ tree is holds. c.in_default.ensures tree is (subst (λ (v : Memory). HoldsNodes v.nodes tree) (sym c.self.view_is) holds)) c.has_room.ensures.few
    (c.charge.result + c.reserve.result) (omega (arith, c.charge.ensures.is, c.reserve.ensures.is))
    (λ t. sym (c.has_room.ensures.lacks r m (g.D.Disk.state c.args.disk.now) (is_in t)) ∙ ap not c.if-not-has_room.true))

pub returns-in-Ok-clause-replied : goal.returns-in-Ok-clause-replied
returns-in-Ok-clause-replied g c r m is_in due =
    done_now c.table_holds_tree.ensures r g.D.Disk.tells m c.args.command.now (seen_of (g.D.Disk.state c.args.disk.now) (g.D.Disk.past c.args.disk.now) (g.D.Disk.faults c.args.disk.now)) c.args.self.now
    (g.D.Disk.fixed c.args.disk.now).size c.requires.fits c.requires.change due is_in
    (λ tree is holds. c.in_default.ensures tree is (subst (λ (v : Memory). HoldsNodes v.nodes tree) (sym c.self.view_is) holds)) c.has_room.ensures.few
    c.accepted_is_done.ensures (seen_of (g.D.Disk.state c.change.new.disk) (g.D.Disk.past c.change.new.disk) (g.D.Disk.faults c.change.new.disk))
    (λ t. sym (c.has_room.ensures.lacks r m (g.D.Disk.state c.args.disk.now) (is_in t)) ∙ ap not c.if-not-has_room.false)
    (λ t. is_at_rest r (done m c.args.command.now) (g.D.Disk.state c.change.new.disk) c.change.new.self (c.in-Ok.ensures.done t r m (is_in t) (due t)))
    (λ t. c.in-Ok.ensures.during t r m (is_in t)) c.in-Ok.ensures.cause

pub returns-in-Ok-clause-next : goal.returns-in-Ok-clause-next
returns-in-Ok-clause-next g c tells r m is due = rw c.requires.change (c.in-Ok.ensures.done tells r m is due)

pub returns-in-Err-Fault-clause-replied : goal.returns-in-Err-Fault-clause-replied
returns-in-Err-Fault-clause-replied g c r m is_in due =
    let at_first = seen_of (g.D.Disk.state c.args.disk.now) (g.D.Disk.past c.args.disk.now) (g.D.Disk.faults c.args.disk.now) in
    let then = seen_of (g.D.Disk.state c.change.new.disk) (g.D.Disk.past c.change.new.disk) (g.D.Disk.faults c.change.new.disk) in
    subst (λ (x : Refusal). Replied g.D.Disk.tells m c.args.command.now (Ok (Refused x)) at_first then) (sym c.refusal_by.ensures)
    (fault_told c.table_holds_tree.ensures r g.D.Disk.tells m c.args.command.now at_first c.args.self.now (g.D.Disk.fixed c.args.disk.now).size c.requires.fits c.requires.change due is_in
    (Unit {0}) c.in-Err-Fault.fault then
    (λ t b is. on_damaged (Unit {0}) (IsTrue g.D.Disk.tells → ⊥) c.in-Err-Fault.field-0 c.in-Err-Fault.fault b c.in-Err-Fault.field-0-is is c.in-Err-Fault.ensures.sound t)
    (on_fault (Unit {0}) _ c.in-Err-Fault.field-0 c.in-Err-Fault.fault c.in-Err-Fault.field-0-is c.in-Err-Fault.ensures.same)
    (on_fault (Unit {0}) _ c.in-Err-Fault.field-0 c.in-Err-Fault.fault c.in-Err-Fault.field-0-is c.in-Err-Fault.ensures.moments)
    (subst (λ (u : Undone). HasChangeCause {T = Unit {0}} (g.D.Disk.faults c.args.disk.now) (g.D.Disk.faults c.change.new.disk) (Err u)) c.in-Err-Fault.field-0-is c.in-Err-Fault.ensures.cause))

pub returns-in-Err-Fault-clause-next : goal.returns-in-Err-Fault-clause-next
returns-in-Err-Fault-clause-next g c tells r m is due =
    rw c.requires.change (on_fault (Unit {0}) (IsTrue g.D.Disk.tells → (r : Rules) (m : Machine) → IsIn r m (g.D.Disk.state c.args.disk.now) c.args.self.now → IsIn r m (g.D.Disk.state c.change.new.disk) c.change.new.self)
    c.in-Err-Fault.field-0 c.in-Err-Fault.fault c.in-Err-Fault.field-0-is c.in-Err-Fault.ensures.unstaged tells r m is)

pub returns-in-Err-Stopped-clause-replied : goal.returns-in-Err-Stopped-clause-replied
returns-in-Err-Stopped-clause-replied g c r m is_in due =
    stopped_now c.table_holds_tree.ensures r g.D.Disk.tells m c.args.command.now (seen_of (g.D.Disk.state c.args.disk.now) (g.D.Disk.past c.args.disk.now) (g.D.Disk.faults c.args.disk.now)) c.args.self.now
    (g.D.Disk.fixed c.args.disk.now).size c.requires.fits c.requires.change due is_in
    (λ tree is holds. c.in_default.ensures tree is (subst (λ (v : Memory). HoldsNodes v.nodes tree) (sym c.self.view_is) holds)) c.has_room.ensures.few
    (seen_of (g.D.Disk.state c.change.new.disk) (g.D.Disk.past c.change.new.disk) (g.D.Disk.faults c.change.new.disk))
    (λ t. sym (c.has_room.ensures.lacks r m (g.D.Disk.state c.args.disk.now) (is_in t)) ∙ ap not c.if-not-has_room.false)
    (on_stopped (Unit {0}) _ c.in-Err-Stopped.field-0 c.in-Err-Stopped.field-0-is c.in-Err-Stopped.ensures.unsynced)
    (λ t. on_stopped (Unit {0}) (IsTrue g.D.Disk.tells → (r : Rules) (m : Machine) → IsIn r m (g.D.Disk.state c.args.disk.now) c.args.self.now → EachImage (StandsForEither m c.args.command.now) (g.D.Disk.state c.change.new.disk))
    c.in-Err-Stopped.field-0 c.in-Err-Stopped.field-0-is c.in-Err-Stopped.ensures.left t r m (is_in t))
    (λ t. c.in-Err-Stopped.ensures.during t r m (is_in t))
    (subst (λ (u : Undone). HasChangeCause {T = Unit {0}} (g.D.Disk.faults c.args.disk.now) (g.D.Disk.faults c.change.new.disk) (Err u)) c.in-Err-Stopped.field-0-is c.in-Err-Stopped.ensures.cause)
