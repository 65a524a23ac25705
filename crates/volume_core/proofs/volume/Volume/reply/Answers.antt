-- A reply to each command.
use Rattle.std.proofs.Common.{◌≡◌, ◌∙◌, true, false, refl, sym, ap, subst}
use Rattle.std.specs.Prelude.{not, Result, Ok, Err, IfOk}
use Rattle.disk_model.specs.Disk.{State}
use Rattle.session_model.specs.Follows.{seen_of}
use Rattle.tree_model.specs.Step.{is_change}
use Rattle.tree_model.specs.declared.command.Command.{Command}
use Rattle.tree_model.specs.declared.command.Command.TheVariants.{Mkdir, Create, Write, Truncate, Remove, Rename, Read, List as ListOf, Stat, Layout, Space, Checkpoint, End}
use Rattle.tree_model.specs.declared.reply.Reply.{Reply}
use Rattle.tree_model.specs.declared.reply.Reply.TheVariants.{Done}
use Rattle.volume_core.specs.Answers.{IsBuilt, only_looks}
use Rattle.volume_core.specs.Memory.{IsIn}
use Rattle.volume_core.specs.Replied.{Replied}
use Rattle.volume_core.specs.declared.given.Stopped.{Stopped}
use Rattle.volume_core.proofs.RepliedLaws.{looked, pointed}
use Rattle.volume_core.proofs.volume.Volume.reply.Goals as goal

-- what neither changes the tree nor asks for a point only looks
only : (command : Command) → IsBuilt command → is_change command ≡ false → (command ≡ Checkpoint → ⊥) → only_looks command ≡ true
only (Mkdir path) built is apart = ap not is
only (Create path) built is apart = ap not is
only (Write path offset bytes) built is apart = ap not is
only (Truncate path size) built is apart = ap not is
only (Remove path) built is apart = ap not is
only (Rename from to) built is apart = ap not is
only (Read path offset len) built is apart = ap not is
only (ListOf path) built is apart = ap not is
only (Stat path) built is apart = ap not is
only (Layout path) built is apart = absurd built
only Space built is apart = ap not is
only Checkpoint built is apart = absurd (apart refl)
only End built is apart = ap not is

-- what follows of each reply
if_ok : (x : Result Reply Stopped) {P Q : Reply → Type 0} → ((y : Reply) → P y → Q y) → IfOk x P → IfOk x Q
if_ok (Ok y) f p = f y p
if_ok (Err e) f p = p

pub returns-then-is_change-clause-replied : goal.returns-then-is_change-clause-replied
returns-then-is_change-clause-replied g c r m is_in due =
    let change = sym c.is_change.ensures ∙ c.if-is_change.true in
    c.reply_to_change.ensures.replied r m is_in (λ t. due t change)

pub returns-then-is_change-clause-next : goal.returns-then-is_change-clause-next
returns-then-is_change-clause-next g c =
    let change = sym c.is_change.ensures ∙ c.if-is_change.true in
    if_ok c.reply_to_change.result (λ y next tells r m is due. next tells r m is (due change)) c.reply_to_change.ensures.next

pub returns-in-Checkpoint-clause-replied : goal.returns-in-Checkpoint-clause-replied
returns-in-Checkpoint-clause-replied g c r m is_in due =
    let at_first = seen_of (g.D.Disk.state c.args.disk.now) (g.D.Disk.past c.args.disk.now) (g.D.Disk.faults c.args.disk.now) in
    subst (λ (x : Command). Replied g.D.Disk.tells m x (Ok Done) at_first at_first) (sym c.in-Checkpoint.is) (pointed g.D.Disk.tells m at_first)

pub returns : goal.returns
returns g c =
    let same = sym c.is_change.ensures ∙ c.if-is_change.false in
    record {
      replied = λ r m is_in due.
          looked g.D.Disk.tells m c.args.command.now c.look.result (seen_of (g.D.Disk.state c.args.disk.now) (g.D.Disk.past c.args.disk.now) (g.D.Disk.faults c.args.disk.now))
          (seen_of (g.D.Disk.state c.look.new.disk) (g.D.Disk.past c.look.new.disk) (g.D.Disk.faults c.look.new.disk))
          (only c.args.command.now c.requires.built same c.in_default.not-Checkpoint) same (λ t. c.look.ensures.reply t r m (is_in t)) c.look.ensures.same c.look.ensures.moments c.look.ensures.cause;
      next = λ tells r m is due. rw same (subst (λ (s : State). IsIn r m s c.args.self.now) (sym (c.look.ensures.same tells)) is);
      now = tt;
      failed = tt;
      fits = c.requires.fits;
      alive = refl;
      fixed = c.look.ensures.fixed;
    }
