-- What a volume owes at a command: the point that was due, and then the reply.
use Rattle.std.proofs.Common.{◌≡◌, ◌∙◌, true, false, Option, IsTrue, refl, sym, ap, subst}
use Rattle.std.specs.Prelude.{Result, Ok, Err, IsErrAnd}
use Rattle.disk_model.specs.Disk.{State}
use Rattle.session_model.specs.Course.Last.{Untold, Stop}
use Rattle.session_model.specs.Follows.{Seen, seen_of}
use Rattle.tree_model.specs.Step.{is_change}
use Rattle.tree_model.specs.declared.reply.Reply.{Reply}
use Rattle.tree_model.specs.declared.report.Report.{Report}
use Rattle.volume_model.specs.Legal.{is_due, when_answered}
use Rattle.volume_model.specs.Machine.{Machine, Rules}
use Rattle.volume_model.specs.Short.{answered}
use Rattle.volume_core.specs.Answers.{Applied, exchange, told_by}
use Rattle.volume_core.specs.Begun.{HasBegun, IfReady, IfGiven, TellsNothingDone}
use Rattle.volume_core.specs.Memory.{Memory, IsIn}
use Rattle.volume_core.specs.Replied.{Replied}
use Rattle.volume_core.specs.declared.given.Begun.{Begun}
use Rattle.volume_core.specs.declared.given.Begun.TheVariants.{Ready, Given}
use Rattle.volume_core.specs.declared.given.Given.{Given as GivenAnswer}
use Rattle.volume_core.specs.declared.given.Stopped.{Stopped}
use Rattle.volume_core.specs.declared.given.Stopped.TheVariants.{Now}
use Rattle.volume_core.proofs.AnswerLaws.{next_is_after, replied_owed, stays_by}
use Rattle.volume_core.proofs.ChangeReplies.{none_due}
use Rattle.volume_core.proofs.volume.Volume.apply.Given.{Over}
use Rattle.volume_core.proofs.volume.Volume.apply.Goals.{In-Ready}
use Rattle.volume_core.proofs.volume.Volume.apply.Goals as goal

-- this of the report, where the command is to be answered
if_ready : (x : Begun) (report : Option Report) (P : Option Report → Type 0) → x ≡ Ready report → IfReady (Ok x) P → P report
if_ready (Ready other) report P is p = let same : other ≡ report = cc in subst P same p
if_ready (Given answer) report P is p = cc

-- this of the answer, where the point wasn't taken
if_given : (x : Begun) (answer : GivenAnswer) (P : GivenAnswer → Type 0) → x ≡ Given answer → IfGiven (Ok x) P → P answer
if_given (Ready report) answer P is p = cc
if_given (Given other) answer P is p = let same : other ≡ answer = cc in subst P same p

is_err : (x : Result GivenAnswer Stopped) (e : Stopped) → IsErrAnd x (λ y. y ≡ e) → x ≡ Err e
is_err (Ok v) e a = absurd a
is_err (Err y) e a = ap (λ (z : Stopped). Err z) a

is_now : (x : Result Reply Stopped) (e : Stopped) → x ≡ Err e → x ≡ Err Now → e ≡ Now
is_now x e is now = cc

-- before the command and after the point
abbrev at_first : (g : Over) (c : In-Ready g) → Seen
at_first g c = seen_of (g.D.Disk.state c.args.disk.now) (g.D.Disk.past c.args.disk.now) (g.D.Disk.faults c.args.disk.now)

abbrev at_begun : (g : Over) (c : In-Ready g) → Seen
at_begun g c = seen_of (g.D.Disk.state c.begin.new.disk) (g.D.Disk.past c.begin.new.disk) (g.D.Disk.faults c.begin.new.disk)

begun : (g : Over) (c : In-Ready g) (r : Rules) (m : Machine) → (IsTrue g.D.Disk.tells → IsIn r m (g.D.Disk.state c.args.disk.now) c.args.self.now)
    → HasBegun r g.D.Disk.tells m c.args.command.now c.in-Ready.report (at_first g c) (at_begun g c)
begun g c =
    if_ready c.in_ok-report.field-0 c.in-Ready.report (λ report. (r : Rules) (m : Machine) → (IsTrue g.D.Disk.tells → IsIn r m (g.D.Disk.state c.args.disk.now) c.args.self.now)
    → HasBegun r g.D.Disk.tells m c.args.command.now report (at_first g c) (at_begun g c)) c.in-Ready.is c.in_ok-report.ensures.ready

holds : (g : Over) (c : In-Ready g) → IsTrue g.D.Disk.tells → (r : Rules) (m : Machine) → IsIn r m (g.D.Disk.state c.args.disk.now) c.args.self.now
    → IsIn r (when_answered r m c.in-Ready.report) (g.D.Disk.state c.begin.new.disk) c.begin.new.self
holds g c =
    if_ready c.in_ok-report.field-0 c.in-Ready.report (λ report. IsTrue g.D.Disk.tells → (r : Rules) (m : Machine) → IsIn r m (g.D.Disk.state c.args.disk.now) c.args.self.now
    → IsIn r (when_answered r m report) (g.D.Disk.state c.begin.new.disk) c.begin.new.self) c.in-Ready.is c.in_ok-report.ensures.holds

-- no point is due any more
not_due : (g : Over) (c : In-Ready g) (r : Rules) (m : Machine) → (IsTrue g.D.Disk.tells → IsIn r m (g.D.Disk.state c.args.disk.now) c.args.self.now)
    → IsTrue g.D.Disk.tells → is_change c.args.command.now ≡ true → is_due (when_answered r m c.in-Ready.report) c.args.command.now ≡ false
not_due g c r m is_in t change = none_due r m c.args.command.now c.in-Ready.report change ((begun g c r m is_in).due t)

pub returns-in-Given-clause-next : goal.returns-in-Given-clause-next
returns-in-Given-clause-next g c tells r m is =
    let idle = if_given c.in_ok-report.field-0 c.in-Given.given TellsNothingDone c.in-Given.is c.in_ok-report.ensures.idle in
    let stays = if_given c.in_ok-report.field-0 c.in-Given.given (λ answer. c.begin.new.self ≡ c.args.self.now) c.in-Given.is c.in_ok-report.ensures.stays in
    let same = if_given c.in_ok-report.field-0 c.in-Given.given (λ answer. IsTrue g.D.Disk.tells → g.D.Disk.state c.begin.new.disk ≡ g.D.Disk.state c.args.disk.now) c.in-Given.is c.in_ok-report.ensures.same tells in
    subst (λ (x : Machine). IsIn r x (g.D.Disk.state c.begin.new.disk) c.begin.new.self) (sym (stays_by r m c.args.command.now (told_by c.in-Given.given) idle.0 idle.1))
    (subst (λ (s : State). IsIn r m s c.begin.new.self) (sym same) (subst (λ (v : Memory). IsIn r m (g.D.Disk.state c.args.disk.now) v) (sym stays) is))

pub reply-requires-clause-held : goal.reply-requires-clause-held
reply-requires-clause-held g c tells =
    let some = c.requires.held (sym (ap (λ (v : Memory). v.is_failed) c.self.view_is) ∙ c.if-self.false) tells in
    record { rules = some.rules; machine = when_answered some.rules some.machine c.in-Ready.report; is = holds g (goal.at.reply-requires-clause-held g c).In-Ready tells some.rules some.machine some.is }

pub returns-in_err-reply-clause-applied : goal.returns-in_err-reply-clause-applied
returns-in_err-reply-clause-applied g c alive r m is_in =
    let w = (goal.at.returns-in_err-reply-clause-applied g c).In-Ready in
    let report = c.in-Ready.report in
    let new = seen_of (g.D.Disk.state c.reply.new.disk) (g.D.Disk.past c.reply.new.disk) (g.D.Disk.faults c.reply.new.disk) in
    let now = is_now (Err c.in_err-reply.field-0.0) c.in_err-reply.field-0.0 refl c.in_err-reply.ensures.now in
    let replied = c.in_err-reply.ensures.replied r (when_answered r m report) (λ t. holds g w t r m (is_in t)) (not_due g w r m is_in) in
    subst (λ (x : Result GivenAnswer Stopped). Applied r g.D.Disk.tells m c.args.command.now x (at_first g w) new)
    (sym (is_err c.from_residual-in_err-reply.result c.in_err-reply.field-0.0 c.from_residual-in_err-reply.ensures.1 ∙ ap (λ (z : Stopped). Err z) now))
    (record {
      last = Stop c.args.command.now report;
      is_last = (report, refl);
      applies = replied_owed r m c.args.command.now report (at_first g w) (at_begun g w) new (begun g w r m is_in) (Err Now)
          (subst (λ (e : Stopped). Replied g.D.Disk.tells (when_answered r m report) c.args.command.now (Err e) (at_begun g w) new) now replied);
    })

pub returns-clause-applied : goal.returns-clause-applied
returns-clause-applied g c alive r m is_in =
    let w = (goal.at.returns-clause-applied g c).In-Ready in
    let report = c.in-Ready.report in
    let new = seen_of (g.D.Disk.state c.reply.new.disk) (g.D.Disk.past c.reply.new.disk) (g.D.Disk.faults c.reply.new.disk) in
    record {
      last = Untold (exchange c.args.command.now (answered (record { report = report; reply = c.in_ok-reply.reply })));
      is_last = refl;
      applies = replied_owed r m c.args.command.now report (at_first g w) (at_begun g w) new (begun g w r m is_in) (Ok c.in_ok-reply.reply)
          (c.in_ok-reply.ensures.replied r (when_answered r m report) (λ t. holds g w t r m (is_in t)) (not_due g w r m is_in));
    }

pub returns-clause-next : goal.returns-clause-next
returns-clause-next g c tells r m is =
    let w = (goal.at.returns-clause-next g c).In-Ready in
    subst (λ (x : Machine). IsIn r x (g.D.Disk.state c.reply.new.disk) c.reply.new.self) (sym (next_is_after r m c.args.command.now c.in-Ready.report c.in_ok-reply.reply))
    (c.in_ok-reply.ensures.next tells r (when_answered r m c.in-Ready.report) (holds g w tells r m is) (not_due g w r m (λ t. is) tells))
