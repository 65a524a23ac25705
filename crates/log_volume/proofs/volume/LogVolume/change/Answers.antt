use Rattle.std.proofs.Common.{◌≡◌, ◌∙◌, ◌+◌, inl, List, true, None, sym, ap, subst}
use Rattle.disk_model.specs.Disk.{EachImage}
use Rattle.disk_model.specs.Past.{Adds}
use Rattle.disk_model.proofs.Moments.{adds_weaker}
use Rattle.block_format.specs.Root.{Root, root_of}
use Rattle.tree_model.specs.Step.{step, refusal_of}
use Rattle.tree_model.specs.declared.command.Command.{Command}
use Rattle.tree_model.specs.declared.reply.Reply.TheVariants as reply
use Rattle.log_volume.specs.Answers.{Legal, reply_to, has_room, accepted}
use Rattle.log_volume.specs.Fits.{Fits, Volume, StandsForSome, kept_by}
use Rattle.op_log.specs.Record.{record_blocks}
use Rattle.log_volume.specs.Image.{Stands}
use Rattle.log_volume.specs.Replay.{Kept}
use Rattle.log_volume.proofs.ImageLaws.{next_stands}
use Rattle.log_volume.specs.declared.answer.Answer.TheVariants.{Reply, LogFull}
use Rattle.log_volume.proofs.AnswerLemmas.{done_logged, refused_legal, full_legal, reply_done, accepted_done, accepted_stopped, of_ok, same_kept, some_of}
use Rattle.tree_model.proofs.RefusalLaws.{changes_are_done}
use Rattle.log_volume.proofs.volume.LogVolume.change.Goals as goal

pub returns-in-Some-clause-answer : goal.returns-in-Some-clause-answer
returns-in-Some-clause-answer g c =
    let b = c.self.inside.current.body in
    let kept : Kept = record { tree = c.self.inside.tree; used = b.log_used } in
    subst (λ (v : Volume). Legal v.root.layout.log_blocks (kept_by v) c.args.command.now (Reply (reply.Refused c.in-Some.refusal))) c.self.view_is
    (refused_legal b.geometry.log_blocks kept c.args.command.now c.in-Some.refusal c.requires.change (sym c.refusal.ensures ∙ c.in-Some.is))

pub returns-then-not-has_room-clause-answer : goal.returns-then-not-has_room-clause-answer
returns-then-not-has_room-clause-answer g c =
    let b = c.self.inside.current.body in
    let kept : Kept = record { tree = c.self.inside.tree; used = b.log_used } in
    subst (λ (v : Volume). Legal v.root.layout.log_blocks (kept_by v) c.args.command.now LogFull) c.self.view_is
    (full_legal b.geometry.log_blocks kept c.args.command.now c.requires.change (sym c.refusal.ensures ∙ c.in_default.is) (sym c.has_room.ensures ∙ c.if-not-has_room.true))

pub log-requires-clause-logged : goal.log-requires-clause-logged
log-requires-clause-logged g c = done_logged c.self.inside.tree c.args.command.now c.self.invariant.2 c.requires.change (sym c.refusal.ensures ∙ c.in_default.is)

pub invariant_of-self-in-Err : goal.invariant_of-self-in-Err
invariant_of-self-in-Err g c =
    (c.self.invariant.0, c.self.invariant.1, c.change_tree.ensures.sound c.self.invariant.2)

pub invariant_of-self-in-Ok : goal.invariant_of-self-in-Ok
invariant_of-self-in-Ok g c =
    (c.in-Ok.ensures.slot, c.in-Ok.ensures.grammar, c.change_tree.ensures.sound c.self.invariant.2)

pub returns-in-Ok-clause-answer : goal.returns-in-Ok-clause-answer
returns-in-Ok-clause-answer g c =
    let b = c.self.inside.current.body in
    let kept : Kept = record { tree = c.self.inside.tree; used = b.log_used } in
    subst (λ (v : Volume). Legal v.root.layout.log_blocks (kept_by v) c.args.command.now (Reply reply.Done)) c.self.view_is
    (inl (sym (reply_done b.geometry.log_blocks kept c.args.command.now c.requires.change (sym c.refusal.ensures ∙ c.in_default.is)
    (sym c.has_room.ensures ∙ c.if-not-has_room.false))))

pub returns-in-Ok-clause-fits : goal.returns-in-Ok-clause-fits
returns-in-Ok-clause-fits g c tells =
    let b = c.self.inside.current.body in
    let s = g.D.Disk.state c.args.disk.now in
    let kept : Kept = record { tree = c.self.inside.tree; used = b.log_used } in
    let fits : Fits (record { slot = c.self.inside.current.slot; root = root_of b; tree = c.self.inside.tree; is_failed = c.self.inside.is_failed }) s = subst (λ (v : Volume). Fits v s) (sym c.self.view_is) (c.requires.fits tells) in
    let done = changes_are_done kept.tree c.args.command.now c.requires.change (sym c.refusal.ensures ∙ c.in_default.is) in
    let current = c.in-Ok.ensures.current tells in
    let used : kept.used + record_blocks c.args.command.now ≡ c.in-Ok.next.body.log_used = sym (ap (λ (r : Root). r.log_used) c.in-Ok.ensures.root) in
    let stepped : c.change_tree.new.tree ≡ (step c.self.inside.tree c.args.command.now).1 = of_ok c.change_tree.result c.change_tree.ensures.done (sym c.is_err.ensures.value ∙ c.if-is_err.false) in
    record {
      all_synced = current.all_synced;
      slot_is = current.slot_is;
      root_is = current.root_is;
      stands = subst (Stands (g.D.Disk.state c.log.new.disk).contents)
          (same_kept _ c.change_tree.new.tree _ c.in-Ok.next.body.log_used (sym stepped) used)
          (next_stands s.contents (g.D.Disk.state c.log.new.disk).contents c.args.command.now kept (c.in-Ok.ensures.next tells) fits.stands done);
    }

pub returns-in-Ok-clause-during : goal.returns-in-Ok-clause-during
returns-in-Ok-clause-during g c tells =
    let b = c.self.inside.current.body in
    let s = g.D.Disk.state c.args.disk.now in
    let kept : Kept = record { tree = c.self.inside.tree; used = b.log_used } in
    let fits : Fits (record { slot = c.self.inside.current.slot; root = root_of b; tree = c.self.inside.tree; is_failed = c.self.inside.is_failed }) s = subst (λ (v : Volume). Fits v s) (sym c.self.view_is) (c.requires.fits tells) in
    let done = changes_are_done kept.tree c.args.command.now c.requires.change (sym c.refusal.ensures ∙ c.in_default.is) in
    subst (λ (v : Volume). Adds (g.D.Disk.past c.args.disk.now) (g.D.Disk.past c.log.new.disk) (EachImage (StandsForSome (kept_by v) (accepted c.args.command.now (Reply reply.Done))))) c.self.view_is
    (subst (λ (l : List Command). Adds (g.D.Disk.past c.args.disk.now) (g.D.Disk.past c.log.new.disk) (EachImage (StandsForSome kept l))) (sym (accepted_done c.args.command.now c.requires.change))
    (adds_weaker (c.log.ensures.during tells) (λ t each image is. some_of s.contents kept c.args.command.now fits.stands done image (each image is))))

pub returns-in-Err-clause-during : goal.returns-in-Err-clause-during
returns-in-Err-clause-during g c tells =
    let b = c.self.inside.current.body in
    let s = g.D.Disk.state c.args.disk.now in
    let kept : Kept = record { tree = c.self.inside.tree; used = b.log_used } in
    let fits : Fits (record { slot = c.self.inside.current.slot; root = root_of b; tree = c.self.inside.tree; is_failed = c.self.inside.is_failed }) s = subst (λ (v : Volume). Fits v s) (sym c.self.view_is) (c.requires.fits tells) in
    let none : refusal_of kept.tree c.args.command.now ≡ None = sym c.refusal.ensures ∙ c.in_default.is in
    let room : has_room b.geometry.log_blocks kept c.args.command.now ≡ true = sym c.has_room.ensures ∙ c.if-not-has_room.false in
    subst (λ (v : Volume). Adds (g.D.Disk.past c.args.disk.now) (g.D.Disk.past c.log.new.disk) (EachImage (StandsForSome (kept_by v) (accepted c.args.command.now (reply_to v.root.layout.log_blocks (kept_by v) c.args.command.now))))) c.self.view_is
    (subst (λ (l : List Command). Adds (g.D.Disk.past c.args.disk.now) (g.D.Disk.past c.log.new.disk) (EachImage (StandsForSome kept l))) (accepted_stopped b.geometry.log_blocks kept c.args.command.now c.requires.change none room)
    (adds_weaker (c.log.ensures.during tells) (λ t each image is. some_of s.contents kept c.args.command.now fits.stands (changes_are_done kept.tree c.args.command.now c.requires.change none) image (each image is))))

pub returns-in-Err-clause-left : goal.returns-in-Err-clause-left
returns-in-Err-clause-left g c tells =
    let b = c.self.inside.current.body in
    let s = g.D.Disk.state c.args.disk.now in
    let kept : Kept = record { tree = c.self.inside.tree; used = b.log_used } in
    let fits : Fits (record { slot = c.self.inside.current.slot; root = root_of b; tree = c.self.inside.tree; is_failed = c.self.inside.is_failed }) s = subst (λ (v : Volume). Fits v s) (sym c.self.view_is) (c.requires.fits tells) in
    let none : refusal_of kept.tree c.args.command.now ≡ None = sym c.refusal.ensures ∙ c.in_default.is in
    let room : has_room b.geometry.log_blocks kept c.args.command.now ≡ true = sym c.has_room.ensures ∙ c.if-not-has_room.false in
    let left = c.in-Err.ensures.left tells in
    subst (λ (v : Volume). EachImage (StandsForSome (kept_by v) (accepted c.args.command.now (reply_to v.root.layout.log_blocks (kept_by v) c.args.command.now))) (g.D.Disk.state c.log.new.disk)) c.self.view_is
    (subst (λ (l : List Command). EachImage (StandsForSome kept l) (g.D.Disk.state c.log.new.disk)) (accepted_stopped b.geometry.log_blocks kept c.args.command.now c.requires.change none room)
    (λ image is. some_of s.contents kept c.args.command.now fits.stands (changes_are_done kept.tree c.args.command.now c.requires.change none) image (left image is)))
