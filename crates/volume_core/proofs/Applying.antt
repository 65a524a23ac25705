-- What a volume owes at a command, by how it is begun and what comes then.
use Rattle.std.proofs.Common.{◌≡◌, ◌∙◌, ⊎_elim, inl, inr, ℕ, Bool, true, false, cond, List, [], ◌∷◌, ◌++◌, Option, Some, None, refl, sym, ap, subst, arith}
use Rattle.std.specs.Prelude.{◌≢◌, ◌&&◌, not, is_some, IsTrue}
use Rattle.vol_numbers.specs.Cause.{raised}
use Rattle.vol_numbers.specs.declared.block.Block.{Block}
use Rattle.disk_model.specs.Disk.{State, EachImage}
use Rattle.disk_model.specs.Past.{Adds}
use Rattle.disk_model.proofs.Moments.{adds_then, adds_weaker}
use Rattle.tree_model.specs.declared.command.Command.{Command}
use Rattle.tree_model.specs.declared.reply.Reply.{Reply}
use Rattle.tree_model.specs.declared.reply.Reply.TheVariants as reply
use Rattle.tree_model.specs.declared.report.Answer.{Answer}
use Rattle.tree_model.specs.declared.report.Report.{Report}
use Rattle.tree_model.specs.Step.{is_change, refusal_of}
use Rattle.tree_model.specs.Tree.{Tree}
use Rattle.volume_model.specs.Done.{done}
use Rattle.volume_model.specs.Legal.{Replies, changes, is_due, is_full, is_nothing, reply_to, when_answered}
use Rattle.volume_model.specs.Machine.{Machine, Rules, stored}
use Rattle.volume_model.specs.Short.{answered, is_short}
use Rattle.command_log.specs.Logging.{StandsForEither}
use Rattle.session_model.specs.Answered.{IsLegalLast, may_write}
use Rattle.session_model.specs.Course.{Exchange, accepted_by, accepted_at_stop, next_by}
use Rattle.session_model.specs.Course.Last.{Untold, Stop}
use Rattle.session_model.specs.Follows.{Seen, IsAtRest, IsKept, is_idle, raised_by}
use Rattle.session_model.specs.Given.{is_damaged, is_fault}
use Rattle.session_model.specs.Making.{Applies}
use Rattle.session_model.specs.Stages.{StandsForOne}
use Rattle.session_model.proofs.Passing.{one_left, when_tree}
use Rattle.session_model.proofs.Stored.{synced_stands}
use Rattle.volume_core.specs.Answers.{IsReplyIn, HasReplyCause, exchange}
use Rattle.volume_core.specs.Begun.{HasBegun}

-- the count after a reply
counted : (reply : Reply) (old mid new : ℕ) → mid ≡ old → HasReplyCause mid new reply → new ≡ raised_by (cond (is_fault reply) 1 0) old
counted reply old mid new same cause = by (is_fault reply) cause
  where
    by : (t : Bool) → new ≡ cond t (raised mid) mid → new ≡ raised_by (cond t 1 0) old
    by true e = e ∙ ap raised same
    by false e = omega (arith, e, same)

-- one of the first states
one_more : (ss : List Machine) (x : Machine) (image : List Block) → StandsForOne ss image → StandsForOne (ss ++ x ∷ []) image
one_more ss x image one = record { state = one.state; is_one = one_left ss (x ∷ []) one.state one.is_one; stands = one.stands }

-- ---- an answer with nothing done behind the point

module _ (r : Rules) (tells : Bool) (m : Machine) (command : Command) (report : Option Report) (given : Reply) (old mid new : Seen)
    (begun : HasBegun r tells m command report old mid) where
  abbrev now : Machine
  now = when_answered r m report

  abbrev told : Exchange
  told = exchange command (answered (record { report = report; reply = given }))

  abbrev the_answer : Answer
  the_answer = record { report = report; reply = given }

  is_legal : IsTrue tells → IsReplyIn now command the_answer → IsLegalLast r m (Untold told)
  is_legal t given_is = (rw (begun.long t) (record { report = begun.reported t; reply = replies }), given_is.whole)
    where
      replies : Replies r m command the_answer
      replies = ⊎_elim (λ e. inl (begun.due t, e)) (λ e. inr e) given_is.is

  -- a stage before the last, in what is at rest there
  rests : (s : State) (x : Machine) → IsAtRest now s → EachImage (StandsForOne (m ∷ now ∷ x ∷ [])) s
  rests s x rest image is = record { state = now; is_one = inr (inl refl); stands = synced_stands s (stored now) rest.synced rest.stands image is }

  begins : (x : Machine) → IsTrue tells → Adds old.past mid.past (EachImage (StandsForOne (m ∷ now ∷ x ∷ [])))
  begins x t = adds_weaker (begun.during t) (λ s each image is. one_more (m ∷ now ∷ []) x image (each image is))

  module _ (state : IsTrue tells → new.state ≡ mid.state) (moments : IsTrue tells → Adds mid.past new.past (λ s. s ≡ mid.state)) where
    stays : (x : Machine) → IsTrue tells → Adds old.past new.past (EachImage (StandsForOne (m ∷ now ∷ x ∷ [])))
    stays x t = adds_then (begins x t) (moments t) (λ s e. subst (EachImage (StandsForOne (m ∷ now ∷ x ∷ []))) (sym e) (rests mid.state x (begun.left t)))

    still : (t : IsTrue tells) → report ≡ None → IsKept old new
    still t none =
        let kept = begun.kept t none in
        record { state = state t ∙ kept.state; moments = adds_then kept.moments (moments t) (λ s e. e ∙ kept.state) }

    -- The command was answered, with nothing done.
    pub idle : (IsTrue tells → IsReplyIn now command the_answer) → accepted_by told ≡ [] → HasReplyCause mid.faults new.faults given → Applies r tells m (Untold told) old new
    idle given_is nothing cause = record {
      legal = λ t. is_legal t (given_is t);
      during = λ t. stays (next_by r m told) t;
      left = λ t. rw nothing (subst (IsAtRest now) (sym (state t)) (begun.left t));
      idle = λ t is. still t (none report is);
      faults = counted given old.faults mid.faults new.faults begun.faults cause;
    }
      where
        none : (o : Option Report) → (not (is_some o) && is_nothing (accepted_by told)) ≡ true → o ≡ None
        none None e = refl
        none (Some x) e = cc

  -- The change was done.
  pub changed : (given ≡ reply.Done) → is_change command ≡ true → (IsTrue tells → reply_to now command ≡ reply.Done) → (IsTrue tells → IsAtRest (done now command) new.state)
      → (IsTrue tells → Adds mid.past new.past (EachImage (StandsForEither now command))) → new.faults ≡ mid.faults → Applies r tells m (Untold told) old new
  changed is_given change replies rest during faults = record {
    legal = λ t. is_legal t (record { is = inl (is_given ∙ sym (replies t)); whole = ap is_damaged is_given });
    during = λ t. rw one (adds_then (begins (done now command) t) (during t) (λ s each image is. either image (each image is)));
    left = λ t. rw one (rest t);
    idle = λ t is. never t is;
    faults = counted given old.faults mid.faults new.faults begun.faults (subst (λ (x : Reply). HasReplyCause mid.faults new.faults x) (sym is_given) faults);
  }
    where
      one : accepted_by told ≡ command ∷ []
      one = rw (change, is_given) refl

      either : (image : List Block) → StandsForEither now command image → StandsForOne (m ∷ now ∷ done now command ∷ []) image
      either image (inl stands) = record { state = now; is_one = inr (inl refl); stands = stands }
      either image (inr stands) = record { state = done now command; is_one = inr (inr (inl refl)); stands = stands }

      never : IsTrue tells → is_idle told ≡ true → IsKept old new
      never t is = by (not (is_some report)) (rw one at is)
        where
          by : (x : Bool) → (x && false) ≡ true → IsKept old new
          by true e = cc
          by false e = cc

  -- the tree takes the change
  takes : (x : Bool) → changes now command ≡ x → changes m command ≡ x
  takes x e = subst (λ (tree : Tree). (is_change command && not (is_some (refusal_of tree command))) ≡ x) (when_tree r m report) e

  -- The volume stopped at the change.
  pub stopped : (IsTrue tells → changes now command ≡ true) → (IsTrue tells → is_full now command ≡ false) → (IsTrue tells → new.state.unsynced ≢ [])
      → (IsTrue tells → EachImage (StandsForEither now command) new.state) → (IsTrue tells → Adds mid.past new.past (EachImage (StandsForEither now command)))
      → new.faults ≡ raised mid.faults → Applies r tells m (Stop command report) old new
  stopped change room unsynced left during faults = record {
    legal = λ t. record { writes = writes t; due = begun.due t; point = begun.reported t };
    during = λ t. rw (one t) (adds_then (begins (done now command) t) (during t) (λ s each image is. either image (each image is)));
    left = λ t. (unsynced t, rw (one t) (λ image is. either image (left t image is)));
    idle = λ t is. cc;
    faults = faults ∙ ap raised begun.faults;
  }
    where
      one : IsTrue tells → accepted_at_stop r m command report ≡ command ∷ []
      one t = rw (takes true (change t), room t) refl

      either : (image : List Block) → StandsForEither now command image → StandsForOne (m ∷ now ∷ done now command ∷ []) image
      either image (inl stands) = record { state = now; is_one = inr (inl refl); stands = stands }
      either image (inr stands) = record { state = done now command; is_one = inr (inr (inl refl)); stands = stands }

      writes : IsTrue tells → may_write m command ≡ true
      writes t = by (is_due m command) refl (is_short m) refl
        where
          full : is_due m command ≡ false → is_full m command ≡ false
          full e = none report refl (sym e ∙ begun.due t)
            where
              none : (o : Option Report) → report ≡ o → false ≡ is_some o → is_full m command ≡ false
              none None is e = subst (λ (x : Option Report). is_full (when_answered r m x) command ≡ false) is (room t)
              none (Some x) is e = cc

          by : (x : Bool) → is_due m command ≡ x → (y : Bool) → is_short m ≡ y → may_write m command ≡ true
          by true e true f = let long = begun.long t in let both : true ≡ false = (rw (e, f) at long) in cc
          by true e false f = rw (e, f) refl
          by false e y f = rw (e, takes true (change t)) (rw (full e) refl)
