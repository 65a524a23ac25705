-- What a legal answer is, and the state after it.
use Rattle.std.proofs.Common.{◌≡◌, ℕ, Bool, true, false, cond, List, [], Some, None, inl, inr, refl, sym, ap, subst, ◌∙◌}
use Rattle.std.specs.Prelude.{◌&&◌, ◌⊎◌, Option, is_some}
use Rattle.tree_model.specs.declared.command.Command.{Command}
use Rattle.tree_model.specs.declared.command.Command.TheVariants.{Mkdir, Create, Write, Truncate, Remove, Rename, Read, List as ListOf, Stat, Layout, Space, Checkpoint, End}
use Rattle.tree_model.specs.declared.refusal.Refusal.TheVariants.{NoSpace}
use Rattle.tree_model.specs.declared.reply.Reply.{Reply}
use Rattle.tree_model.specs.declared.reply.Reply.TheVariants as reply
use Rattle.tree_model.specs.declared.report.Answer.{Answer}
use Rattle.tree_model.specs.declared.report.Report.{Report}
use Rattle.tree_model.specs.Step.{step, is_change, is_plain}
use Rattle.tree_model.specs.Tree.{Tree}
use Rattle.space_account.specs.Charge.{need}
use Rattle.volume_model.specs.Done.{done}
use Rattle.volume_model.specs.Laws.{LegalIs, ExcusesAreFew, SomeIsLegal, RepliesAreTheTrees, NextTree, NextStored, recorded}
use Rattle.volume_model.specs.Legal.{changes, is_due, is_full, reply_to, is_outside, is_excuse, when_answered, MayReport, Replies, IsLegal, is_done, answer_after, answer_with, fresh_told}
use Rattle.volume_model.specs.Machine.{Machine, Rules, stored, free_of}
use Rattle.volume_model.specs.Point.{after_point, fresh_in}
use Rattle.volume_model.proofs.LineLaws.{points_exist}

-- ---- which answers are legal

settled : (r : Rules) (m : Machine) (command : Command) (report : Option Report) (given : Reply) → MayReport r m command report → is_due m command ≡ is_some report
    → given ≡ reply_to (when_answered r m report) command → record { report = report; reply = given } ≡ answer_after r m command (fresh_told report) (is_due m command)
settled r m command None given may due is = (λ i. record { report = None; reply = is i }) ∙ ap (answer_after r m command []) (sym due)
settled r m command (Some p) given may due is = (λ i. record { report = Some (may.1.is i); reply = is i }) ∙ ap (answer_after r m command (fresh_in p)) (sym due)

pub legal_is : LegalIs
legal_is r m command answer legal none = by legal.reply
  where
    by : Replies r m command answer → answer ≡ answer_with r m command (fresh_told answer.report)
    by (inl two) = settled r m command answer.report answer.reply legal.report two.0 two.1
    by (inr excuse) = let no : true ≡ false = sym excuse ∙ none in cc

pub some_is_legal : SomeIsLegal
some_is_legal = record {
  due = λ r m command fresh due ordered may.
      let points = points_exist r m fresh ordered may in
      subst (λ (t : Bool). IsLegal r m command (answer_after r m command fresh t)) (sym due)
      (record { report = (due, points.0); reply = inl (due, ap (λ (f : List ℕ). reply_to (after_point r m f) command) (sym points.1)) });
  not_due = λ r m command none. subst (λ (t : Bool). IsLegal r m command (answer_after r m command [] t)) (sym none) (record { report = tt; reply = inl (none, refl) });
}

-- ---- excuses

space_told : (r : Rules) (m : Machine) (report : Option Report) (given : Reply) → Replies r m Space (record { report = report; reply = given }) → ◌≡◌ {A = Answer} (record { report = report; reply = given }) (record { report = None; reply = reply_to m Space })
space_told r m None given (inl two) = λ i. record { report = None; reply = two.1 i }
space_told r m (Some report) given (inl two) = let e : false ≡ true = two.0 in cc
space_told r m report given (inr excuse) = let e : false ≡ true = excuse in cc

end_told : (r : Rules) (m : Machine) (report : Option Report) (given : Reply) → Replies r m End (record { report = report; reply = given }) → ◌≡◌ {A = Answer} (record { report = report; reply = given }) (record { report = None; reply = reply.Done })
unfolding step
end_told r m None given (inl two) = λ i. record { report = None; reply = two.1 i }
end_told r m (Some report) given (inl two) = let e : false ≡ true = two.0 in cc
end_told r m report given (inr excuse) = let e : false ≡ true = excuse in cc

checkpoint_told : (r : Rules) (m : Machine) (report : Report) (given : Reply) → Replies r m Checkpoint (record { report = Some report; reply = given }) → given ≡ reply.Done
unfolding step
checkpoint_told r m report given (inl two) = two.1
checkpoint_told r m report given (inr excuse) = no (is_outside given) excuse
  where
    no : (t : Bool) → (t && false) ≡ true → given ≡ reply.Done
    no true e = cc
    no false e = cc

excused : (command : Command) (given : Reply) → is_excuse command (record { report = None; reply = given }) ≡ true → is_outside given ≡ true
excused (Mkdir path) given e = e
excused (Create path) given e = e
excused (Write path offset bytes) given e = e
excused (Truncate path size) given e = e
excused (Remove path) given e = e
excused (Rename from to) given e = e
excused (Read path offset len) given e = e
excused (ListOf path) given e = e
excused (Stat path) given e = e
excused (Layout path) given e = e
excused Space given e = cc
excused Checkpoint given e = only (is_outside given) e
  where
    only : (t : Bool) → (t && true) ≡ true → t ≡ true
    only true e = refl
    only false e = e
excused End given e = cc

due_excused : (r : Rules) (m : Machine) (command : Command) (given : Reply) → is_due m command ≡ true → Replies r m command (record { report = None; reply = given }) → is_outside given ≡ true
due_excused r m command given due (inl two) = let e : true ≡ false = sym due ∙ two.0 in cc
due_excused r m command given due (inr excuse) = excused command given excuse

pub excuses_are_few : ExcusesAreFew
excuses_are_few = record {
  space = λ r m answer legal. space_told r m answer.report answer.reply legal.reply;
  ended = λ r m answer legal. end_told r m answer.report answer.reply legal.reply;
  checkpoint = λ r m report given legal. checkpoint_told r m report given legal.reply;
  due = λ r m command given due legal. due_excused r m command given due legal.reply;
}

-- ---- the tree's replies

either_reply : (t : Bool) (a b : Reply) → (cond t a b ≡ b) ⊎ (cond t a b ≡ a)
either_reply true a b = inr refl
either_reply false a b = inl refl

plain_reply : (m : Machine) (command : Command) → is_plain command ≡ true
    → (reply_to m command ≡ (step m.tree command).0) ⊎ (reply_to m command ≡ reply.Refused (NoSpace (free_of m) (need command)))
plain_reply m (Mkdir path) e = either_reply (changes m (Mkdir path) && is_full m (Mkdir path)) _ _
plain_reply m (Create path) e = either_reply (changes m (Create path) && is_full m (Create path)) _ _
plain_reply m (Write path offset bytes) e = either_reply (changes m (Write path offset bytes) && is_full m (Write path offset bytes)) _ _
plain_reply m (Truncate path size) e = either_reply (changes m (Truncate path size) && is_full m (Truncate path size)) _ _
plain_reply m (Remove path) e = either_reply (changes m (Remove path) && is_full m (Remove path)) _ _
plain_reply m (Rename from to) e = either_reply (changes m (Rename from to) && is_full m (Rename from to)) _ _
plain_reply m (Read path offset len) e = either_reply (changes m (Read path offset len) && is_full m (Read path offset len)) _ _
plain_reply m (ListOf path) e = either_reply (changes m (ListOf path) && is_full m (ListOf path)) _ _
plain_reply m (Stat path) e = either_reply (changes m (Stat path) && is_full m (Stat path)) _ _
plain_reply m (Layout path) e = cc
plain_reply m Space e = cc
plain_reply m Checkpoint e = cc
plain_reply m End e = cc

tree_now : (r : Rules) (m : Machine) (report : Option Report) → (when_answered r m report).tree ≡ m.tree
tree_now r m None = refl
tree_now r m (Some report) = refl

told : (now m : Machine) (command : Command) (given : Reply) → now.tree ≡ m.tree → given ≡ reply_to now command
    → (reply_to now command ≡ (step now.tree command).0) ⊎ (reply_to now command ≡ reply.Refused (NoSpace (free_of now) (need command)))
    → (given ≡ (step m.tree command).0) ⊎ (given ≡ reply.Refused (NoSpace (free_of now) (need command)))
told now m command given same is (inl e) = inl (is ∙ e ∙ ap (λ (t : Tree). (step t command).0) same)
told now m command given same is (inr e) = inr (is ∙ e)

pub replies_are_the_trees : RepliesAreTheTrees
replies_are_the_trees r m command answer legal none plain = by legal.reply
  where
    by : Replies r m command answer → (answer.reply ≡ (step m.tree command).0) ⊎ (answer.reply ≡ reply.Refused (NoSpace (free_of (when_answered r m answer.report)) (need command)))
    by (inl two) = told (when_answered r m answer.report) m command answer.reply (tree_now r m answer.report) two.1 (plain_reply (when_answered r m answer.report) command plain)
    by (inr excuse) = let no : true ≡ false = sym excuse ∙ none in cc

-- ---- the next state

then_tree : (t : Bool) (m now : Machine) (command : Command) → now.tree ≡ m.tree → (cond t (done now command) now).tree ≡ cond t (step m.tree command).1 m.tree
then_tree true m now command same = ap (λ (t : Tree). (step t command).1) same
then_tree false m now command same = same

pub next_tree : NextTree
next_tree r m command answer = then_tree (is_change command && is_done answer.reply) m (when_answered r m answer.report) command (tree_now r m answer.report)

then_stored : (t : Bool) (now : Machine) (command : Command) → stored (cond t (done now command) now) ≡ cond t (recorded (stored now) command) (stored now)
then_stored true now command = refl
then_stored false now command = refl

pub next_stored : NextStored
next_stored r m command answer = then_stored (is_change command && is_done answer.reply) (when_answered r m answer.report) command
