-- What the words of a course mean: the next state, what is acknowledged, and that each state is reached.
use Rattle.std.proofs.Common.{◌≡◌, ◌≢◌, ◌≤◌, Bool, true, false, List, [], ◌∷◌, length, refl, sym, subst, arith}
use Rattle.std.specs.Prelude.{◌&&◌, if◌then◌else◌, Option}
use Rattle.tree_model.specs.declared.command.Command.{Command}
use Rattle.tree_model.specs.declared.report.Report.{Report}
use Rattle.tree_model.specs.Step.{is_change}
use Rattle.volume_model.specs.Done.{done, all_done}
use Rattle.volume_model.specs.Legal.{is_done, when_answered}
use Rattle.volume_model.specs.Machine.{Machine, Rules}
use Rattle.volume_model.specs.Short.{AnswerForNow, answered, point_short}
use Rattle.state_laws.specs.States.{IsReached, answer_for_now}
use Rattle.command_text.specs.declared.item.Item.{Item}
use Rattle.command_text.specs.declared.item.Item.TheVariants as item
use Rattle.session_model.specs.Given.{report_in, says_done}
use Rattle.session_model.specs.Course.{Exchange, Last, accepted_by, accepted_last, before_last, next_by, report_last, after, state_after}
use Rattle.session_model.specs.Course.Last.{Nothing, Untold, Stop}
use Rattle.session_model.specs.Answered.{IsPaired, EachPaired, IsLegalAt, EachLegal, IsLegalLast}
use Rattle.session_model.specs.Follows.{Seen}
use Rattle.session_model.specs.CourseLaws.{AcknowledgedFirst, NextIs, StatesAreReached}

at_most_one : (b : Bool) (command : Command) → length (if b then command ∷ [] else []) ≤ 1
at_most_one true command = omega arith
at_most_one false command = omega arith

at_most_one_by : (i : Item) (answer : AnswerForNow) → length (accepted_by (record { item = i; answer = answer })) ≤ 1
at_most_one_by (item.Command command) answer = at_most_one (is_change command && says_done answer) command
at_most_one_by (item.Refused refusal) answer = omega arith
at_most_one_by item.Ended answer = omega arith

at_most_one_last : (r : Rules) (m : Machine) (last : Last) → length (accepted_last r m last) ≤ 1
at_most_one_last r m Nothing = omega arith
at_most_one_last r m (Untold e) = at_most_one_by e.item e.answer
at_most_one_last r m (Stop command report) = at_most_one _ command

pub acknowledged_first : AcknowledgedFirst
acknowledged_first r c = record { more = accepted_last r (before_last r c) c.last; are = refl; at_most = at_most_one_last r (before_last r c) c.last }

by_test : (b : Bool) (m : Machine) (command : Command) → all_done m (if b then command ∷ [] else []) ≡ (if b then done m command else m)
by_test true m command = refl
by_test false m command = refl

not_done : (b : Bool) (m : Machine) (command : Command) → all_done m (if b && false then command ∷ [] else []) ≡ m
not_done true m command = refl
not_done false m command = refl

pub next_is : NextIs
next_is r m command (answered answer) = by_test (is_change command && is_done answer.reply) (when_answered r m answer.report) command
next_is r m command point_short = not_done (is_change command) m command

-- ---- states that are reached

reached_at : (r : Rules) (m : Machine) (i : Item) (answer : AnswerForNow) → IsReached r m → IsPaired (record { item = i; answer = answer }) → IsLegalAt r m (record { item = i; answer = answer })
    → IsReached r (next_by r m (record { item = i; answer = answer }))
reached_at r m (item.Command command) answer reached paired legal = subst (IsReached r) (sym (next_is r m command answer)) (answer_for_now m command answer reached legal.0)
reached_at r m (item.Refused refusal) answer reached paired legal = subst (λ (a : AnswerForNow). IsReached r (when_answered r m (report_in a))) (sym paired) reached
reached_at r m item.Ended answer reached paired legal = absurd paired

reached_before : (r : Rules) (m : Machine) (es : List Exchange) (last : Last) → IsReached r m → EachPaired es last → EachLegal r m es last → IsReached r (state_after r m es)
reached_before r m [] last reached paired legal = reached
reached_before r m (e ∷ es) last reached paired legal = reached_before r (next_by r m e) es last (reached_at r m e.item e.answer reached paired.0 legal.0) paired.1 legal.1

last_paired : (es : List Exchange) (last : Last) → EachPaired es last → EachPaired [] last
last_paired [] last paired = paired
last_paired (e ∷ es) last paired = last_paired es last paired.1

last_legal : (r : Rules) (m : Machine) (es : List Exchange) (last : Last) → EachLegal r m es last → IsLegalLast r (state_after r m es) last
last_legal r m [] last legal = legal
last_legal r m (e ∷ es) last legal = last_legal r (next_by r m e) es last legal.1

reached_last : (r : Rules) (m : Machine) (last : Last) → IsReached r m → ((command : Command) (report : Option Report) → last ≢ Stop command report) → EachPaired [] last → IsLegalLast r m last
    → IsReached r (after r m (report_last last) (accepted_last r m last))
reached_last r m Nothing reached goes paired legal = reached
reached_last r m (Untold e) reached goes paired legal = reached_at r m e.item e.answer reached paired legal
reached_last r m (Stop command report) reached goes paired legal = absurd (goes command report refl)

pub states_reached : (tells : Bool) (old new : Seen) → StatesAreReached tells old new
states_reached tells old new = record {
  before = λ r c is reached follows. reached_before r c.start c.told c.last reached follows.paired (follows.legal is);
  in_the_end = λ r c is reached goes follows.
      reached_last r (before_last r c) c.last (reached_before r c.start c.told c.last reached follows.paired (follows.legal is)) goes (last_paired c.told c.last follows.paired)
      (last_legal r c.start c.told c.last (follows.legal is));
}
