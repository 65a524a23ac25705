-- What a second session answers.
use Rattle.std.proofs.Common.{◌≡◌, ◌∙◌, ⊎_elim, true, false, List, [], ◌∷◌, ◌++◌, sym, ap, IsTrue, Bool, subst}
use Rattle.std.proofs.lemmas.Bool.{false≢true}
use Rattle.tree_model.specs.declared.command.Command.{Command}
use Rattle.tree_model.specs.declared.command.Command.TheVariants.{Mkdir, Create, Write, Truncate, Remove, Rename, Read, List as ListOf, Stat, Layout, Space, Checkpoint, End}
use Rattle.tree_model.specs.declared.report.Answer.{Answer}
use Rattle.tree_model.specs.Tree.{Tree}
use Rattle.tree_model.specs.Step.{step}
use Rattle.volume_model.specs.Legal.{is_excuse, when_answered}
use Rattle.volume_model.specs.Machine.{Machine, Rules}
use Rattle.volume_model.specs.Short.{IsLegalForNow, answered}
use Rattle.session_model.specs.Course.{Exchange, Last, acknowledged, accepted, next_by, state_after}
use Rattle.session_model.specs.Answered.{IsLegalAt, EachLegal}
use Rattle.session_model.specs.Follows.{Seen}
use Rattle.session_model.specs.Runs.{HasRun, IsVolume, looks, SecondAnswers}
use Rattle.session_model.specs.Runs.HasRun.{served}
use Rattle.session_model.specs.SessionMaking.{ServedRuns}
use Rattle.session_model.proofs.Passing.{state_tree, when_tree}
use Rattle.session_model.proofs.Stored.{two_runs}

legal_in : (r : Rules) (m : Machine) (before : List Exchange) (e : Exchange) (later : List Exchange) (last : Last) → EachLegal r m (before ++ e ∷ later) last → IsLegalAt r (state_after r m before) e
legal_in r m [] e later last legal = legal.0
legal_in r m (x ∷ before) e later last legal = legal_in r (next_by r m x) before e later last legal.1

-- the reply in a state with this tree, unless there is an excuse
by_tree : (r : Rules) (m : Machine) (command : Command) (answer : Answer) → answer.reply ≡ (step (when_answered r m answer.report).tree command).0 → answer.reply ≡ (step m.tree command).0
by_tree r m command answer is = is ∙ ap (λ (t : Tree). (step t command).0) (when_tree r m answer.report)

no_excuse : (command : Command) (answer : Answer) → is_excuse command answer ≡ false → IsTrue (is_excuse command answer) → ⊥
no_excuse command answer e is = absurd (false≢true (sym e ∙ is))

look_reply : (r : Rules) (m : Machine) (command : Command) (answer : Answer) → IsLegalForNow r m command (answered answer) → looks command ≡ true → is_excuse command answer ≡ false → answer.reply ≡ (step m.tree command).0
look_reply r m (Read path offset len) answer legal look sound = ⊎_elim (λ p. by_tree r m (Read path offset len) answer p.1) (λ x. absurd (no_excuse (Read path offset len) answer sound x)) legal.reply
look_reply r m (ListOf path) answer legal look sound = ⊎_elim (λ p. by_tree r m (ListOf path) answer p.1) (λ x. absurd (no_excuse (ListOf path) answer sound x)) legal.reply
look_reply r m (Stat path) answer legal look sound = ⊎_elim (λ p. by_tree r m (Stat path) answer p.1) (λ x. absurd (no_excuse (Stat path) answer sound x)) legal.reply
look_reply r m (Mkdir path) answer legal look sound = absurd (false≢true look)
look_reply r m (Create path) answer legal look sound = absurd (false≢true look)
look_reply r m (Write path offset bytes) answer legal look sound = absurd (false≢true look)
look_reply r m (Truncate path size) answer legal look sound = absurd (false≢true look)
look_reply r m (Remove path) answer legal look sound = absurd (false≢true look)
look_reply r m (Rename from to) answer legal look sound = absurd (false≢true look)
look_reply r m (Layout path) answer legal look sound = absurd (false≢true look)
look_reply r m Space answer legal look sound = absurd (false≢true look)
look_reply r m Checkpoint answer legal look sound = absurd (false≢true look)
look_reply r m End answer legal look sound = absurd (false≢true look)

pub second_answers : SecondAnswers
second_answers s start known taken run image is r m volume before later last command answer legal look sound = record {
  tree = m.tree;
  keeps = (two_runs s start known taken run image is).keeps m volume;
  is = look_reply r (state_after r m before) command answer (legal_in r m before _ later last legal).0 look sound ∙ ap (λ (t : Tree). (step t command).0) (state_tree r m before);
}

pub served_runs : (tells : Bool) (d d' : Seen) → ServedRuns tells d d'
served_runs tells d d' r t t' n n' i i' o o' status is s =
    let c = s.session.course in
    subst (λ (m : Machine). HasRun d'.state m.tree (acknowledged c) (accepted r c)) s.session.starts
    (served r c d.state.contents d'.state (subst (λ (m : Machine). IsVolume m d.state.contents) (sym s.session.starts) (s.is_volume is).0) (s.session.follows.leaves is))
