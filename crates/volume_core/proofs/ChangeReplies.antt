-- What the model replies to a change at which no point is due any more.
use Rattle.std.proofs.Common.{◌≡◌, ◌∙◌, ◌≤◌, ◌+◌, ℕ, Bool, true, false, cond, List, [], ◌∷◌, Option, Some, None, refl, sym, ap, arith}
use Rattle.std.specs.Prelude.{◌&&◌, not, is_some, nat_lt}
use Rattle.std.proofs.lemmas.Bool.Decides.{nat_tests}
use Rattle.op_log.specs.Record.{record_blocks}
use Rattle.space_account.specs.Charge.{need}
use Rattle.state_laws.specs.Laws.{AcceptedIsDone}
use Rattle.tree_model.specs.declared.command.Command.{Command}
use Rattle.tree_model.specs.declared.command.Command.TheVariants.{Mkdir, Create, Write, Truncate, Remove, Rename, Read, List as ListOf, Stat, Layout, Space, Checkpoint, End}
use Rattle.tree_model.specs.declared.refusal.Refusal.{Refusal}
use Rattle.tree_model.specs.declared.refusal.Refusal.TheVariants.{NoSpace}
use Rattle.tree_model.specs.declared.reply.Reply.TheVariants.{Done, Refused}
use Rattle.tree_model.specs.declared.report.Report.{Report}
use Rattle.tree_model.specs.Step.{step, is_change, refusal_of}
use Rattle.volume_model.specs.Legal.{changes, is_due, is_full, is_nothing, lacks_room, reply_to, when_answered}
use Rattle.volume_model.specs.LogUse.{log_use}
use Rattle.volume_model.specs.Machine.{Machine, Rules, free_of}
use Rattle.volume_core.proofs.LookLaws.{refused_is}

-- ---- replies

change_reply : (m : Machine) (command : Command) → is_change command ≡ true
    → reply_to m command ≡ cond (changes m command && is_full m command) (Refused (NoSpace (free_of m) (need command))) (step m.tree command).0
change_reply m (Mkdir path) is = refl
change_reply m (Create path) is = refl
change_reply m (Write path offset bytes) is = refl
change_reply m (Truncate path size) is = refl
change_reply m (Remove path) is = refl
change_reply m (Rename from to) is = refl
change_reply m (Read path offset len) is = cc
change_reply m (ListOf path) is = cc
change_reply m (Stat path) is = cc
change_reply m (Layout path) is = cc
change_reply m Space is = cc
change_reply m Checkpoint is = cc
change_reply m End is = cc

-- what the tree refuses is no change of it
not_taken : (m : Machine) (command : Command) (e : Refusal) → refusal_of m.tree command ≡ Some e → changes m command ≡ false
not_taken m command e is = by (is_change command)
  where
    by : (x : Bool) → (x && not (is_some (refusal_of m.tree command))) ≡ false
    by true = ap (λ (o : Option Refusal). not (is_some o)) is
    by false = refl

pub taken : (m : Machine) (command : Command) → is_change command ≡ true → refusal_of m.tree command ≡ None → changes m command ≡ true
taken m command is none = rw (is, none) refl

-- A change that the tree refuses gets its refusal,
pub refused_reply : (m : Machine) (command : Command) (e : Refusal) → is_change command ≡ true → refusal_of m.tree command ≡ Some e → Refused e ≡ reply_to m command
refused_reply m command e is refused = sym (change_reply m command is ∙ ap (λ (x : Bool). cond (x && is_full m command) (Refused (NoSpace (free_of m) (need command))) (step m.tree command).0) (not_taken m command e refused) ∙ refused_is m.tree command e (sym refused))

-- one that lacks space is told so,
pub full_reply : (m : Machine) (command : Command) → is_change command ≡ true → refusal_of m.tree command ≡ None → is_full m command ≡ true
    → Refused (NoSpace (free_of m) (need command)) ≡ reply_to m command
full_reply m command is none full = sym (change_reply m command is ∙ rw (taken m command is none, full) refl)

-- and every other one is done.
pub done_reply : AcceptedIsDone → (m : Machine) (command : Command) → is_change command ≡ true → refusal_of m.tree command ≡ None → is_full m command ≡ false → reply_to m command ≡ Done
done_reply law m command is none room = change_reply m command is ∙ rw (taken m command is none, room) (law.done m.tree command (record { change = is; accepted = none }))

-- ---- no point is due any more

due_is : (m : Machine) (command : Command) → is_change command ≡ true → is_due m command ≡ (changes m command && not (is_nothing m.records) && lacks_room m command)
due_is m (Mkdir path) is = refl
due_is m (Create path) is = refl
due_is m (Write path offset bytes) is = refl
due_is m (Truncate path size) is = refl
due_is m (Remove path) is = refl
due_is m (Rename from to) is = refl
due_is m (Read path offset len) is = cc
due_is m (ListOf path) is = cc
due_is m (Stat path) is = cc
due_is m (Layout path) is = cc
due_is m Space is = cc
due_is m Checkpoint is = cc
due_is m End is = cc

-- just after a point, and where none was due, none is
pub none_due : (r : Rules) (m : Machine) (command : Command) (report : Option Report) → is_change command ≡ true → is_due m command ≡ is_some report → is_due (when_answered r m report) command ≡ false
none_due r m command None is due = due
none_due r m command (Some report) is due = due_is (when_answered r m (Some report)) command is ∙ none (changes (when_answered r m (Some report)) command) (lacks_room (when_answered r m (Some report)) command)
  where
    none : (x y : Bool) → ((x && false) && y) ≡ false
    none true y = refl
    none false y = refl

-- Then a change that the tree takes lacks space exactly where it lacks room.
pub full_is : (m : Machine) (command : Command) → is_change command ≡ true → changes m command ≡ true → is_due m command ≡ false → record_blocks command ≤ 17 → 64 ≤ m.layout.log_blocks
    → is_full m command ≡ lacks_room m command
full_is m command is takes due few long = by m.records refl
  where
    by : (cs : List Command) → m.records ≡ cs → is_full m command ≡ lacks_room m command
    by [] e =
        let short : nat_lt m.layout.log_blocks (log_use [] + record_blocks command) ≡ false = grind (arith, nat_tests) in
        rw (e, short) (ap (λ (n : ℕ). nat_lt (free_of m) n) (omega arith))
    by (c ∷ cs) e =
        let not_due : (true && not (is_nothing m.records) && lacks_room m command) ≡ false = ap (λ (x : Bool). x && not (is_nothing m.records) && lacks_room m command) (sym takes) ∙ sym (due_is m command is) ∙ due in
        let room : lacks_room m command ≡ false = ap (λ (x : List Command). true && not (is_nothing x) && lacks_room m command) (sym e) ∙ not_due in
        ap (λ (x : List Command). is_nothing x && nat_lt (free_of m) (need command)) e ∙ sym room
