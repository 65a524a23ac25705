-- A change that is answered as done has room.
use Rattle.std.proofs.Common.{◌≡◌, ℕ, ◌+◌, ◌/◌, ◌≤◌, Bool, true, false, not, cond, List, [], ◌∷◌, length, Some, None, inl, inr, refl, sym, ap, subst, ◌∙◌, arith, length-append}
use Rattle.std.specs.Prelude.{◌&&◌, ◌||◌, ◌⊎◌, Option, is_some, nat_lt}
use Rattle.std.proofs.lemmas.Bool.Decides.{nat_tests}
use Rattle.tree_model.specs.declared.command.Command.{Command}
use Rattle.tree_model.specs.declared.command.Command.TheVariants.{Mkdir, Create, Write, Truncate, Remove, Rename, Read, List as ListOf, Stat, Layout, Space, Checkpoint, End}
use Rattle.tree_model.specs.declared.refusal.Refusal.{Refusal}
use Rattle.tree_model.specs.declared.refusal.Refusal.TheVariants.{NoSpace}
use Rattle.tree_model.specs.declared.reply.Reply.{Reply}
use Rattle.tree_model.specs.declared.reply.Reply.TheVariants as reply
use Rattle.tree_model.specs.declared.report.Answer.{Answer}
use Rattle.tree_model.specs.declared.report.Report.{Report}
use Rattle.tree_model.specs.Path.{Path, path_length}
use Rattle.tree_model.specs.Step.{step, is_change, refusal_of}
use Rattle.tree_model.specs.Tree.{Tree}
use Rattle.tree_model.proofs.RefusalLaws.{refusal_tells}
use Rattle.op_log.specs.Record.{HasRecord, IsLogPath, record_blocks, path_bytes}
use Rattle.space_account.specs.Charge.{charge, reserve, need, pending}
use Rattle.volume_model.specs.Accepted.{HasRoom}
use Rattle.volume_model.specs.Laws.{DoneHasRoom}
use Rattle.volume_model.specs.Legal.{is_nothing, changes, lacks_room, is_due, is_full, reply_to, is_outside, is_excuse, when_answered, Replies, IsLegal}
use Rattle.volume_model.specs.LogUse.{log_use}
use Rattle.volume_model.specs.Machine.{Machine, Rules, free_of}
use Rattle.volume_model.specs.Point.{after_point, fresh_in}
use Rattle.volume_model.specs.Short.{answered, IsLegalForNow, is_short}

-- ---- a record alone fits into the log of a valid layout

path_long : (path : Path) → length (path_bytes path) ≡ path_length path
path_long [] = refl
path_long (name ∷ names) = omega (arith, length-append name (path_bytes names), path_long names)

few_blocks : (bytes : ℕ) → bytes ≤ 70000 → (bytes + 4095) / 4096 ≤ 64
few_blocks bytes le = omega (arith, le)

one_path : (path : Path) → IsLogPath path → length (path_bytes path) ≤ 1024
one_path path is = omega (arith, path_long path, is.limits.length_at_most)

record_fits : (c : Command) → HasRecord c → record_blocks c ≤ 64
record_fits (Mkdir path) has = few_blocks _ (omega (arith, one_path path has))
record_fits (Create path) has = few_blocks _ (omega (arith, one_path path has))
record_fits (Write path offset bytes) has = few_blocks _ (omega (arith, one_path path has.0, has.3))
record_fits (Truncate path size) has = few_blocks _ (omega (arith, one_path path has.0))
record_fits (Remove path) has = few_blocks _ (omega (arith, one_path path has))
record_fits (Rename from to) has = few_blocks _ (omega (arith, one_path from has.0, one_path to has.1))
record_fits (Read path offset len) has = absurd has
record_fits (ListOf path) has = absurd has
record_fits (Stat path) has = absurd has
record_fits (Layout path) has = absurd has
record_fits Space has = absurd has
record_fits Checkpoint has = absurd has
record_fits End has = absurd has

-- ---- what holds of a change

pub reply_is : (m : Machine) (c : Command) → is_change c ≡ true → reply_to m c ≡ cond (changes m c && is_full m c) (reply.Refused (NoSpace (free_of m) (need c))) (step m.tree c).0
reply_is m Space e = cc
reply_is m (Layout path) e = cc
reply_is m c e = refl

due_is : (m : Machine) (c : Command) → is_change c ≡ true → is_due m c ≡ ((changes m c && not (is_nothing m.records)) && lacks_room m c)
due_is m Checkpoint e = cc
due_is m c e = refl

pub excuse_is : (c : Command) (given : Answer) → is_change c ≡ true → is_excuse c given ≡ true → is_outside given.reply ≡ true
excuse_is Space given e x = cc
excuse_is End given e x = cc
excuse_is Checkpoint given e x = cc
excuse_is c given e x = x

pub not_refused : (tree : Tree) (c : Command) (o : Option Refusal) → (step tree c).0 ≡ reply.Done → refusal_of tree c ≡ o → o ≡ None
not_refused tree c None ok e = refl
not_refused tree c (Some x) ok e = let refused : (step tree c).0 ≡ reply.Refused x = (refusal_tells tree c x).0 e in cc

pub kept_reply : (t : Bool) (refused : Refusal) (given : Reply) → cond t (reply.Refused refused) given ≡ reply.Done → (t ≡ false) × (given ≡ reply.Done)
kept_reply true refused given e = cc
kept_reply false refused given e = (refl, e)

-- a change that has this reply is one, and something is free for it
done_changes : (m : Machine) (c : Command) → is_change c ≡ true → reply_to m c ≡ reply.Done → (changes m c ≡ true) × (is_full m c ≡ false)
done_changes m c change ok = (now, subst (λ (t : Bool). (t && is_full m c) ≡ false) now told.0)
  where
    told : ((changes m c && is_full m c) ≡ false) × ((step m.tree c).0 ≡ reply.Done)
    told = kept_reply (changes m c && is_full m c) (NoSpace (free_of m) (need c)) (step m.tree c).0 (sym (reply_is m c change) ∙ ok)

    now : changes m c ≡ true
    now = λ i. change i && not (is_some (not_refused m.tree c (refusal_of m.tree c) (kept_reply (changes m c && is_full m c) (NoSpace (free_of m) (need c)) (step m.tree c).0 (sym (reply_is m c change) ∙ ok)).1 refl i))

-- ---- the room

none_is : (a b : Bool) → (a || b) ≡ false → (a ≡ false) × (b ≡ false)
none_is true b e = cc
none_is false b e = (refl, e)

nothing_takes : (commands : List Command) → is_nothing commands ≡ true → (pending commands ≡ 0) × (log_use commands ≡ 0)
nothing_takes [] e = (refl, refl)
nothing_takes (c ∷ cs) e = cc

alone : (m : Machine) (c : Command) → is_nothing m.records ≡ true → is_full m c ≡ false → HasRoom m c
alone m c nothing full = record {
  space =
      let enough : nat_lt (free_of m) (need c) ≡ false = subst (λ (t : Bool). (t && nat_lt (free_of m) (need c)) ≡ false) nothing full in
      let le : need c ≤ free_of m = grind (arith, nat_tests) in
      omega (arith, le, (nothing_takes m.records nothing).0);
  log = λ valid has. omega (arith, record_fits c has, (nothing_takes m.records nothing).1, valid.log_at_least);
}

behind : (m : Machine) (c : Command) → lacks_room m c ≡ false → HasRoom m c
behind m c has = record {
  space =
      let e = two.1 in
      let le : pending m.records + charge c + reserve c ≤ free_of m = grind (arith, nat_tests) in
      omega (arith, le);
  log = λ valid recorded. let e = two.0 in let le : log_use m.records + record_blocks c ≤ m.layout.log_blocks = grind (arith, nat_tests) in le;
}
  where
    two : (nat_lt m.layout.log_blocks (log_use m.records + record_blocks c) ≡ false) × (nat_lt (free_of m) (pending m.records + charge c + reserve c) ≡ false)
    two = none_is _ _ has

room : (m : Machine) (c : Command) → is_change c ≡ true → reply_to m c ≡ reply.Done → (is_nothing m.records ≡ true) ⊎ (is_due m c ≡ false) → HasRoom m c
room m c change ok why = by (is_nothing m.records) refl why
  where
    is : (changes m c ≡ true) × (is_full m c ≡ false)
    is = done_changes m c change ok

    by : (t : Bool) → is_nothing m.records ≡ t → (is_nothing m.records ≡ true) ⊎ (is_due m c ≡ false) → HasRoom m c
    by true e why = alone m c e (done_changes m c change ok).1
    by false e (inl nothing) = let never : true ≡ false = sym nothing ∙ e in cc
    by false e (inr none) = behind m c ((λ i. (sym (done_changes m c change ok).0 i && not (sym e i)) && lacks_room m c) ∙ sym (due_is m c change) ∙ none)

-- ---- the answers

room_then : (r : Rules) (m : Machine) (c : Command) (report : Option Report) → is_change c ≡ true → is_due m c ≡ is_some report → reply_to (when_answered r m report) c ≡ reply.Done
    → HasRoom (when_answered r m report) c
room_then r m c None change due ok = room m c change ok (inr due)
room_then r m c (Some report) change due ok = room (after_point r m (fresh_in report)) c change ok (inl refl)

legal_room : (r : Rules) (m : Machine) (c : Command) (given : Answer) → is_change c ≡ true → IsLegal r m c given → given.reply ≡ reply.Done → HasRoom (when_answered r m given.report) c
legal_room r m c given change legal ok = by legal.reply
  where
    by : Replies r m c given → HasRoom (when_answered r m given.report) c
    by (inl two) = room_then r m c given.report change two.0 (sym two.1 ∙ ok)
    by (inr excuse) = let never : false ≡ true = sym (ap is_outside ok) ∙ excuse_is c given change excuse in cc

pub done_has_room : DoneHasRoom
done_has_room = record { legal = legal_room; for_now = for_now }
  where
    for_now : (r : Rules) (m : Machine) (c : Command) (given : Answer) → is_change c ≡ true → IsLegalForNow r m c (answered given) → given.reply ≡ reply.Done → HasRoom (when_answered r m given.report) c
    for_now r m c given change legal ok = by (is_due m c && is_short m) refl
      where
        by : (t : Bool) → (is_due m c && is_short m) ≡ t → HasRoom (when_answered r m given.report) c
        by true e = let now = rw e at legal in let never : false ≡ true = sym (ap is_outside ok) ∙ excuse_is c given change now.1 in cc
        by false e = legal_room r m c given change (rw e at legal) ok
