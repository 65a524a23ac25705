-- Commands that are accepted in turn.
use Rattle.std.proofs.Common.{◌≡◌, ◌∙◌, ◌<◌, ◌≤◌, ◌+◌, ℕ, zero, suc, true, false, List, [], ◌∷◌, ◌++◌, length, get_or, take, Option, Some, None, refl, sym, ap, subst, arith}
use Rattle.std.specs.Prelude.{is_some, Bool, IsTrue}
use Rattle.tree_model.specs.Shape.{IsTree}
use Rattle.tree_model.specs.Step.{step, refusal_of, is_change}
use Rattle.tree_model.specs.Tree.{Tree}
use Rattle.tree_model.specs.declared.command.Command.{Command}
use Rattle.tree_model.specs.declared.refusal.Refusal.{Refusal}
use Rattle.tree_model.specs.declared.reply.Reply.TheVariants.{Done}
use Rattle.tree_model.proofs.RefusalLaws.{refusal_tells, changes_are_done}
use Rattle.tree_model.proofs.RenameLaws.{keeps_trees}
use Rattle.space_account.specs.Charge.{charge, need, pending}
use Rattle.volume_model.specs.Done.{all_done, done, mounted}
use Rattle.volume_model.specs.Machine.{Machine, Stored, at_point}
use Rattle.volume_model.specs.Accepted.{Accepts}
use Rattle.image_model.proofs.NextLaws.{accepted_more}
use Rattle.node_table.specs.Held.{Nodes, HoldsNodes}
use Rattle.log_check.specs.Accepting.{HoldsATree, IsTaken, TakesNext, TakesNot, IsCharged, IsRefusedAt, with_records}

-- a refused command isn't done
refused_not : (tree : Tree) (command : Command) (o : Option Refusal) → o ≡ refusal_of tree command → is_some o ≡ true → (step tree command).0 ≡ Done → ⊥
refused_not tree command (Some refusal) is some done =
    let told = (refusal_tells tree command refusal).0 (sym is) in cc
refused_not tree command None is some done = cc

-- the table refuses it on each tree that it holds
pub not_taken : (free charged : ℕ) (nodes : Nodes) (command : Command) (o : Option Refusal) → ((tree : Tree) → IsTree tree → HoldsNodes nodes tree → o ≡ refusal_of tree command) → is_some o ≡ true
    → TakesNot free charged nodes command
not_taken free charged nodes command o is some tree is_tree holds can = refused_not tree command o (is tree is_tree holds) some can.0

none_is : (o : Option Refusal) → is_some o ≡ false → o ≡ None
none_is (Some refusal) e = cc
none_is None e = refl

-- the table doesn't refuse it, and does it
pub taken_next : (free charged : ℕ) (old new : Nodes) (command : Command) (o : Option Refusal) → is_change command ≡ true → ((tree : Tree) → IsTree tree → HoldsNodes old tree → o ≡ refusal_of tree command)
    → is_some o ≡ false → charged + need command ≤ free → ((tree : Tree) → IsTree tree → HoldsNodes old tree → refusal_of tree command ≡ None → HoldsNodes new (step tree command).1)
    → TakesNext free charged old command new
taken_next free charged old new command o change is none fits does tree is_tree holds =
    let accepted : refusal_of tree command ≡ None = sym (is tree is_tree holds) ∙ none_is o none in
    ((changes_are_done tree command change accepted, fits), does tree is_tree holds accepted)

-- it holds the tree after it then
pub still_holds : (free charged : ℕ) (old new : Nodes) (command : Command) → HoldsATree old → TakesNext free charged old command new → HoldsATree new
still_holds free charged old new command held takes = record {
  tree = (step held.tree command).1;
  is_tree = keeps_trees.after_step held.tree command held.is_tree;
  holds = (takes held.tree held.is_tree held.holds).1;
}

pub not_true : (b : Bool) → b ≡ false → ¬ IsTrue b
not_true true e is = cc
not_true false e is = cc

-- ---- one after the other

pub take_next : {X : Type 0} (i : ℕ) (xs : List X) (x : X) → i < length xs → x ≡ get_or xs i x → take (i + 1) xs ≡ take i xs ++ x ∷ []
take_next i [] x lt is = absurd (omega arith)
take_next zero (y ∷ ys) x lt is = ap (λ (z : _). z ∷ []) (sym is)
take_next (suc i) (y ∷ ys) x lt is =
    let longer : suc i + 1 ≡ suc (i + 1) = omega arith in
    ap (λ (n : ℕ). take n (y ∷ ys)) longer ∙ ap (λ (l : List _). y ∷ l) (take_next i ys x (omega arith) is)

all_done_push : (m : Machine) (cs : List Command) (c : Command) → (all_done m (cs ++ c ∷ [])).tree ≡ (step (all_done m cs).tree c).1
all_done_push m [] c = refl
all_done_push m (d ∷ cs) c = all_done_push (done m d) cs c

mounted_push : (s : Stored) (cs : List Command) (c : Command) → (mounted (with_records s (cs ++ c ∷ []))).tree ≡ (step (mounted (with_records s cs)).tree c).1
mounted_push s cs c = all_done_push (at_point s.layout s.tree s.places s.point []) cs c

pending_push : (cs : List Command) (c : Command) → pending (cs ++ c ∷ []) ≡ pending cs + charge c
pending_push [] c = omega arith
pending_push (d ∷ cs) c = omega (arith, pending_push cs c)

-- nothing is charged at first
pub charged_none : (free : ℕ) (nodes : Nodes) → HoldsATree nodes → IsCharged free nodes [] nodes 0
charged_none free nodes held = record { still = held; charged_is = refl; takes = λ s is_tree holds. record { accepted = tt; is_tree = is_tree; holds = holds } }

module _ (free : ℕ) (old : Nodes) (cs : List Command) (i : ℕ) (c : Command) (nodes : Nodes) (charged : ℕ) (lt : i < length cs) (is : c ≡ get_or cs i c) (before : IsCharged free old (take i cs) nodes charged) where
  longer : take (i + 1) cs ≡ take i cs ++ c ∷ []
  longer = take_next i cs c lt is

  pub charged_next : (new : Nodes) → TakesNext free charged nodes c new → IsCharged free old (take (i + 1) cs) new (charged + charge c)
  charged_next new next = record {
    still = still_holds free charged nodes new c before.still next;
    charged_is = ap (λ (n : ℕ). n + charge c) before.charged_is ∙ sym (pending_push (take i cs) c) ∙ sym (ap pending longer);
    takes = λ s is_tree holds.
        let taken = before.takes s is_tree holds in
        let more = next (mounted (with_records s (take i cs))).tree taken.is_tree taken.holds in
        subst (λ (l : List Command). IsTaken free new (with_records s l)) (sym longer) (record {
          accepted = accepted_more.more free (with_records s (take i cs)) c taken.accepted more.0.0 (omega (arith, more.0.1, before.charged_is));
          is_tree = subst IsTree (sym (mounted_push s (take i cs) c)) (keeps_trees.after_step (mounted (with_records s (take i cs))).tree c taken.is_tree);
          holds = subst (HoldsNodes new) (sym (mounted_push s (take i cs) c)) more.1;
        });
  }

  pub refused_next : TakesNot free charged nodes c → IsRefusedAt free old cs i
  refused_next not_next = record {
    within = lt;
    before = λ s is_tree holds. (before.takes s is_tree holds).accepted;
    refused = λ s is_tree holds all.
        let taken = before.takes s is_tree holds in
        let last = accepted_more.last free (with_records s (take i cs)) c (subst (Accepts free s.tree 0) longer all) in
        not_next (mounted (with_records s (take i cs))).tree taken.is_tree taken.holds (last.0, omega (arith, last.1, before.charged_is));
  }
