-- The tests say whether a point is due.
use Rattle.std.proofs.Common.{◌≡◌, ◌∙◌, zero, suc, ℕ, Bool, true, false, refl, sym, ap, arith}
use Rattle.std.proofs.lemmas.Bool.{eqb-true, false≢true}
use Rattle.std.specs.Prelude.{◌≢◌, not, is_some, nat_eq}
use Rattle.tree_model.specs.Step.{is_change}
use Rattle.volume_core.proofs.DueLaws.{by_room, is_refused, no_change, nothing_pends}
use Rattle.volume_core.proofs.InsideLaws.{is_inside, nodes_inside}
use Rattle.volume_core.proofs.volume.Volume.is_due.Goals.{then-is_change, else-is_change, then-is_none, else-is_none}
use Rattle.volume_core.proofs.volume.Volume.is_due.Goals as goal

not_false : (b : Bool) → not b ≡ false → b ≡ true
not_false true e = refl
not_false false e = sym e

ne_zero : (n : ℕ) (b : Bool) → b ≡ not (nat_eq n 0) → b ≡ true → n ≢ 0
ne_zero zero b e t = λ z. let h : false ≡ true = sym e ∙ t in cc
ne_zero (suc n) b e t = λ z. absurd (omega arith)

is_zero : (n : ℕ) (b : Bool) → b ≡ not (nat_eq n 0) → b ≡ false → n ≡ 0
is_zero n b e f = eqb-true n 0 (not_false (nat_eq n 0) (sym e ∙ f))

pub returns-then-self-ne0 : goal.returns-then-self-ne0
returns-then-self-ne0 c r m s is = elim c.if-is_none.branch [
  | then-is_none w ↦ elim c.if-is_change.branch [
    | then-is_change u ↦
        (let change : is_change c.args.command.now ≡ true = sym c.is_change.ensures ∙ u.if-is_change.true in
        let told = u.refusal.ensures m.tree is.holds.holds.coherent.tree (nodes_inside r m s _ c.args.self.now c.self.view_is is c.table_holds_tree.ensures _ c.requires.1) in
        let taken : is_some u.refusal.result ≡ false = u.is_none.ensures ∙ ap not (sym u.value-is ∙ w.if-is_none.true) in
        by_room r m s _ (is_inside r m s _ c.args.self.now c.self.view_is is) c.args.command.now c.in_default.not-Checkpoint change
        (ap is_some (sym told) ∙ taken) (ne_zero _ c.if-is_none.value w.value-is c.if-self-ne0.true) (not c.has_room.result) (c.has_room.ensures.lacks r m s is))
    | else-is_change u ↦ absurd (false≢true (sym u.if-is_change.false ∙ sym u.value-is ∙ w.if-is_none.true))
  ]
  | else-is_none w ↦ absurd (false≢true (sym w.if-is_none.false ∙ sym w.value-is ∙ c.if-self-ne0.true))
]

pub returns-else-self-ne0 : goal.returns-else-self-ne0
returns-else-self-ne0 c r m s is = elim c.if-is_none.branch [
  | then-is_none w ↦ elim c.if-is_change.branch [
    | then-is_change u ↦
        (let change : is_change c.args.command.now ≡ true = sym c.is_change.ensures ∙ u.if-is_change.true in
        let told = u.refusal.ensures m.tree is.holds.holds.coherent.tree (nodes_inside r m s _ c.args.self.now c.self.view_is is c.table_holds_tree.ensures _ c.requires.1) in
        let taken : is_some u.refusal.result ≡ false = u.is_none.ensures ∙ ap not (sym u.value-is ∙ w.if-is_none.true) in
        c.if-self-ne0.false ∙ nothing_pends r m s _ (is_inside r m s _ c.args.self.now c.self.view_is is) c.args.command.now c.in_default.not-Checkpoint change
        (ap is_some (sym told) ∙ taken) (is_zero _ c.if-is_none.value w.value-is c.if-self-ne0.false))
    | else-is_change u ↦ absurd (false≢true (sym u.if-is_change.false ∙ sym u.value-is ∙ w.if-is_none.true))
  ]
  | else-is_none w ↦ elim c.if-is_change.branch [
    | then-is_change u ↦
        (let change : is_change c.args.command.now ≡ true = sym c.is_change.ensures ∙ u.if-is_change.true in
        let told = u.refusal.ensures m.tree is.holds.holds.coherent.tree (nodes_inside r m s _ c.args.self.now c.self.view_is is c.table_holds_tree.ensures _ c.requires.1) in
        let refused : is_some u.refusal.result ≡ true = u.is_none.ensures ∙ ap not (sym u.value-is ∙ w.if-is_none.false) in
        c.if-self-ne0.false ∙ is_refused r m s _ (is_inside r m s _ c.args.self.now c.self.view_is is) c.args.command.now c.in_default.not-Checkpoint change
        (ap is_some (sym told) ∙ refused))
    | else-is_change u ↦
        c.if-self-ne0.false ∙ no_change r m s _ (is_inside r m s _ c.args.self.now c.self.view_is is) c.args.command.now c.in_default.not-Checkpoint (sym c.is_change.ensures ∙ u.if-is_change.false)
  ]
]
