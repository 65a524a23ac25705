use Rattle.std.proofs.Common.{◌≡◌, ℕ, [], refl, ap, sym, subst, arith}
use Rattle.std.specs.Prelude.{IsTrue, nat_lt, slice_index}
use Rattle.block_tree.specs.Notes.{Noted}
use Rattle.block_tree.specs.Opened.{FitsHeight, ChangesFit, IsTreeRewritten}
use Rattle.block_tree.specs.declared.root.TreeRoot.{TreeRoot}
use Rattle.block_tree.proofs.LeafLaws.{takes_none}
use Rattle.block_tree.proofs.UseLaws.{uses_none}
use Rattle.block_tree.proofs.SoundLaws.{sound_same}
use Rattle.block_tree.proofs.ClosingLaws.{tree_leaf, tree_top}
use Rattle.block_tree.proofs.rewriting.put_root.Goals as goal

low : (height : ℕ) → height ≡ 1 → IsTrue (nat_lt height 2)
low height e = rw e refl

pub returns-then-height-eq1-clause-rewritten : goal.returns-then-height-eq1-clause-rewritten
returns-then-height-eq1-clause-rewritten c read root changes cut m has turn fits all =
    let one = c.if-height-eq1.true in
    let ptr = slice_index c.args.leaves.now.ptrs 0 in
    let tree = tree_leaf has turn (omega arith) (low c.args.height one) (subst (λ (h : ℕ). FitsHeight read root cut h) one fits) (subst (λ (h : ℕ). ChangesFit h changes) one all) in
    subst (λ (h : ℕ). let new : TreeRoot = record { height = h; ptr = ptr } in IsTreeRewritten read root changes cut new m c.remove.new.self) (sym one) (rw c.in_ok-remove.ensures tree)

pub returns-then-height-eq1-clause-takes : goal.returns-then-height-eq1-clause-takes
returns-then-height-eq1-clause-takes c = takes_none c.args.notes.now c.remove.new.self (ap (λ (n : Noted). n.pages) c.in_ok-remove.ensures) (ap (λ (n : Noted). n.free) c.in_ok-remove.ensures)

pub returns-then-height-eq1-clause-uses : goal.returns-then-height-eq1-clause-uses
returns-then-height-eq1-clause-uses c = uses_none [] c.args.notes.now c.remove.new.self (ap (λ (n : Noted). n.pages) c.in_ok-remove.ensures) (ap (λ (n : Noted). n.added) c.in_ok-remove.ensures)

pub returns-then-height-eq1-clause-sound : goal.returns-then-height-eq1-clause-sound
returns-then-height-eq1-clause-sound c g top all sound =
    (sound_same g c.args.notes.now c.remove.new.self (ap (λ (n : Noted). n.pages) c.in_ok-remove.ensures) (ap (λ (n : Noted). n.free) c.in_ok-remove.ensures) sound, all 0 0 (omega arith))

pub returns-clause-rewritten : goal.returns-clause-rewritten
returns-clause-rewritten c read root changes cut m has turn fits all =
    let two : c.args.height ≡ 2 = omega arith in
    subst (λ (h : ℕ). let new : TreeRoot = record { height = h; ptr = c.in_ok-ptr.ptr } in IsTreeRewritten read root changes cut new m c.renew.new.notes) (sym two)
    (tree_top has turn (omega arith) c.in_ok-ptr.ptr c.requires.long c.in_ok-ptr.ensures)

pub returns-clause-sound : goal.returns-clause-sound
returns-clause-sound c g top all sound = c.in_ok-ptr.ensures.sound g all top sound
