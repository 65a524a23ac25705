use Rattle.std.proofs.Common.{◌<◌, ◌/◌, List, take, get_or, take_all, sym, ap, subst, ◌∙◌, arith}
use Rattle.std.specs.Prelude.{All}
use Rattle.vol_numbers.specs.declared.runs.Change.{Change}
use Rattle.block_tree.specs.Edit.{leaves_of}
use Rattle.place_words.specs.Different.{different}
use Rattle.node_plan.proofs.LeafCounts.{counted_again, counted_more, counted_none, counted_as, leaves_more}
use Rattle.node_plan.proofs.room.leaf_count.Goals as goal
use Rattle.node_plan.proofs.room.leaf_count.Goals.{then-not-seen-leaf, else-not-seen-leaf}

pub loop-change-init : goal.loop-change-init
loop-change-init c = (counted_none, omega arith)

pub loop-change-preserved : goal.loop-change-preserved
loop-change-preserved c =
    let cs = c.as_slice-change-items.result.now in
    let i = c.loop-change.change-index in
    let inv = c.loop-change.invariant.0 in
    let lt = c.loop-change-test.true in
    let small : (d : Change) → (get_or cs i d).place / 1024 < 1024 = λ d. omega (arith, subst (λ (l : List Change). All (λ (x : Change). x.place < 1048576) l) (sym c.as_slice-change-items.ensures) c.requires i d lt) in
    elim c.if-not-seen-leaf.branch [
      | then-not-seen-leaf w ↦ (counted_as _ c.if-not-seen-leaf.seen _ _ _ c.if-not-seen-leaf.count w.seen-is (leaves_more cs i _ lt) w.count-is (counted_more c.loop-change.seen (leaves_of (take i cs)) c.loop-change.count _ inv (small _) w.if-not-seen-leaf.true), omega (arith, w.count-is, c.loop-change.invariant.1))
      | else-not-seen-leaf w ↦ (counted_as _ c.if-not-seen-leaf.seen _ _ _ c.if-not-seen-leaf.count w.seen-is (leaves_more cs i _ lt) w.count-is (counted_again c.loop-change.seen (leaves_of (take i cs)) c.loop-change.count _ inv (small _) w.if-not-seen-leaf.false), omega (arith, w.count-is, c.loop-change.invariant.1))
    ]

pub returns : goal.returns
returns c =
    let cs = c.as_slice-change-items.result.now in
    c.loop-change.invariant.0.count ∙ ap (λ (l : List Change). different (leaves_of l)) (take_all c.loop-change.change-index cs c.loop-change-test.false ∙ c.as_slice-change-items.ensures)
