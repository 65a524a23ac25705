use Rattle.std.proofs.Common.{◌<◌, ◌∙◌, ◌^◌, ℕ, List, length, ap, arith}
use Rattle.std.proofs.lemmas.List.Elements.{All-same}
use Rattle.std.proofs.lemmas.List.Sorted.{All-permutation}
use Rattle.vol_numbers.specs.Geometry.{layout_of}
use Rattle.vol_numbers.specs.declared.runs.Change.{Change}
use Rattle.block_format.specs.Index.{IsPointer}
use Rattle.place_words.specs.Different.{times}
use Rattle.block_tree.specs.Edit.{portion}
use Rattle.block_tree.specs.Notes.{Noted, change_blocks}
use Rattle.block_tree.proofs.EditLaws.{changed_sorted}
use Rattle.block_tree.proofs.ClosingLaws.{tree_like}
use Rattle.block_tree.proofs.PortionLaws.{same_leaves, same_blocks}
use Rattle.block_tree.proofs.UseLaws.{uses_like}
use Rattle.block_tree.proofs.PlanLaws.{tree_planned, order_planned, uses_planned, sound_begun, sound_planned}
use Rattle.block_tree.proofs.plan.plan_changes.Goals as goal

pub rewrite_tree-requires-clause-changes : goal.rewrite_tree-requires-clause-changes
rewrite_tree-requires-clause-changes g c =
    All-same (λ (x : Change). x.place < 1024 ^ c.args.height) c.as_slice.result.now c.in_ok-sorted.sorted.items c.as_slice.ensures.value
    (All-permutation (λ (x : Change). x.place < 1024 ^ c.args.height) c.args.changes.now c.in_ok-sorted.sorted.items c.in_ok-sorted.ensures.permutation c.requires.changes)

pub rewrite_tree-requires-clause-free : goal.rewrite_tree-requires-clause-free
rewrite_tree-requires-clause-free g c =
    let same = λ (k : ℕ). ap (λ (cs : List Change). portion k cs) c.as_slice.ensures.value ∙ c.in_ok-sorted.ensures.portions k in
    omega (arith, c.requires.free, same_leaves c.as_slice.result.now c.args.changes.now same, ap (λ (n : Noted). length n.free) c.in_ok-sorted.ensures.begun)

pub returns-clause-rewritten : goal.returns-clause-rewritten
returns-clause-rewritten g c tells =
    let same = λ (k : ℕ). ap (λ (cs : List Change). portion k cs) c.as_slice.ensures.value ∙ c.in_ok-sorted.ensures.portions k in
    tree_like c.args.changes.now (changed_sorted c.as_slice.result.now c.args.changes.now same)
    (tree_planned c.args.free.now c.into_rewritten.new.free c.in_ok-sorted.ensures.begun c.into_rewritten.result c.into_rewritten.ensures.made c.into_rewritten.ensures.free (c.in_ok-new.ensures.rewritten tells))

pub returns-clause-taken : goal.returns-clause-taken
returns-clause-taken g c =
    order_planned c.args.free.now c.into_rewritten.new.free c.in_ok-sorted.ensures.begun c.into_rewritten.result c.into_rewritten.ensures.made c.into_rewritten.ensures.free c.in_ok-new.ensures.takes

pub returns-clause-used : goal.returns-clause-used
returns-clause-used g c =
    let blocks = λ (b : ℕ). ap (λ (cs : List Change). times b (change_blocks cs)) c.as_slice.ensures.value ∙ same_blocks b c.args.changes.now c.in_ok-sorted.sorted.items c.in_ok-sorted.ensures.permutation in
    uses_like c.args.changes.now blocks
    (uses_planned c.args.free.now c.into_rewritten.new.free c.in_ok-sorted.ensures.begun c.into_rewritten.result c.into_rewritten.ensures.made c.into_rewritten.ensures.free c.in_ok-new.ensures.uses)

pub returns-clause-sound : goal.returns-clause-sound
returns-clause-sound g c lead all =
    let layout = layout_of c.args.g.now in
    let lead_on = All-same (λ (x : Change). IsPointer layout x.block) c.as_slice.result.now c.in_ok-sorted.sorted.items c.as_slice.ensures.value
    (All-permutation (λ (x : Change). IsPointer layout x.block) c.args.changes.now c.in_ok-sorted.sorted.items c.in_ok-sorted.ensures.permutation lead) in
    let sound = c.in_ok-new.ensures.sound lead_on (sound_begun c.in_ok-sorted.notes c.args.free.now c.in_ok-sorted.ensures.begun layout all) in
    sound_planned c.args.free.now c.into_rewritten.new.free c.in_ok-sorted.ensures.begun c.into_rewritten.result c.into_rewritten.ensures.made c.into_rewritten.ensures.free layout sound
