use Rattle.std.proofs.Common.{◌∙◌, ◌++◌, List, ℕ, sym, ap, subst}
use Rattle.std.proofs.lemmas.List.{append-nil}
use Rattle.vol_numbers.specs.Geometry.{layout_of}
use Rattle.block_tree.specs.Tree.{blocks_in}
use Rattle.image_model.specs.Met.{Met}
use Rattle.image_model.specs.Walk.{nodes_of}
use Rattle.image_walk.specs.Going.{Goes, Walks}
use Rattle.image_walk.proofs.GoingLaws.{goes_none, walks_device}
use Rattle.image_walk.proofs.InodeLaws.{block_none, inodes_none, block_some}
use Rattle.image_walk.proofs.OrderLaws.{nodes_none}
use Rattle.image_walk.proofs.inodes.walk_block.Goals as goal

pub returns-then-at-eq0-clause-walked : goal.returns-then-at-eq0-clause-walked
returns-then-at-eq0-clause-walked g c tells marks =
    subst (λ (ms : List Met). Goes (layout_of c.args.g.now) marks marks ms) (sym (block_none (blocks_in (g.D.Disk.state c.args.disk.now).contents) c.args.first c.args.at c.if-at-eq0.true)) (goes_none (layout_of c.args.g.now) marks)

pub returns-then-at-eq0-clause-nodes : goal.returns-then-at-eq0-clause-nodes
returns-then-at-eq0-clause-nodes g c tells =
    sym (ap (λ (xs : List (ℕ × List ℕ)). c.args.nodes.now.items ++ nodes_of xs) (inodes_none (blocks_in (g.D.Disk.state c.args.disk.now).contents) c.args.first c.args.at c.if-at-eq0.true) ∙ append-nil c.args.nodes.now.items)

pub returns-in_err-block-clause-walked : goal.returns-in_err-block-clause-walked
returns-in_err-block-clause-walked g c tells marks = walks_device _ _ _ _ _ c.from_residual.ensures.1

pub returns-clause-walked : goal.returns-clause-walked
returns-clause-walked g c tells marks =
    subst (λ (ms : List Met). Walks (layout_of c.args.g.now) marks marks ms c.meet_block.result)
    (sym (block_some (blocks_in (g.D.Disk.state c.args.disk.now).contents) c.args.first c.args.at c.in_ok-block.block.bytes c.if-at-eq0.false (c.in_ok-block.ensures.bytes tells))) (c.meet_block.ensures.walked marks)

pub returns-then-at-eq0-clause-grows : goal.returns-then-at-eq0-clause-grows
returns-then-at-eq0-clause-grows g c = nodes_none _ _ _
