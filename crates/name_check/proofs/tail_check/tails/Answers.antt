use Rattle.std.proofs.Common.{◌≡◌, ◌∙◌, true, get_or, sym, ap}
use Rattle.std.proofs.lemmas.List.{drop_all}
use Rattle.disk_model.specs.Disk.{State}
use Rattle.block_format.specs.declared.inode.Inode.TheVariants.{Unused}
use Rattle.block_tree.specs.Tree.{blocks_in}
use Rattle.image_model.specs.Nodes.{first_node}
use Rattle.image_model.specs.declared.finding.Finding.TheVariants.{BadTail}
use Rattle.name_check.specs.Tails.{node_has_tail}
use Rattle.name_check.proofs.FirstLaws.{found_there, tails_seen}
use Rattle.name_check.proofs.tail_check.tails.Goals as goal

pub returns-then-branch-clause-found : goal.returns-then-branch-clause-found
returns-then-branch-clause-found g c tells s same ends =
    let read = blocks_in (g.D.Disk.state c.args.disk.now).contents in
    let last = c.args.last_blocks.now in
    let nodes = c.args.nodes.now in
    let k = c.loop-node.node-index in
    let bad : node_has_tail read last (get_or nodes k (0, Unused)) ≡ true =
    ap (λ (st : State). node_has_tail (blocks_in st.contents) last (get_or nodes k (0, Unused))) (sym (c.loop-node.invariant.same tells)) ∙ sym (c.in_ok-is_bad.ensures.has tells) ∙ c.if-branch.true in
    found_there (node_has_tail read last) BadTail nodes k (0, Unused) c.loop-node-test.true bad (c.loop-node.invariant.none tells) ∙ tails_seen read last s nodes same ends

pub returns-clause-found : goal.returns-clause-found
returns-clause-found g c tells s same ends =
    let read = blocks_in (g.D.Disk.state c.args.disk.now).contents in
    let last = c.args.last_blocks.now in
    let nodes = c.args.nodes.now in
    sym (ap (first_node (node_has_tail read last) BadTail) (drop_all c.loop-node.node-index nodes c.loop-node-test.false)) ∙ c.loop-node.invariant.none tells ∙ tails_seen read last s nodes same ends
