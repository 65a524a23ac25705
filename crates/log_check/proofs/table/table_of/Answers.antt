use Rattle.node_table.specs.Held.{held}
use Rattle.log_check.specs.Holding.{IsTableOf}
use Rattle.log_check.proofs.MemoryTree.{a_tree}
use Rattle.log_check.proofs.PutLaws.{at_least, at_most, some_held, next_put, next_others, next_valid, all_put, all_valid}
use Rattle.log_check.proofs.TableLaws.{each_directory, holds_each}
use Rattle.log_check.proofs.table.table_of.Goals as goal

pub put_node-requires-clause-at_least : goal.put_node-requires-clause-at_least
put_node-requires-clause-at_least c = at_least c.args.nodes.now c.args.directories.now c.requires c.loop-node.node-index c.loop-node-test.true

pub put_node-requires-clause-at_most : goal.put_node-requires-clause-at_most
put_node-requires-clause-at_most c = at_most c.args.nodes.now c.args.directories.now c.requires c.loop-node.node-index c.loop-node-test.true

pub put_node-requires-clause-held : goal.put_node-requires-clause-held
put_node-requires-clause-held c = some_held c.args.nodes.now c.args.directories.now c.requires c.loop-node.node-index c.loop-node-test.true

pub loop-node-preserved : goal.loop-node-preserved
loop-node-preserved c =
    let nodes = c.args.nodes.now in
    let directories = c.args.directories.now in
    let i = c.loop-node.node-index in
    record {
      put = next_put nodes directories c.requires i c.loop-node-test.true (held c.loop-node.table) (held c.put_node.new.table) c.in_ok-put_node.ensures.put c.loop-node.invariant.put;
      others = next_others nodes directories c.requires i c.loop-node-test.true (held c.loop-node.table) (held c.put_node.new.table) c.in_ok-put_node.ensures.put c.loop-node.invariant.others;
      valid = next_valid nodes directories c.requires i c.loop-node-test.true c.loop-node.invariant.valid c.in_ok-put_node.ensures.directory;
    }

pub returns-clause-nodes : goal.returns-clause-nodes
returns-clause-nodes c = all_put c.args.nodes.now c.args.directories.now c.requires c.loop-node.node-index c.loop-node-test.false c.loop-node.table c.loop-node.invariant.put c.loop-node.invariant.others

pub returns-clause-trees : goal.returns-clause-trees
returns-clause-trees c =
    let is : IsTableOf c.args.nodes.now c.args.directories.now c.loop-node.table =
    all_put c.args.nodes.now c.args.directories.now c.requires c.loop-node.node-index c.loop-node-test.false c.loop-node.table c.loop-node.invariant.put c.loop-node.invariant.others in
    holds_each c.args.nodes.now c.args.directories.now c.requires c.loop-node.table is

pub returns-clause-a_tree : goal.returns-clause-a_tree
returns-clause-a_tree c =
    let is : IsTableOf c.args.nodes.now c.args.directories.now c.loop-node.table =
    all_put c.args.nodes.now c.args.directories.now c.requires c.loop-node.node-index c.loop-node-test.false c.loop-node.table c.loop-node.invariant.put c.loop-node.invariant.others in
    a_tree c.args.nodes.now c.args.directories.now c.requires (all_valid c.args.nodes.now c.args.directories.now c.requires c.loop-node.node-index c.loop-node-test.false c.loop-node.invariant.valid) c.loop-node.table is

pub returns-clause-directories : goal.returns-clause-directories
returns-clause-directories c =
    let is : IsTableOf c.args.nodes.now c.args.directories.now c.loop-node.table =
    all_put c.args.nodes.now c.args.directories.now c.requires c.loop-node.node-index c.loop-node-test.false c.loop-node.table c.loop-node.invariant.put c.loop-node.invariant.others in
    each_directory c.args.nodes.now c.args.directories.now c.loop-node.table is (all_valid c.args.nodes.now c.args.directories.now c.requires c.loop-node.node-index c.loop-node-test.false c.loop-node.invariant.valid)
