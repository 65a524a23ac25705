use Rattle.std.proofs.Common.{◌<◌, ℕ, List, get_or, sym, subst}
use Rattle.std.specs.Prelude.{All}
use Rattle.std.proofs.lemmas.Result.{on_ok_weaker}
use Rattle.disk_model.specs.Disk.{State}
use Rattle.disk_model.specs.Media.{Fixed}
use Rattle.disk_model.proofs.Moments.{adds_then, adds_weaker}
use Rattle.block_tree.specs.Notes.{Stand}
use Rattle.block_tree.specs.Tree.{blocks_in}
use Rattle.count_pairs.specs.Writing.{ChangesOnly}
use Rattle.count_pairs.proofs.ChangeLaws.{changes_then}
use Rattle.place_words.specs.Different.{Distinct}
use Rattle.point_plan.specs.Carries.{LineStands}
use Rattle.point_plan.specs.Planning.{blocks_written}
use Rattle.point_plan.specs.declared.planned.Plan.{Plan}
use Rattle.point_plan.specs.declared.planned_node.PlannedNode.{PlannedNode}
use Rattle.tree_model.specs.declared.report.Line.{Line}
use Rattle.consistency_point.specs.Writing.{IsOneOf, IsPageOf, blocks_of_lines, blocks_of_nodes}
use Rattle.consistency_point.proofs.ListLaws.{all_among, all_of}
use Rattle.consistency_point.proofs.PageLaws.{among_at}
use Rattle.consistency_point.proofs.StandLaws.{inodes_distinct, lines_distinct, nodes_distinct, of_inodes, of_line, of_node, plan_stands, weaker}
use Rattle.consistency_point.proofs.blocks.write_blocks.Goals as goal

pub write_nodes-requires : goal.write_nodes-requires
write_nodes-requires g c = record {
  within = subst (λ (ns : List PlannedNode). All (λ (b : ℕ). b < (g.D.Disk.fixed c.args.disk.now).size) (blocks_of_nodes ns)) (sym c.as_slice.ensures)
      (all_of (λ (b : ℕ). b < (g.D.Disk.fixed c.args.disk.now).size) (blocks_of_nodes c.args.plan.now.nodes) (blocks_written c.args.plan.now) (of_node c.args.plan.now c.requires.within.fresh) c.requires.within.blocks);
}

pub write_inode_pages-requires : goal.write_inode_pages-requires
write_inode_pages-requires g c = record {
  within = λ k d lt.
      let pages = c.args.plan.now.inode_pages in
      let at = (get_or pages k d).at in
      let below : at < (g.D.Disk.fixed c.args.disk.now).size = all_among (λ (b : ℕ). b < (g.D.Disk.fixed c.args.disk.now).size) (blocks_written c.args.plan.now) at c.requires.within.blocks (of_inodes c.args.plan.now c.requires.within.fresh at (among_at pages k d lt)) in
      subst (λ (f : Fixed). at < f.size) (sym c.write_nodes.ensures.fixed) below;
}

pub returns-in_err-write_nodes-clause-changes : goal.returns-in_err-write_nodes-clause-changes
returns-in_err-write_nodes-clause-changes g c = λ tells.
    let node_set : (b : ℕ) → IsOneOf (blocks_of_nodes c.as_slice.result.now) b → IsOneOf (blocks_written c.args.plan.now) b = λ b is. of_node c.args.plan.now c.requires.within.fresh b (subst (λ (ns : List PlannedNode). IsOneOf (blocks_of_nodes ns) b) c.as_slice.ensures is) in
    weaker node_set (c.write_nodes.ensures.changes tells)

pub returns-in_err-write_nodes-clause-during : goal.returns-in_err-write_nodes-clause-during
returns-in_err-write_nodes-clause-during g c = λ tells.
    let node_set : (b : ℕ) → IsOneOf (blocks_of_nodes c.as_slice.result.now) b → IsOneOf (blocks_written c.args.plan.now) b = λ b is. of_node c.args.plan.now c.requires.within.fresh b (subst (λ (ns : List PlannedNode). IsOneOf (blocks_of_nodes ns) b) c.as_slice.ensures is) in
    adds_weaker (c.write_nodes.ensures.during tells) (λ s during. weaker node_set during)

pub returns-in_err-write_inode_pages-clause-changes : goal.returns-in_err-write_inode_pages-clause-changes
returns-in_err-write_inode_pages-clause-changes g c = λ tells.
    let node_set : (b : ℕ) → IsOneOf (blocks_of_nodes c.as_slice.result.now) b → IsOneOf (blocks_written c.args.plan.now) b = λ b is. of_node c.args.plan.now c.requires.within.fresh b (subst (λ (ns : List PlannedNode). IsOneOf (blocks_of_nodes ns) b) c.as_slice.ensures is) in
    let page_set = of_inodes c.args.plan.now c.requires.within.fresh in
    changes_then (weaker node_set (c.write_nodes.ensures.changes tells)) (c.write_inode_pages.ensures.changes tells) page_set

pub returns-in_err-write_inode_pages-clause-during : goal.returns-in_err-write_inode_pages-clause-during
returns-in_err-write_inode_pages-clause-during g c = λ tells.
    let node_set : (b : ℕ) → IsOneOf (blocks_of_nodes c.as_slice.result.now) b → IsOneOf (blocks_written c.args.plan.now) b = λ b is. of_node c.args.plan.now c.requires.within.fresh b (subst (λ (ns : List PlannedNode). IsOneOf (blocks_of_nodes ns) b) c.as_slice.ensures is) in
    let page_set = of_inodes c.args.plan.now c.requires.within.fresh in
    adds_then (adds_weaker (c.write_nodes.ensures.during tells) (λ s during. weaker node_set during)) (c.write_inode_pages.ensures.during tells)
    (λ s during. changes_then (weaker node_set (c.write_nodes.ensures.changes tells)) during page_set)

pub returns-clause-changes : goal.returns-clause-changes
returns-clause-changes g c = λ tells.
    let node_set : (b : ℕ) → IsOneOf (blocks_of_nodes c.as_slice.result.now) b → IsOneOf (blocks_written c.args.plan.now) b = λ b is. of_node c.args.plan.now c.requires.within.fresh b (subst (λ (ns : List PlannedNode). IsOneOf (blocks_of_nodes ns) b) c.as_slice.ensures is) in
    let page_set = of_inodes c.args.plan.now c.requires.within.fresh in
    let line_set : (b : ℕ) → IsOneOf (blocks_of_lines c.as_slice-2.result.now) b → IsOneOf (blocks_written c.args.plan.now) b = λ b is. of_line c.args.plan.now c.requires.within.fresh b (subst (λ (ls : List Line). IsOneOf (blocks_of_lines ls) b) c.as_slice-2.ensures is) in
    changes_then (changes_then (weaker node_set (c.write_nodes.ensures.changes tells)) (c.write_inode_pages.ensures.changes tells) page_set) (c.write_lines.ensures.changes tells) line_set

pub returns-clause-during : goal.returns-clause-during
returns-clause-during g c = λ tells.
    let node_set : (b : ℕ) → IsOneOf (blocks_of_nodes c.as_slice.result.now) b → IsOneOf (blocks_written c.args.plan.now) b = λ b is. of_node c.args.plan.now c.requires.within.fresh b (subst (λ (ns : List PlannedNode). IsOneOf (blocks_of_nodes ns) b) c.as_slice.ensures is) in
    let page_set = of_inodes c.args.plan.now c.requires.within.fresh in
    let line_set : (b : ℕ) → IsOneOf (blocks_of_lines c.as_slice-2.result.now) b → IsOneOf (blocks_written c.args.plan.now) b = λ b is. of_line c.args.plan.now c.requires.within.fresh b (subst (λ (ls : List Line). IsOneOf (blocks_of_lines ls) b) c.as_slice-2.ensures is) in
    adds_then
    (adds_then (adds_weaker (c.write_nodes.ensures.during tells) (λ s during. weaker node_set during)) (c.write_inode_pages.ensures.during tells)
    (λ s during. changes_then (weaker node_set (c.write_nodes.ensures.changes tells)) during page_set))
    (c.write_lines.ensures.during tells)
    (λ s during. changes_then (changes_then (weaker node_set (c.write_nodes.ensures.changes tells)) (c.write_inode_pages.ensures.changes tells) page_set) during line_set)

pub returns-clause-stand : goal.returns-clause-stand
returns-clause-stand g c = on_ok_weaker c.write_lines.result (λ stand tells distinct.
    let plan : Plan = c.args.plan.now in
    let fresh = c.requires.within.fresh in
    let s1 : State = g.D.Disk.state c.write_nodes.new.disk in
    let s2 : State = g.D.Disk.state c.write_inode_pages.new.disk in
    let s3 : State = g.D.Disk.state c.write_lines.new.disk in
    let second : ChangesOnly (IsPageOf plan.inode_pages) s1 s2 = c.write_inode_pages.ensures.changes tells in
    let third : ChangesOnly (IsOneOf (blocks_of_lines plan.report.lines)) s2 s3 = subst (λ (ls : List Line). ChangesOnly (IsOneOf (blocks_of_lines ls)) s2 s3) c.as_slice-2.ensures (c.write_lines.ensures.changes tells) in
    let nodes = subst (λ (ns : List PlannedNode). All (λ (p : PlannedNode). Stand p.pages (blocks_in s1.contents)) ns) c.as_slice.ensures
    (c.in_ok-write_nodes.ensures.stand tells (subst (λ (ns : List PlannedNode). Distinct (blocks_of_nodes ns)) (sym c.as_slice.ensures) (nodes_distinct plan fresh distinct))) in
    let pages = c.in_ok-write_inode_pages.ensures.stand tells (inodes_distinct plan fresh distinct) in
    let lines = subst (λ (ls : List Line). All (LineStands c.args.dirty.now.overlay (blocks_in s3.contents)) ls) c.as_slice-2.ensures
    (stand tells (subst (λ (ls : List Line). Distinct (blocks_of_lines ls)) (sym c.as_slice-2.ensures) (lines_distinct plan fresh distinct))) in
    plan_stands plan fresh distinct c.args.dirty.now.overlay second third nodes pages lines) c.write_lines.ensures.stand
