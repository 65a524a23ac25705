use Rattle.std.proofs.Common.{◌≡◌, ◌<◌, ◌∙◌, ℕ, get_or, ap, sym, subst, arith}
use Rattle.count_pairs.specs.Writing.{ChangesOnly}
use Rattle.count_pairs.proofs.ChangeLaws.{changes_then}
use Rattle.disk_model.proofs.Moments.{adds_then}
use Rattle.point_plan.specs.declared.planned_node.PlannedNode.{PlannedNode}
use Rattle.consistency_point.specs.Writing.{IsOneOf, IsPageOf, blocks_of_nodes}
use Rattle.consistency_point.proofs.ListLaws.{all_among}
use Rattle.consistency_point.proofs.PageLaws.{among_at}
use Rattle.consistency_point.proofs.StandLaws.{node_distinct, node_within, nodes_more}
use Rattle.consistency_point.proofs.blocks.write_nodes.Goals as goal

pub write_pages-requires : goal.write_pages-requires
write_pages-requires g c =
    let nodes = c.args.nodes.now in
    let pages = c.as_slice.result.now in
    let own : pages ≡ (get_or nodes c.loop-node.node-index c.node-item.result).pages = c.as_slice.ensures ∙ ap (λ (p : PlannedNode). p.pages) c.node-item.is in
    record {
      within = λ k d lt.
          let one : IsOneOf (blocks_of_nodes nodes) (get_or pages k d).at = node_within nodes c.loop-node.node-index c.node-item.result pages c.loop-node-test.true own (get_or pages k d).at (among_at pages k d lt) in
          let below : (get_or pages k d).at < (g.D.Disk.fixed c.args.disk.now).size = all_among (λ (b : ℕ). b < (g.D.Disk.fixed c.args.disk.now).size) (blocks_of_nodes nodes) (get_or pages k d).at c.requires.within one in
          subst (λ f. (get_or pages k d).at < f.size) (sym c.loop-node.invariant.fixed) below;
    }

pub loop-node-preserved : goal.loop-node-preserved
loop-node-preserved g c =
    let inv = c.loop-node.invariant in
    let one = c.write_pages.ensures in
    let nodes = c.args.nodes.now in
    let i = c.loop-node.node-index in
    let d = c.node-item.result in
    let pages = c.as_slice.result.now in
    let own : pages ≡ (get_or nodes i d).pages = c.as_slice.ensures ∙ ap (λ (p : PlannedNode). p.pages) c.node-item.is in
    let within : (b : ℕ) → IsPageOf pages b → IsOneOf (blocks_of_nodes nodes) b = node_within nodes i d pages c.loop-node-test.true own in
    record {
      stand = λ tells distinct. nodes_more nodes i d pages c.loop-node-test.true own distinct (one.changes tells) (c.in_ok-write_pages.ensures.stand tells (node_distinct nodes i d pages c.loop-node-test.true own distinct)) (inv.stand tells distinct);
      changes = λ tells. changes_then (inv.changes tells) (one.changes tells) within;
      during = λ tells. adds_then {R = ChangesOnly (IsPageOf pages) (g.D.Disk.state c.loop-node.disk)} (inv.during tells) (one.during tells) (λ s during. changes_then (inv.changes tells) during within);
      fixed = one.fixed ∙ inv.fixed;
      given = one.given ∙ inv.given;
      faults = c.in_ok-write_pages.ensures.cause ∙ inv.faults;
    }

pub returns-in_err-write_pages-clause-changes : goal.returns-in_err-write_pages-clause-changes
returns-in_err-write_pages-clause-changes g c = λ tells.
    let nodes = c.args.nodes.now in
    let pages = c.as_slice.result.now in
    let own : pages ≡ (get_or nodes c.loop-node.node-index c.node-item.result).pages = c.as_slice.ensures ∙ ap (λ (p : PlannedNode). p.pages) c.node-item.is in
    changes_then (c.loop-node.invariant.changes tells) (c.write_pages.ensures.changes tells) (node_within nodes c.loop-node.node-index c.node-item.result pages c.loop-node-test.true own)

pub returns-in_err-write_pages-clause-during : goal.returns-in_err-write_pages-clause-during
returns-in_err-write_pages-clause-during g c = λ tells.
    let nodes = c.args.nodes.now in
    let pages = c.as_slice.result.now in
    let own : pages ≡ (get_or nodes c.loop-node.node-index c.node-item.result).pages = c.as_slice.ensures ∙ ap (λ (p : PlannedNode). p.pages) c.node-item.is in
    adds_then {R = ChangesOnly (IsPageOf pages) (g.D.Disk.state c.loop-node.disk)} (c.loop-node.invariant.during tells) (c.write_pages.ensures.during tells)
    (λ s during. changes_then (c.loop-node.invariant.changes tells) during (node_within nodes c.loop-node.node-index c.node-item.result pages c.loop-node-test.true own))

pub returns-clause-stand : goal.returns-clause-stand
returns-clause-stand g c = λ tells distinct k d lt. c.loop-node.invariant.stand tells distinct k d (omega (arith, lt, c.loop-node-test.false))
