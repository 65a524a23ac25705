use Rattle.std.proofs.Common.{ℕ, ap, ◌∙◌}
use Rattle.std.specs.Prelude.{Option}
use Rattle.std.specs.Ordering.{nat_cmp}
use Rattle.std.specs.FinMap.{put}
use Rattle.dirty_store.specs.declared.node_change.NodeChange.{NodeChange}
use Rattle.dirty_store.specs.Overlay.{lower_cut}
use Rattle.dirty_store.proofs.NodeLaws.{insert_put}
use Rattle.dirty_store.proofs.node_change.stage_node.Goals as goal

pub returns-clause-staged : goal.returns-clause-staged
returns-clause-staged c =
    let es = c.args.nodes.now.entries in
    let node = λ (n : ℕ). let change : NodeChange = record { inode = c.args.inode; cut_to = n } in change in
    c.in_ok-insert.ensures.entries ∙ insert_put es c.args.number (node c.lower_cut-cut_to.result)
    ∙ ap (λ n. put nat_cmp c.args.number (node n) es) (c.lower_cut-cut_to.ensures ∙ ap (λ (o : Option NodeChange). lower_cut o c.args.cut_to) c.node_of-was.ensures)
