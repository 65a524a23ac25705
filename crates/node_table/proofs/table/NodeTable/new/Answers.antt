use Rattle.std.proofs.Common.{ap, ◌∙◌, Some}
use Rattle.node_table.specs.declared.held.HeldNode.TheVariants.{Directory}
use Rattle.node_table.proofs.KeptLaws.{set_same, set_other}
use Rattle.node_table.proofs.NewLaws.{kept_none, new_holds}
use Rattle.node_table.proofs.table.NodeTable.new.Goals as goal

pub invariant_of-table : goal.invariant_of-table
invariant_of-table c = kept_none _ _ c.in_ok-nodes.ensures.places c.in_ok-nodes.ensures.none c.in_ok-used.ensures

pub returns : goal.returns
returns c =
    new_holds c.put.new.self
    (set_same c.in_ok-nodes.nodes.items c.put.new.self 1 (Some (Directory c.in_ok-root.root)) c.put.ensures ∙ ap (λ s. Some (Directory s)) c.in_ok-root.ensures)
    (λ k ne. set_other c.in_ok-nodes.nodes.items c.put.new.self 1 (Some (Directory c.in_ok-root.root)) c.put.ensures k ne ∙ c.in_ok-nodes.ensures.none k)
