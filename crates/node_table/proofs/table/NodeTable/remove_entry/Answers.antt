use Rattle.std.proofs.Common.{ap, ◌∙◌}
use Rattle.std.specs.Prelude.{is_some}
use Rattle.node_table.specs.Held.{held}
use Rattle.node_table.specs.declared.held.HeldNode.TheVariants.{Directory}
use Rattle.node_table.proofs.KeptLaws.{kept_changed}
use Rattle.node_table.proofs.table.NodeTable.remove_entry.Goals as goal

pub invariant_of-self : goal.invariant_of-self
invariant_of-self c =
    kept_changed _ _ c.args.parent (Directory c.remove.new.self) c.self.invariant (ap (λ nodes. is_some (held nodes c.args.parent)) c.self.view_is ∙ ap is_some c.requires.directory) c.remove.ensures.directory
