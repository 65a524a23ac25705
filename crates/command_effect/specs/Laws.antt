-- Staging an effect in memory, whatever the disk.
use Rattle.std.specs.Prelude.{◌≡◌, ℕ}
use Rattle.dirty_store.specs.Overlay.{IsEffect, staged}
use Rattle.dirty_store.specs.Undo.{Store}
use Rattle.dirty_store.specs.declared.effect.Effect.{Effect}
use Rattle.node_table.specs.Changes.{Does, IsChangeWithin}
use Rattle.node_table.specs.Held.{AreDirectories, Nodes, held}
use Rattle.node_table.specs.declared.change.Change.{Change}
use Rattle.point_model.specs.NodeChanges.{IsBuiltOf}
use Rattle.point_plan.specs.State.{IsStagedWithin, node_in}
use Rattle.point_plan.specs.declared.state.PointState.{PointState}
use Rattle.tree_model.specs.declared.command.Command.{Command}
use Rattle.command_effect.specs.Effects.{ArePlacesWithin, CutsToSize}

-- What is staged is within the rules, and a table had the nodes of memory. A change of it within the rules does the command, and the
-- effect is built of that change.
pub record IsStagingOf (s : PointState) (command : Command) (change : Change) (before after : Nodes) (e : Effect) : Type 0 where
  pub within : IsStagedWithin s
  pub table : (n : ℕ) → held before n ≡ node_in s n
  pub does : Does command change before after
  pub rules : IsChangeWithin change
  pub directories : AreDirectories after
  pub built : IsBuiltOf command change before e
  pub effect : IsEffect e
  pub cut : CutsToSize command e.cut_to
  pub places : ArePlacesWithin e

-- Once the effect is staged, what is staged is within the rules, and the table after the change has the nodes of memory.
abbrev pub StagingFits : Type 0
StagingFits = (s : PointState) (command : Command) (change : Change) (before after : Nodes) (e : Effect) (dirty : Store) → IsStagingOf s command change before after e
    → dirty.overlay ≡ staged s.dirty.overlay e → IsStagedWithin (record s { dirty = dirty }) × ((n : ℕ) → held after n ≡ node_in (record s { dirty = dirty }) n)
