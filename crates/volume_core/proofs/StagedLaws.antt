-- What is staged of a change holds the machine after it.
use Rattle.std.proofs.Common.{◌≡◌, true, List, sym, subst}
use Rattle.std.specs.Prelude.{None}
use Rattle.vol_numbers.specs.declared.block.Block.{Block}
use Rattle.dirty_store.specs.Overlay.{Overlay, IsEffect, staged}
use Rattle.dirty_store.specs.declared.effect.Effect.{Effect}
use Rattle.node_table.specs.Changes.{Does}
use Rattle.node_table.specs.Held.{Nodes, HoldsNodes, AreDirectories}
use Rattle.node_table.specs.declared.change.Change.{Change}
use Rattle.point_model.specs.Holding.{HoldsMachine}
use Rattle.point_model.specs.Staging.{TableHoldsTree}
use Rattle.point_model.specs.NodeChanges.{BuiltIsOfChange, IsBuiltOf, IsTableOf}
use Rattle.point_model.specs.Staging.{StagingHolds, IsEffectOn}
use Rattle.tree_model.specs.Shape.{IsTree}
use Rattle.tree_model.specs.Step.{is_change, refusal_of, step}
use Rattle.tree_model.specs.Tree.{Tree}
use Rattle.tree_model.specs.declared.command.Command.{Command}
use Rattle.volume_model.specs.Done.{done}
use Rattle.volume_model.specs.Machine.{Machine, Rules}
use Rattle.volume_core.specs.Memory.{Memory}
use Rattle.volume_core.specs.Staging.{HoldsNow, IsStaged}

-- The effect of a change that did the command was staged, and the table has the nodes after it.
pub record WasStaged (m : Machine) (command : Command) (before : Memory) (o : Overlay) (after : Nodes) (change : Change) (e : Effect) : Type 0 where
  pub does : Does command change before.nodes after
  pub directories : AreDirectories after
  pub holds : (tree : Tree) → IsTree tree → HoldsNodes before.nodes tree → refusal_of tree command ≡ None → HoldsNodes after (step tree command).1
  pub effect : IsEffect e
  pub built : IsBuiltOf command change before.nodes e
  pub on : IsEffectOn m command e
  pub overlay : o ≡ staged before.state.dirty.overlay e

module _ (holds_tree : TableHoldsTree) (built_is : BuiltIsOfChange) (staging : StagingHolds) (r : Rules) (m : Machine) (command : Command) (image : List Block) (before : Memory)
    (now : HoldsNow r m image before) where
  -- the table holds the machine's tree
  pub tree_now : HoldsNodes before.nodes m.tree
  tree_now = (holds_tree image before.state.dirty.overlay m before.nodes now.files.staged now.table).0

  pub staged_is : is_change command ≡ true → ((tree : Tree) → IsTree tree → HoldsNodes before.nodes tree → refusal_of tree command ≡ None) → (after : Memory) (change : Change) (e : Effect)
      → WasStaged m command before after.state.dirty.overlay after.nodes change e → IsStaged m command image after
  staged_is is accepted after change e was =
      let coherent = now.files.coherent in
      let fine : refusal_of m.tree command ≡ None = accepted m.tree coherent.tree tree_now in
      let both = staging r image before.state.dirty.overlay m command before.nodes after.nodes e coherent (record { change = is; accepted = fine }) was.effect now.files.staged was.on
      (record {
        table = now.table;
        change = change;
        does = was.does;
        holds = was.holds m.tree coherent.tree tree_now fine;
        directories = was.directories;
        effect = built_is command change before.nodes after.nodes e was.does was.built;
      }) in
      record {
        machine = subst (λ (o : Overlay). HoldsMachine image o (done m command)) (sym was.overlay) both.0;
        table = subst (λ (o : Overlay). IsTableOf image o after.nodes) (sym was.overlay) both.1;
      }
