-- What the effect of an accepted command is, as far as nodes and places go.
use Rattle.std.specs.Prelude.{◌≡◌, ℕ, true, List, map, Some}
use Rattle.vol_numbers.specs.declared.block.Block.{Block}
use Rattle.dirty_store.specs.declared.effect.Effect.{Effect}
use Rattle.dirty_store.specs.Laws.{touched_with}
use Rattle.dirty_store.specs.Overlay.{Overlay, IsEffect, clean, cut_of, staged}
use Rattle.image_model.specs.Stands.{Stands}
use Rattle.node_table.specs.Changes.{Does}
use Rattle.node_table.specs.Held.{Nodes, HoldsNodes, AreDirectories}
use Rattle.node_table.specs.declared.change.Change.{Change}
use Rattle.point_model.specs.Holding.{HoldsMachine}
use Rattle.point_model.specs.NodeChanges.{IsTableOf, IsEffectOfChange}
use Rattle.state_laws.specs.Accepted.{IsAccepted}
use Rattle.state_laws.specs.States.{IsCoherent, is_held}
use Rattle.tree_model.specs.declared.command.Command.{Command}
use Rattle.tree_model.specs.Step.{step}
use Rattle.tree_model.specs.Tree.{Tree}
use Rattle.tree_model.specs.Touched.{touched}
use Rattle.volume_model.specs.Done.{is_cut, cut_by, done}
use Rattle.volume_model.specs.Cache.{CacheList}
use Rattle.volume_model.specs.Machine.{Machine, Rules, Stored, at_point, block_at}
use Rattle.volume_model.specs.Places.{Spot}

-- The effect touches what the command does, with the bytes after it, and cuts off what the command does of what is kept or dirty.
pub record IsEffectOn (m : Machine) (command : Command) (e : Effect) : Type 0 where
  pub touches : map (λ t. (e.number, t.place)) e.touched ≡ touched m.tree command
  pub bytes : (place : ℕ) (block : Block) → touched_with e.touched place ≡ Some block → block.bytes ≡ block_at (step m.tree command).1 (e.number, place)
  pub cuts : (spot : Spot) → is_held m spot ≡ true → is_cut (cut_of e) spot ≡ is_cut (cut_by m.tree command) spot

-- A table had the nodes of an image and an overlay, a change of it did the command, and the effect is that of the change.
pub record StagesChange (old : List Block) (o : Overlay) (tree : Tree) (command : Command) (before after : Nodes) (e : Effect) : Type 0 where
  pub table : IsTableOf old o before
  pub change : Change
  pub does : Does command change before after
  pub holds : HoldsNodes after (step tree command).1
  pub directories : AreDirectories after
  pub effect : IsEffectOfChange change after e

-- Staging the effect of an accepted command keeps what an image and an overlay hold, and the table after the command is then theirs.
abbrev pub StagingHolds : Type 0
StagingHolds = (r : Rules) (old : List Block) (o : Overlay) (m : Machine) (command : Command) (before after : Nodes) (e : Effect) → IsCoherent r m → IsAccepted m.tree command → IsEffect e
    → HoldsMachine old o m → IsEffectOn m command e → StagesChange old o m.tree command before after e → HoldsMachine old (staged o e) (done m command) × IsTableOf old (staged o e) after

-- A table that has the nodes of an image and an overlay holds the machine's tree, and each directory of it is one.
abbrev pub TableHoldsTree : Type 0
TableHoldsTree = (old : List Block) (o : Overlay) (m : Machine) (nodes : Nodes) → HoldsMachine old o m → IsTableOf old o nodes → HoldsNodes nodes m.tree × AreDirectories nodes

-- Just after a point, and at a mount before the records are done, an image and a clean overlay hold what the machine does.
abbrev pub AtRest : Type 0
AtRest = (old : List Block) (s : Stored) (cache : CacheList) → Stands old s → HoldsMachine old clean (at_point s.layout s.tree s.places s.point cache)
