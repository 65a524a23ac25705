-- What holds of the definitions, in words that they don't use.
use Rattle.std.specs.Prelude.{◌≡◌, ◌≤◌, ℕ, true, false, List, [], ◌∷◌, map, nat_eq, if◌then◌else◌, Option, Some, None}
use Rattle.std.specs.FinMap.{find}
use Rattle.vol_numbers.specs.declared.block.Block.{Block}
use Rattle.block_format.specs.declared.slot.Slot.{Slot}
use Rattle.vol_numbers.specs.declared.runs.Run.{Run}
use Rattle.tree_model.specs.declared.command.Command.{Command}
use Rattle.tree_model.specs.Touched.{touched}
use Rattle.volume_model.specs.Places.{Spot, spot_cmp, spot_eq, has_spot}
use Rattle.volume_model.specs.Machine.{Machine}
use Rattle.volume_model.specs.Done.{is_cut, cut_by, done, all_done}
use Rattle.dirty_store.specs.declared.effect.Effect.{Effect}
use Rattle.dirty_store.specs.declared.effect.Touched.{Touched}
use Rattle.dirty_store.specs.declared.effect.SlotChange.{SlotChange}
use Rattle.dirty_store.specs.Overlay.{Overlay, IsOverlay, IsEffect, node_of, lower_cut, cut_of, forgotten, staged}
use Rattle.dirty_store.specs.Runs.{AreRunsOf}

-- ---- blocks after a staging

-- the first of two that is there
abbrev pub first_of_two : {T : Type 0} → Option T → Option T → Option T
first_of_two None second = second
first_of_two (Some item) second = Some item

-- the block that a place is touched with last
abbrev pub touched_with : List Touched → ℕ → Option Block
touched_with [] place = None
touched_with (t ∷ ts) place = first_of_two (touched_with ts place) (if nat_eq t.place place then Some t.block else None)

-- A touched place is dirty with the block that it is touched with last. A place that is cut off and not touched is not dirty. Any other is as before.
pub record StagedBlocksAre : Type 0 where
  pub touched : (o : Overlay) (e : Effect) (place : ℕ) (block : Block)
      → touched_with e.touched place ≡ Some block → find spot_cmp (e.number, place) (staged o e).blocks ≡ Some block
  pub cut : (o : Overlay) (e : Effect) (place blocks : ℕ)
      → e.cut_to ≡ Some blocks → blocks ≤ place → touched_with e.touched place ≡ None → find spot_cmp (e.number, place) (staged o e).blocks ≡ None
  pub others : (o : Overlay) (e : Effect) (spot : Spot)
      → is_cut (cut_of e) spot ≡ false → (spot.0 ≡ e.number → touched_with e.touched spot.1 ≡ None) → find spot_cmp spot (staged o e).blocks ≡ find spot_cmp spot o.blocks

-- ---- nodes and slots after a staging

-- The effect's node has its kind and size, and the lower of the least cut and the effect's. Any other is as before.
pub record StagedNodesAre : Type 0 where
  pub own : (o : Overlay) (e : Effect) → node_of (staged o e) e.number ≡ Some (record { inode = e.inode; cut_to = lower_cut (node_of o e.number) e.cut_to })
  pub others : (o : Overlay) (e : Effect) (number : ℕ) → nat_eq number e.number ≡ false → node_of (staged o e) number ≡ node_of o number

-- the content that a slot is changed to last
abbrev pub changed_to : List SlotChange → Spot → Option Slot
changed_to [] spot = None
changed_to (c ∷ cs) spot = first_of_two (changed_to cs spot) (if spot_eq (c.directory, c.slot) spot then Some c.content else None)

-- A changed slot has the content that it is changed to last. A directory that is cut to no block keeps no other slot. Any other slot is as before.
pub record StagedSlotsAre : Type 0 where
  pub changed : (o : Overlay) (e : Effect) (spot : Spot) (content : Slot)
      → changed_to e.slots spot ≡ Some content → find spot_cmp spot (staged o e).slots ≡ Some content
  pub cut : (o : Overlay) (e : Effect) (k : ℕ)
      → e.cut_to ≡ Some 0 → changed_to e.slots (e.number, k) ≡ None → find spot_cmp (e.number, k) (staged o e).slots ≡ None
  pub others : (o : Overlay) (e : Effect) (spot : Spot)
      → is_cut (forgotten e) spot ≡ false → changed_to e.slots spot ≡ None → find spot_cmp spot (staged o e).slots ≡ find spot_cmp spot o.slots

-- Staging an effect leaves an overlay in order.
abbrev pub StagedIsInOrder : Type 0
StagedIsInOrder = (o : Overlay) (e : Effect) → IsOverlay o → IsEffect e → IsOverlay (staged o e)

-- ---- the machine

-- the dirty places
abbrev pub dirty_spots : Overlay → List Spot
dirty_spots o = map (λ b. b.0) o.blocks

-- An effect touches what a command does, and cuts off what the command does of what is dirty.
pub record IsEffectOf (m : Machine) (command : Command) (e : Effect) : Type 0 where
  pub touches : map (λ t. (e.number, t.place)) e.touched ≡ touched m.tree command
  pub cuts : (spot : Spot) → has_spot m.dirty spot ≡ true → is_cut (cut_of e) spot ≡ is_cut (cut_by m.tree command) spot

-- these are the effects of commands, each on the state that those before it leave
abbrev pub AreEffectsOf : Machine → List Command → List Effect → Type 0
AreEffectsOf m [] effects = effects ≡ []
AreEffectsOf m (command ∷ commands) [] = ⊥
AreEffectsOf m (command ∷ commands) (e ∷ es) = IsEffectOf m command e × AreEffectsOf (done m command) commands es

abbrev pub all_staged : Overlay → List Effect → Overlay
all_staged o [] = o
all_staged o (e ∷ es) = all_staged (staged o e) es

-- Where the effects of the commands since a point are staged, the dirty places are those of the volume's model.
abbrev pub DirtyAreTheMachines : Type 0
DirtyAreTheMachines = (m : Machine) (commands : List Command) (effects : List Effect) (o : Overlay)
    → dirty_spots o ≡ m.dirty → AreEffectsOf m commands effects → dirty_spots (all_staged o effects) ≡ (all_done m commands).dirty

-- ---- runs

-- There is one list of runs of some places.
abbrev pub OneListOfRuns : Type 0
OneListOfRuns = (places : List ℕ) (ps qs : List Run) → AreRunsOf places ps → AreRunsOf places qs → ps ≡ qs
