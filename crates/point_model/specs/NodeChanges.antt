-- The effect of a change of the nodes, and the table that goes with an image and an overlay.
use Rattle.std.specs.Prelude.{◌≡◌, ℕ, List, [], ◌∷◌, ◌++◌, take, option_map, Option, Some, None, if◌then◌else◌}
use Rattle.vol_numbers.specs.declared.block.Block.{Block}
use Rattle.block_format.specs.declared.slot.Slot.TheVariants.{Unused, Entry}
use Rattle.dir_slots.specs.Slots.{slot_at}
use Rattle.dirty_store.specs.declared.effect.Effect.{Effect}
use Rattle.dirty_store.specs.declared.effect.SlotChange.{SlotChange}
use Rattle.dirty_store.specs.Laws.{changed_to}
use Rattle.dirty_store.specs.Overlay.{Overlay, clean}
use Rattle.image_model.specs.Seen.{seen}
use Rattle.image_model.specs.Slots.{slots_of as slots_seen}
use Rattle.node_table.specs.declared.change.Change.{Change}
use Rattle.node_table.specs.declared.change.Change.TheVariants.{Made, Sized, Removed, Renamed}
use Rattle.node_table.specs.Changes.{Does}
use Rattle.node_table.specs.Held.{Nodes, held, slots_of, info}
use Rattle.node_table.specs.declared.held.NodeInfo.{NodeInfo}
use Rattle.node_table.specs.declared.held.NodeInfo.TheVariants as infos
use Rattle.point_model.specs.Holding.{inode_before, width_in, as_node, node_now}
use Rattle.point_model.specs.PointPlan.{told}
use Rattle.tree_model.specs.Path.{parent_of}
use Rattle.tree_model.specs.declared.command.Command.{Command}
use Rattle.tree_model.specs.declared.command.Command.TheVariants.{Mkdir, Create, Rename}
use Rattle.volume_model.specs.Places.{Spot, has_spot}

-- the table has for each number the node that the image and the overlay hold
abbrev pub IsTableOf : List Block → Overlay → Nodes → Type 0
IsTableOf old o nodes = (n : ℕ) → held nodes n ≡ node_now old o n

-- Where nothing is staged, each number has the node of its inode, with the slots that are seen up to its width.
abbrev pub CleanNodesAre : Type 0
CleanNodesAre = (old : List Block) (n : ℕ) → node_now old clean n ≡ as_node (inode_before old n) (take (width_in (inode_before old n)) (slots_seen (seen old) n))

-- the number that a change is about
abbrev pub number_of : Change → ℕ
number_of (Made parent slot number) = number
number_of (Sized number size) = number
number_of (Removed parent slot number) = number
number_of (Renamed number from from_slot to to_slot) = number

-- the slots that a change touches, each with its directory's number
abbrev pub slots_in : Change → List Spot
slots_in (Made parent slot number) = (parent, slot) ∷ []
slots_in (Sized number size) = []
slots_in (Removed parent slot number) = (parent, slot) ∷ []
slots_in (Renamed number from from_slot to to_slot) = (from, from_slot) ∷ (to, to_slot) ∷ []

-- A new and a removed number is cut to no block, and a renamed one isn't cut. What is cut off a file is for the command to say.
abbrev pub CutsFor : Change → Option ℕ → Type 0
CutsFor (Made parent slot number) cut = cut ≡ Some 0
CutsFor (Sized number size) cut = Unit {0}
CutsFor (Removed parent slot number) cut = cut ≡ Some 0
CutsFor (Renamed number from from_slot to to_slot) cut = cut ≡ None

-- The effect is of the number that the change is about, with the kind and size that this has in the table after the change.
-- Each slot that the change touches is staged with what it has there, and no other slot is.
pub record IsEffectOfChange (change : Change) (after : Nodes) (e : Effect) : Type 0 where
  pub number : e.number ≡ number_of change
  pub node : as_node e.inode (slots_of (held after e.number)) ≡ held after e.number
  pub cut : CutsFor change e.cut_to
  pub slots : (spot : Spot) → changed_to e.slots spot ≡ (if has_spot (slots_in change) spot then Some (slot_at (slots_of (held after spot.0)) spot.1) else None)

-- ---- how an effect is built

-- the slots that a change empties and fills: a new name comes into one with the number
abbrev pub slot_changes : Change → List ℕ → List SlotChange
slot_changes (Made parent slot number) name = record { directory = parent; slot = slot; content = Entry number name } ∷ []
slot_changes (Sized number size) name = []
slot_changes (Removed parent slot number) name = record { directory = parent; slot = slot; content = Unused } ∷ []
slot_changes (Renamed number from from_slot to to_slot) name = record { directory = from; slot = from_slot; content = Unused } ∷ record { directory = to; slot = to_slot; content = Entry number name } ∷ []

-- the name that a command gives to a node, if it does
abbrev pub GivesName : Command → List ℕ → Type 0
GivesName (Mkdir path) name = path ≡ parent_of path ++ name ∷ []
GivesName (Create path) name = path ≡ parent_of path ++ name ∷ []
GivesName (Rename from to) name = to ≡ parent_of to ++ name ∷ []
GivesName command name = Unit {0}

-- The kind and size that a number gets: a new directory is empty, a new file has no byte, a removed number is unused, and a renamed node stays what it is.
abbrev pub kind_given : Command → Change → Nodes → Option NodeInfo
kind_given (Mkdir path) change before = Some (infos.Directory 0)
kind_given (Create path) change before = Some (infos.File 0)
kind_given command (Sized number size) before = Some (infos.File size)
kind_given command (Removed parent slot number) before = None
kind_given command change before = option_map info (held before (number_of change))

-- The effect tells the kind and size that the number gets, cuts what the change cuts, and has the slots that it empties and fills.
-- All of it is known from the table before the change.
pub record IsBuiltOf (command : Command) (change : Change) (before : Nodes) (e : Effect) : Type 0 where
  pub name : List ℕ
  pub gives : GivesName command name
  pub number : e.number ≡ number_of change
  pub kind : told e.inode ≡ kind_given command change before
  pub cut : CutsFor change e.cut_to
  pub slots : e.slots ≡ slot_changes change name

-- An effect that is built of a change is the change's, whatever table comes of it.
abbrev pub BuiltIsOfChange : Type 0
BuiltIsOfChange = (command : Command) (change : Change) (before after : Nodes) (e : Effect) → Does command change before after → IsBuiltOf command change before e → IsEffectOfChange change after e
