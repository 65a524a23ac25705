-- What a change does to the nodes, as numbers and slots.
use Rattle.std.specs.Prelude.{◌≡◌, ◌<◌, ◌≤◌, ℕ, ◌+◌, max, if◌then◌else◌, List, [], ◌∷◌, ◌++◌, length, nat_eq, Option, Some, None, Ok}
use Rattle.block_format.specs.declared.slot.Slot.TheVariants.{Entry}
use Rattle.dir_slots.specs.Slots.{first_unused, slot_of, number_in, with_slot, without_slot}
use Rattle.tree_model.specs.Path.{Path, parent_of}
use Rattle.tree_model.specs.declared.command.Command.{Command}
use Rattle.tree_model.specs.declared.command.Command.TheVariants.{Mkdir, Create, Write, Truncate, Remove, Rename}
use Rattle.node_table.specs.declared.change.Change.{Change}
use Rattle.node_table.specs.declared.change.Change.TheVariants.{Made, Sized, Removed, Renamed}
use Rattle.node_table.specs.declared.held.FoundNode.{FoundNode}
use Rattle.node_table.specs.declared.held.HeldNode.{HeldNode}
use Rattle.node_table.specs.declared.held.HeldNode.TheVariants.{File, Directory}
use Rattle.node_table.specs.Held.{Nodes, held, slots_of}
use Rattle.node_table.specs.Numbers.{IsNext}
use Rattle.node_table.specs.Walks.{look}

-- the path leads to the node of this number
abbrev pub LeadsTo : Nodes → Path → ℕ → Type 0
LeadsTo nodes path number = (found : FoundNode) × (look nodes path ≡ Ok found) × (found.number ≡ number)

-- a number has this node now, or none, and each other number what it had
abbrev pub IsSet : Nodes → ℕ → Option HeldNode → Nodes → Type 0
IsSet old number node new = (k : ℕ) → held new k ≡ (if nat_eq k number then node else held old k)

-- the number is a directory's
abbrev pub HoldsSlots : Nodes → ℕ → Type 0
HoldsSlots nodes number = held nodes number ≡ Some (Directory (slots_of (held nodes number)))

-- a directory gets an entry, in its first unused slot
pub record GetsEntry (old : Nodes) (parent slot number : ℕ) (name : List ℕ) (new : Nodes) : Type 0 where
  pub directory : HoldsSlots old parent
  pub first : slot ≡ first_unused (slots_of (held old parent))
  pub set : IsSet old parent (Some (Directory (with_slot (slots_of (held old parent)) slot (Entry number name)))) new

-- a directory loses the entry of a name
pub record LosesEntry (old : Nodes) (parent slot number : ℕ) (name : List ℕ) (new : Nodes) : Type 0 where
  pub directory : HoldsSlots old parent
  pub slot_is : slot_of (slots_of (held old parent)) name ≡ Some slot
  pub number_is : number_in (slots_of (held old parent)) name ≡ Some number
  pub set : IsSet old parent (Some (Directory (without_slot (slots_of (held old parent)) (Some slot)))) new

-- an entry leaves one directory and then comes into another, or the same
pub record MovesEntry (old : Nodes) (parent slot into into_slot number : ℕ) (name into_name : List ℕ) (new : Nodes) : Type 0 where
  pub between : Nodes
  pub left : LosesEntry old parent slot number name between
  pub came : GetsEntry between into into_slot number into_name new

-- a new node: its directory gets an entry, and its number the node
pub record Makes (path : Path) (fresh : HeldNode) (parent slot number : ℕ) (old new : Nodes) : Type 0 where
  pub name : List ℕ
  pub between : Nodes
  pub path_is : path ≡ parent_of path ++ name ∷ []
  pub parent_is : LeadsTo old (parent_of path) parent
  pub least : IsNext old number
  pub entry : GetsEntry old parent slot number name between
  pub node : IsSet between number (Some fresh) new

-- a file of another size, by the size that it had
pub record Sizes (path : Path) (size_after : ℕ → ℕ) (number size : ℕ) (old new : Nodes) : Type 0 where
  pub before : ℕ
  pub path_is : LeadsTo old path number
  pub was : held old number ≡ Some (File before)
  pub size_is : size ≡ size_after before
  pub node : IsSet old number (Some (File size)) new

-- a node gone: its directory loses its entry, and its number the node
pub record Removes (path : Path) (parent slot number : ℕ) (old new : Nodes) : Type 0 where
  pub name : List ℕ
  pub between : Nodes
  pub path_is : path ≡ parent_of path ++ name ∷ []
  pub parent_is : LeadsTo old (parent_of path) parent
  pub entry : LosesEntry old parent slot number name between
  pub node : IsSet between number None new

-- a node renamed: its entry moves
pub record Renames (from to : Path) (number parent slot into into_slot : ℕ) (old new : Nodes) : Type 0 where
  pub name : List ℕ
  pub into_name : List ℕ
  pub from_is : from ≡ parent_of from ++ name ∷ []
  pub to_is : to ≡ parent_of to ++ into_name ∷ []
  pub parent_is : LeadsTo old (parent_of from) parent
  pub into_is : LeadsTo old (parent_of to) into
  pub entry : MovesEntry old parent slot into into_slot number name into_name new

-- ---- by what the change says

-- a new node
abbrev pub IsMade : Path → HeldNode → Change → Nodes → Nodes → Type 0
IsMade path fresh (Made parent slot number) old new = Makes path fresh parent slot number old new
IsMade path fresh change old new = ⊥

-- another size
abbrev pub IsSized : Path → (ℕ → ℕ) → Change → Nodes → Nodes → Type 0
IsSized path size_after (Sized number size) old new = Sizes path size_after number size old new
IsSized path size_after change old new = ⊥

-- a node gone
abbrev pub IsRemoved : Path → Change → Nodes → Nodes → Type 0
IsRemoved path (Removed parent slot number) old new = Removes path parent slot number old new
IsRemoved path change old new = ⊥

-- a node renamed
abbrev pub IsRenamed : Path → Path → Change → Nodes → Nodes → Type 0
IsRenamed from to (Renamed number parent slot into into_slot) old new = Renames from to number parent slot into into_slot old new
IsRenamed from to change old new = ⊥

-- how the nodes after a command come of those before it
abbrev pub Does : Command → Change → Nodes → Nodes → Type 0
Does (Mkdir path) change old new = IsMade path (Directory []) change old new
Does (Create path) change old new = IsMade path (File 0) change old new
Does (Write path offset bytes) change old new = IsSized path (λ before. max before (offset + length bytes)) change old new
Does (Truncate path size) change old new = IsSized path (λ _. size) change old new
Does (Remove path) change old new = IsRemoved path change old new
Does (Rename from to) change old new = IsRenamed from to change old new
Does command change old new = ⊥

-- ---- what holds of it on every disk

-- the number of a node
abbrev pub IsNumber : ℕ → Type 0
IsNumber n = (1 ≤ n) × (n ≤ 65535)

-- Numbers are from 1 to 65,535, slots are below 65,534, and a size is at most 4,294,967,296.
abbrev pub IsChangeWithin : Change → Type 0
IsChangeWithin (Made parent slot number) = IsNumber parent × (slot < 65534) × IsNumber number
IsChangeWithin (Sized number size) = IsNumber number × (size ≤ 4294967296)
IsChangeWithin (Removed parent slot number) = IsNumber parent × (slot < 65534) × IsNumber number
IsChangeWithin (Renamed number from from_slot to to_slot) = IsNumber number × IsNumber from × (from_slot < 65534) × IsNumber to × (to_slot < 65534)
