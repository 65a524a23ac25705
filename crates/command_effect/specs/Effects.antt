-- Effects of commands.
use Rattle.std.specs.Prelude.{◌≡◌, ◌<◌, ℕ, [], length, All, Option, Some}
use Rattle.block_format.specs.Inode.{blocks_of}
use Rattle.block_format.specs.declared.inode.Inode.TheVariants.{File}
use Rattle.dirty_store.specs.declared.effect.Effect.{Effect}
use Rattle.node_table.specs.Changes.{Does}
use Rattle.node_table.specs.Held.{Nodes}
use Rattle.node_table.specs.declared.change.Change.{Change}
use Rattle.node_table.specs.declared.change.Change.TheVariants.{Made, Sized, Removed, Renamed}
use Rattle.point_plan.specs.State.{size_in}
use Rattle.tree_model.specs.declared.command.Command.{Command}
use Rattle.tree_model.specs.declared.command.Command.TheVariants.{Truncate}

-- some table comes of the change, which does the command
abbrev pub CanDo : Command → Change → Nodes → Type 0
CanDo command change nodes = (new : Nodes) × Does command change nodes new

-- a change of no file's size
abbrev pub IsOfNodes : Change → Type 0
IsOfNodes (Made parent slot number) = Unit {0}
IsOfNodes (Sized number size) = ⊥
IsOfNodes (Removed parent slot number) = Unit {0}
IsOfNodes (Renamed number from from_slot to to_slot) = Unit {0}

-- a truncation cuts its file to the blocks of its new size
abbrev pub CutsToSize : Command → Option ℕ → Type 0
CutsToSize (Truncate path size) cut = cut ≡ Some (blocks_of size)
CutsToSize command cut = Unit {0}

-- Each touched place is below the number of blocks of the file, and has a whole block.
pub record ArePlacesWithin (e : Effect) : Type 0 where
  pub below : All (λ t. t.place < blocks_of (size_in e.inode)) e.touched
  pub whole : All (λ t. length t.block.bytes ≡ 4096) e.touched

-- a change of a file's size
abbrev pub IsOfSize : Change → Type 0
IsOfSize change = (number : ℕ) × (size : ℕ) × (change ≡ Sized number size)

-- A file of this number has this size, and is cut so far. No slot is touched.
pub record IsSizedEffect (number size : ℕ) (cut : Option ℕ) (e : Effect) : Type 0 where
  pub number_is : e.number ≡ number
  pub inode_is : e.inode ≡ File size 0 0
  pub cut_is : e.cut_to ≡ cut
  pub slots_are : e.slots ≡ []
