-- What is kept beside the nodes, in words of private functions alone.
use Rattle.std.specs.Prelude.{◌≡◌, ℕ, ◌||◌, List, length, Some, is_some, nat_eq}
use Rattle.std.specs.Ordering.{nat_cmp}
use Rattle.std.specs.FinSet as set
use Rattle.block_format.specs.declared.slot.Slot.{Slot}
use Rattle.dir_slots.specs.Slots.{IsDirectory}
use Rattle.node_table.specs.Held.{Nodes, held}
use Rattle.node_table.specs.declared.held.HeldNode.{HeldNode}
use Rattle.node_table.specs.declared.held.HeldNode.TheVariants.{File, Directory}

-- There is a place for each number, the set has 0 and the numbers of the nodes, and directories are directories.
pub record IsKept (nodes : Nodes) (used : set.FinSet nat_cmp) : Type 0 where
  pub places : length nodes ≡ 65536
  pub numbers : (number : ℕ) → set.contains used number ≡ (nat_eq number 0 || is_some (held nodes number))
  pub directories : (number : ℕ) (slots : List Slot) → held nodes number ≡ Some (Directory slots) → IsDirectory slots

-- a directory is a directory
abbrev pub Fits : HeldNode → Type 0
Fits (File size) = Unit {0}
Fits (Directory slots) = IsDirectory slots
