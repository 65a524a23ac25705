-- What is seen of files and directories, as the lists that a walk leaves have it.
use Rattle.std.specs.Prelude.{◌≡◌, ℕ, List, [], ◌∷◌, ◌++◌, map, replicate, length, Contains, Some, None}
use Rattle.block_format.specs.declared.inode.Inode.{Inode}
use Rattle.block_format.specs.declared.inode.Inode.TheVariants.{Unused, File, Directory}
use Rattle.block_format.specs.declared.slot.Slot.{Slot}
use Rattle.block_format.specs.declared.slot.Slot.TheVariants as slot
use Rattle.held_list.specs.Held.{slots_at}
use Rattle.held_list.specs.declared.held.Held.{Held as Directories}
use Rattle.image_model.specs.Seen.{Seen}
use Rattle.image_model.specs.Slots.{slots_of}
use Rattle.image_model.specs.Nodes.{directory_finding}
use Rattle.name_check.specs.declared.fault.NameFault.{NameFault}
use Rattle.name_check.specs.declared.fault.NameFault.TheVariants.{Found, Device, OutOfMemory}

-- the numbers of the directories among nodes
abbrev pub directory_numbers : List (ℕ × Inode) → List ℕ
directory_numbers [] = []
directory_numbers ((n, Unused) ∷ nodes) = directory_numbers nodes
directory_numbers ((n, File size height ptr) ∷ nodes) = directory_numbers nodes
directory_numbers ((n, Directory width height ptr) ∷ nodes) = n ∷ directory_numbers nodes

-- each directory has as many slots as its inode says
abbrev pub HaveSlots : List (ℕ × Inode) → List Directories → Type 0
HaveSlots nodes held = (n width height ptr : ℕ) (slots : List Slot) → Contains nodes (n, Directory width height ptr) → slots_at held n ≡ Some slots → length slots ≡ width

-- The directories that are held are those that are seen: each as wide as its inode says, with unused slots alone behind it.
pub record HoldsDirectories (s : Seen) (held : List Directories) : Type 0 where
  pub numbers : map (λ h. h.number) held ≡ directory_numbers s.nodes
  pub slots : (n : ℕ) (slots : List Slot) → slots_at held n ≡ Some slots → (k : ℕ) × (slots_of s n ≡ slots ++ replicate k slot.Unused)
  pub widths : HaveSlots s.nodes held
  pub others : (n : ℕ) → slots_at held n ≡ None → slots_of s n ≡ []

-- what is found is what is wrong with the directories first
abbrev pub FindsInNodes : Seen → NameFault → Type 0
FindsInNodes s (Found f) = directory_finding s ≡ Some f
FindsInNodes s Device = Unit {0}
FindsInNodes s OutOfMemory = Unit {0}
