-- Directories that are read, in words of private functions alone.
use Rattle.std.specs.Prelude.{◌≡◌, ℕ, Bool, false, true, List, [], ◌∷◌, ◌++◌, map, replicate, length}
use Rattle.vol_numbers.specs.declared.runs.Page.{Page}
use Rattle.block_format.specs.declared.inode.Inode.{Inode}
use Rattle.block_format.specs.declared.inode.Inode.TheVariants.{Unused, File, Directory}
use Rattle.block_format.specs.declared.slot.Slot.{Slot}
use Rattle.block_format.specs.declared.slot.Slot.TheVariants as slot
use Rattle.block_tree.specs.Tree.{Blocks}
use Rattle.dir_slots.specs.Pages.{SpellsDirectory}
use Rattle.held_list.specs.declared.held.Held.{Held}
use Rattle.image_model.specs.Nodes.{is_bad_directory}
use Rattle.image_model.specs.Seen.{Seen}
use Rattle.image_model.specs.Slots.{slots_of}
use Rattle.image_model.specs.declared.finding.Finding.TheVariants.{BadDirectory}
use Rattle.image_walk.specs.Blocks.{blocks_held}
use Rattle.image_walk.specs.declared.node_block.NodeBlock.{NodeBlock}
use Rattle.name_check.specs.declared.fault.NameFault.{NameFault}
use Rattle.name_check.specs.declared.fault.NameFault.TheVariants.{Found, Device, OutOfMemory}

-- what is seen of blocks of directories alone
abbrev pub pages_seen : Blocks → List NodeBlock → Seen
pages_seen read pages = record { met = []; nodes = []; pages = blocks_held read pages; contents = []; kept = [] }

-- whether a directory of a number and a width is bad, whatever its height and its pointer
abbrev pub is_bad : Blocks → List NodeBlock → ℕ × Inode → Bool
is_bad read pages node = is_bad_directory (pages_seen read pages) node

-- Nothing is wrong with the directory of a number and a width, and it has these slots.
pub record IsRead (read : Blocks) (pages : List NodeBlock) (n width : ℕ) (slots : List Slot) : Type 0 where
  pub wide : length slots ≡ width
  pub good : (height ptr : ℕ) → is_bad read pages (n, Directory width height ptr) ≡ false
  pub seen : (k : ℕ) × (slots_of (pages_seen read pages) n ≡ slots ++ replicate k slot.Unused)

-- something is wrong with the directory of a number and a width
abbrev pub IsBad : Blocks → List NodeBlock → ℕ → ℕ → Type 0
IsBad read pages n width = (height ptr : ℕ) → is_bad read pages (n, Directory width height ptr) ≡ true

-- it is found to be bad
abbrev pub FindsBad : Blocks → List NodeBlock → ℕ → ℕ → NameFault → Type 0
FindsBad read pages n width (Found f) = (f ≡ BadDirectory n) × IsBad read pages n width
FindsBad read pages n width Device = Unit {0}
FindsBad read pages n width OutOfMemory = Unit {0}

-- blocks that spell no directory of a width
abbrev pub FindsNone : List Page → ℕ → ℕ → NameFault → Type 0
FindsNone pages n width (Found f) = (f ≡ BadDirectory n) × ((slots : List Slot) → length slots ≡ width → SpellsDirectory pages slots → ⊥)
FindsNone pages n width Device = Unit {0}
FindsNone pages n width OutOfMemory = Unit {0}

-- the bytes of blocks that were read are those of the disk
abbrev pub HaveBytes : Blocks → List NodeBlock → List Page → Type 0
HaveBytes read own pages = map (λ p. p.block.bytes) pages ≡ map (λ b. read b.block) own

-- of these nodes the directories are held, in order
abbrev pub AreHeld : Blocks → List NodeBlock → List (ℕ × Inode) → List Held → Type 0
AreHeld read pages [] held = held ≡ []
AreHeld read pages ((n, Unused) ∷ nodes) held = AreHeld read pages nodes held
AreHeld read pages ((n, File size height ptr) ∷ nodes) held = AreHeld read pages nodes held
AreHeld read pages ((n, Directory width height ptr) ∷ nodes) [] = ⊥
AreHeld read pages ((n, Directory width height ptr) ∷ nodes) (h ∷ hs) = (h.number ≡ n) × IsRead read pages n width h.slots × AreHeld read pages nodes hs

-- of these nodes the directories are held, in order, each as wide as its inode says
abbrev pub AreWide : List (ℕ × Inode) → List Held → Type 0
AreWide [] held = held ≡ []
AreWide ((n, Unused) ∷ nodes) held = AreWide nodes held
AreWide ((n, File size height ptr) ∷ nodes) held = AreWide nodes held
AreWide ((n, Directory width height ptr) ∷ nodes) [] = ⊥
AreWide ((n, Directory width height ptr) ∷ nodes) (h ∷ hs) = (h.number ≡ n) × (length h.slots ≡ width) × AreWide nodes hs
