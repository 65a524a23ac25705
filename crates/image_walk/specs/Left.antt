-- What a walk leaves to later phases, beside what is seen of the image.
use Rattle.std.specs.Prelude.{◌≡◌, ◌≤◌, ℕ, ◌-◌, false, List, [], Contains}
use Rattle.block_format.specs.Inode.{blocks_of}
use Rattle.block_format.specs.declared.inode.Inode.{Inode}
use Rattle.block_format.specs.declared.inode.Inode.TheVariants.{Unused, File, Directory}
use Rattle.block_tree.specs.Tree.{Blocks}
use Rattle.image_model.specs.Seen.{Seen, seen_from}
use Rattle.image_model.specs.Slots.{held_at, slots_of, inode_of}
use Rattle.image_model.specs.Walk.{is_directory}
use Rattle.image_walk.specs.Blocks.{blocks_held}
use Rattle.image_walk.specs.declared.node_block.NodeBlock.{NodeBlock}

-- each directory's width is within the limit
abbrev pub HaveWidths : List (ℕ × Inode) → Type 0
HaveWidths nodes = (n width height ptr : ℕ) → Contains nodes (n, Directory width height ptr) → width ≤ 65534

-- an inode is used, and its size or its width is within the limit
abbrev pub IsWithin : Inode → Type 0
IsWithin Unused = ⊥
IsWithin (File size height ptr) = size ≤ 4294967296
IsWithin (Directory width height ptr) = width ≤ 65534

-- each node has a number up to 65,535, and such an inode
abbrev pub AreWithin : List (ℕ × Inode) → Type 0
AreWithin nodes = (n : ℕ) (inode : Inode) → Contains nodes (n, inode) → (n ≤ 65535) × IsWithin inode

-- Of each file the block of its last place is among these, or it is a hole.
abbrev pub SeesEnds : Blocks → List NodeBlock → Seen → Type 0
SeesEnds read last s = (n size height ptr : ℕ) → Contains s.nodes (n, File size height ptr)
    → held_at s.contents n (blocks_of size - 1) ≡ held_at (blocks_held read last) n (blocks_of size - 1)

-- A number that is no directory's has no block of a directory.
abbrev pub HasOwners : Seen → Type 0
HasOwners s = (n : ℕ) → is_directory (inode_of s.nodes n) ≡ false → slots_of s n ≡ []

-- whatever the homes of the counts are: P holds of what is seen
abbrev pub OfSeen : Blocks → ℕ → (Seen → Type 0) → Type 0
OfSeen read at P = (homes : List ℕ) (count_blocks : ℕ) → P (seen_from read at homes count_blocks)
