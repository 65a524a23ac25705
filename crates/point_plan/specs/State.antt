-- What a volume has in memory between points, as an image of the last point and a machine have it.
use Rattle.std.specs.Prelude.{◌≡◌, ◌<◌, ◌≤◌, ℕ, ◌*◌, ◌==◌, true, false, if◌then◌else◌, List, [], All, length, take, replicate, Option, Some, None}
use Rattle.vol_numbers.specs.Geometry.{layout_of}
use Rattle.vol_numbers.specs.Layout.{count_blocks}
use Rattle.vol_numbers.specs.declared.block.Block.{Block}
use Rattle.block_format.specs.Inode.{blocks_of}
use Rattle.block_format.specs.Root.{root_of, HasGeometry}
use Rattle.block_format.specs.declared.inode.Inode.{Inode}
use Rattle.block_format.specs.declared.inode.Inode.TheVariants.{Unused, File, Directory}
use Rattle.block_format.specs.declared.slot.Slot.{Slot}
use Rattle.block_tree.specs.Tree.{blocks_in}
use Rattle.dir_slots.specs.Slots.{IsDirectory}
use Rattle.dirty_store.specs.Laws.{dirty_spots}
use Rattle.dirty_store.specs.Numbers.{staged_numbers}
use Rattle.dirty_store.specs.Overlay.{node_of, least_cut}
use Rattle.held_list.specs.Held.{slots_at}
use Rattle.image_model.specs.Seen.{seen}
use Rattle.image_model.specs.Slots.{slots_of as slots_seen}
use Rattle.image_model.specs.Stands.{Stands}
use Rattle.inode_file.specs.Inodes.{IsTable, Stands as InodesStand, inode_of}
use Rattle.inode_file.specs.Loading.{IsWithin}
use Rattle.tree_plan.specs.Pages.{slots_or_none, slot_with, width_with}
use Rattle.node_table.specs.declared.held.HeldNode.{HeldNode}
use Rattle.point_model.specs.Holding.{HoldsMachine, inode_before, staged_or, slots_from, as_node}
use Rattle.point_plan.specs.declared.state.PointState.{PointState}
use Rattle.root_switch.specs.Current.{current_slot, root_of_image}
use Rattle.state_laws.specs.States.{IsCoherent}
use Rattle.volume_model.specs.Machine.{Machine, Rules, stored}
use Rattle.volume_model.specs.Places.{Spot, has_spot}
use Rattle.volume_model.specs.Space.{metadata_blocks}

-- the slots of a directory of an image, by its inode
abbrev pub slots_before : List Block → ℕ → Option (List Slot)
slots_before image n = by (inode_before image n)
  where
    by : Inode → Option (List Slot)
    by Unused = None
    by (File size height ptr) = None
    by (Directory width height ptr) = Some (take width (slots_seen (seen image) n))

-- ---- what memory has of a number, whatever the disk

-- the kind and size of a number: what is staged, else those of the last point
abbrev pub inode_in : PointState → ℕ → Inode
inode_in s n = staged_or (node_of s.dirty.overlay n) (inode_of s.inodes.inodes n)

-- the slots that a number has left of the last point, none where it was cut to no block since
abbrev pub left_in : PointState → ℕ → List Slot
left_in s n = if least_cut (node_of s.dirty.overlay n) == 0 then [] else slots_or_none (slots_at s.directories n)

-- the slots of a number now
abbrev pub slots_in : PointState → ℕ → List Slot
slots_in s n = slots_from (slot_with (left_in s n) s.dirty.overlay n) 0 (width_with (left_in s n) s.dirty.overlay n)

-- what a number is now
abbrev pub node_in : PointState → ℕ → Option HeldNode
node_in s n = as_node (inode_in s n) (slots_in s n)

-- a file's size, and 0 of any other
abbrev pub size_in : Inode → ℕ
size_in Unused = 0
size_in (File size height ptr) = size
size_in (Directory width height ptr) = 0

-- On every disk: what is staged is of nodes' numbers, each directory's slots are within the rules, and dirty places are below the sizes of files.
pub record IsStagedWithin (s : PointState) : Type 0 where
  pub numbers : All (λ n. (1 ≤ n) × (n ≤ 65535)) (staged_numbers s.dirty.overlay)
  pub directories : (n : ℕ) → IsDirectory (slots_in s n)
  pub places : (spot : Spot) → has_spot (dirty_spots s.dirty.overlay) spot ≡ true → spot.1 < blocks_of (size_in (inode_in s spot.0))
  pub sizes : (n : ℕ) → size_in (inode_in s n) ≤ 4294967296

-- ---- memory and disk

-- On every disk: the root, the counts and the inodes are of one volume with so many blocks, and no inode block waits to be written.
pub record IsOfSize (blocks : ℕ) (s : PointState) : Type 0 where
  pub size : (layout_of s.geometry).blocks ≡ blocks
  pub root : s.current.body.geometry ≡ s.geometry
  pub slot : s.current.slot < 2
  pub grammar : HasGeometry (root_of s.current.body)
  pub table : IsTable s.inodes
  pub index : s.inodes.index ≡ s.current.body.inode_index
  pub within : IsWithin (layout_of s.geometry) s.inodes
  pub settled : s.inodes.inodes ≡ s.inodes.stored
  pub counts : length s.counts.counts ≡ 1024 * count_blocks (layout_of s.geometry)
  pub untouched : s.counts.touched ≡ replicate (count_blocks (layout_of s.geometry)) false
  pub staged : IsStagedWithin s

-- The memory has the root, the counts, the inodes and the directories of an image, which stands for what the machine stores. With what
-- is staged it holds what the machine does.
pub record HoldsPoint (r : Rules) (m : Machine) (image : List Block) (s : PointState) : Type 0 where
  pub stands : Stands image (stored m)
  pub coherent : IsCoherent r m
  pub staged : HoldsMachine image s.dirty.overlay m
  pub slot : s.current.slot ≡ current_slot image
  pub root : root_of s.current.body ≡ root_of_image image
  pub counts : s.counts.counts ≡ (seen image).kept
  pub inodes : InodesStand (blocks_in image) s.inodes
  pub nodes : (n : ℕ) → inode_of s.inodes.inodes n ≡ inode_before image n
  pub directories : (n : ℕ) → slots_at s.directories n ≡ slots_before image n
  pub metadata : s.metadata ≡ metadata_blocks m.stored_tree m.stored_places
