-- Laws of what is seen of an image whose parts stand in its blocks.
use Rattle.std.specs.Prelude.{length, Some, ◌≡◌, ◌<◌, ℕ, ◌+◌, ◌*◌, ◌^◌, List, ◌∷◌, ◌++◌, map, get_or, false}
use Rattle.std.specs.List.{flat_map}
use Rattle.std.specs.FinMap.{find}
use Rattle.vol_numbers.specs.declared.block.Block.{Block}
use Rattle.root_switch.specs.Current.{root_of_image}
use Rattle.block_format.specs.declared.inode.Inode.{Inode}
use Rattle.block_tree.specs.Tree.{Blocks, blocks_in, block_below, index_at, nonzero}
use Rattle.volume_model.specs.Places.{Places, Spot, spot_cmp, InOrder}
use Rattle.image_model.specs.Met.{Met, index, metas, files, pointers_to, NoFaults}
use Rattle.block_format.specs.declared.inode.Inode.TheVariants as inode
use Rattle.tree_model.specs.declared.node.Content.TheVariants as content
use Rattle.image_model.specs.Nodes.{has_tail, is_bad_directory}
use Rattle.image_model.specs.Slots.{inode_of, slots_of}
use Rattle.block_format.specs.declared.slot.Slot.{Slot}
use Rattle.dir_slots.specs.Slots.{number_in}
use Rattle.image_model.specs.Standing.{some_block, FileStands, DirectoryStands}
use Rattle.place_words.specs.Different.{times}
use Rattle.image_model.specs.Planned.{IsSpelled, CountsStand, used_from, node_trees}
use Rattle.image_model.specs.Walk.{walk, nodes_at}
use Rattle.image_model.specs.Seen.{seen, counts_from}
use Rattle.image_model.specs.Nodes.{has_tail, is_bad_directory}
use Rattle.image_model.specs.Stands.{node_of, spot_of}

-- The inodes of a volume that is spelled are those that are seen, and no fault is met.
abbrev pub InodesAreSeen : Type 0
InodesAreSeen = (image : List Block) (of : ℕ → Inode) → IsSpelled (blocks_in image) (root_of_image image).inode_index of → NoFaults (seen image).met × ((n : ℕ) → n < 65536 → inode_of (seen image).nodes n ≡ of n)

-- The walk over a volume that is spelled meets the inode index, the inode blocks, and below each node its index blocks and its places.
abbrev pub WalkIsSpelled : Type 0
WalkIsSpelled = (read : Blocks) (at : ℕ) (inode : ℕ → Inode) → IsSpelled read at inode
    → (nodes_at read at ≡ used_from inode 0 65536) × (walk read at ≡ index at ∷ (map index (nonzero (index_at read at)) ++ flat_map (node_trees read) (used_from inode 0 65536)))

-- The kept counts are those that stand in the homes.
abbrev pub CountsAreSpelled : Type 0
CountsAreSpelled = (read : Blocks) (homes : List ℕ) (counts : ℕ → ℕ) (blocks : ℕ) → ((b : ℕ) → counts b < 2 ^ 32) → CountsStand read homes counts blocks
    → (b : ℕ) → b < 1024 * blocks → get_or (counts_from read homes 0 blocks) b 0 ≡ counts b

-- A directory that stands in the blocks below its inode is sound, and its names have the numbers that its slots say.
abbrev pub DirectoryIsSeen : Type 0
DirectoryIsSeen = (image : List Block) (n : ℕ) (slots : List Slot) (height ptr : ℕ) → NoFaults (seen image).met → inode_of (seen image).nodes n ≡ inode.Directory (length slots) height ptr
    → DirectoryStands (blocks_in image) slots height ptr
    → (is_bad_directory (seen image) (n, inode.Directory (length slots) height ptr) ≡ false) × ((name : List ℕ) → number_in (slots_of (seen image) n) name ≡ number_in slots name)

-- A file that stands in the blocks below its inode is the file that is seen, and has no tail.
abbrev pub FileIsSeen : Type 0
FileIsSeen = (image : List Block) (n : ℕ) (bytes : List ℕ) (height ptr : ℕ) → NoFaults (seen image).met → inode_of (seen image).nodes n ≡ inode.File (length bytes) height ptr
    → FileStands (blocks_in image) bytes height ptr
    → (node_of (seen image) n (inode.File (length bytes) height ptr) ≡ Some (record { number = n; content = content.File bytes })) × (has_tail (seen image) (n, inode.File (length bytes) height ptr) ≡ false)

-- The places that are seen of a file are those below its inode.
abbrev pub PlacesAreSeen : Type 0
PlacesAreSeen = (image : List Block) (n size height ptr place : ℕ) → NoFaults (seen image).met → inode_of (seen image).nodes n ≡ inode.File size height ptr
    → find spot_cmp (n, place) (map spot_of (seen image).contents) ≡ some_block (block_below (blocks_in image) height ptr place)

-- The places that are seen are in order.
abbrev pub PlacesInOrder : Type 0
PlacesInOrder = (image : List Block) → NoFaults (seen image).met → InOrder (map spot_of (seen image).contents)

-- Places in order that have the same blocks are the same.
abbrev pub SamePlaces : Type 0
SamePlaces = (p q : Places) → InOrder p → InOrder q → ((spot : Spot) → find spot_cmp spot p ≡ find spot_cmp spot q) → p ≡ q

-- Where no fault is met, the pointers to a block are those to metadata and those of files.
abbrev pub PointersAreListed : Type 0
PointersAreListed = (met : List Met) (b : ℕ) → NoFaults met → pointers_to b met ≡ times b (metas met) + times b (files met)
