-- What is planned for a point: facts of an image in which the pages, the counts and the root stand, and the old blocks as they were.
use Rattle.std.specs.Prelude.{◌≡◌, ◌<◌, ℕ, ◌+◌, ◌*◌, List, ◌++◌, length, get_or, slice_get, true, Some, None, Option, option_map}
use Rattle.std.specs.FinMap.{find}
use Rattle.std.specs.List.{flat_map}
use Rattle.vol_numbers.specs.Layout.{count_blocks}
use Rattle.vol_numbers.specs.declared.block.Block.{Block}
use Rattle.vol_numbers.specs.declared.runs.Change.{Change}
use Rattle.block_format.specs.declared.inode.Inode.{Inode}
use Rattle.block_format.specs.declared.inode.Inode.TheVariants.{Unused, File, Directory}
use Rattle.block_tree.specs.Tree.{blocks_in, index_at}
use Rattle.count_pairs.specs.Table.{AllStand}
use Rattle.dirty_store.specs.Overlay.{Overlay, node_of, least_cut}
use Rattle.image_model.specs.Live.{IsLive}
use Rattle.image_model.specs.Plan.{inode_pointers, taken_in}
use Rattle.image_model.specs.Planned.{HasSpellings, InodesStand}
use Rattle.image_model.specs.Point.{TakesFree}
use Rattle.image_model.specs.Seen.{seen}
use Rattle.image_model.specs.Stands.{layout_in, records_in, used_in}
use Rattle.node_table.specs.Held.{info}
use Rattle.node_table.specs.declared.held.NodeInfo.{NodeInfo}
use Rattle.node_table.specs.declared.held.NodeInfo.TheVariants as infos
use Rattle.place_words.specs.Different.{times, span, is_among}
use Rattle.point_model.specs.Holding.{inode_before, node_now}
use Rattle.point_model.specs.NodePlan.{TreeIsPlanned, PointersArePlanned, AreOfPlaces, PagesArePlanned}
use Rattle.root_switch.specs.Current.{root_of_image, HasRoot, FitsImage}
use Rattle.volume_model.specs.Machine.{Machine}
use Rattle.volume_model.specs.Places.{Spot, Places, spot_cmp}
use Rattle.volume_model.specs.Point.{next_point}

-- ---- the root and the old blocks

-- The root has the layout of before, the next number and an empty log.
pub record RootIsPlanned (old new : List Block) (m : Machine) : Type 0 where
  pub there : HasRoot new
  pub fits : FitsImage new
  pub layout : layout_in new ≡ layout_in old
  pub point : (root_of_image new).point ≡ next_point m
  pub records : records_in new ≡ 0
  pub log_used : used_in new ≡ 0

-- the blocks that the old meaning rests on are as they were
abbrev pub LiveStays : List Block → List Block → Type 0
LiveStays old new = (b : ℕ) → IsLive old b → slice_get new b ≡ slice_get old b

-- ---- inodes

-- the kind and size that an inode tells
abbrev pub told : Inode → Option NodeInfo
told Unused = None
told (File size height ptr) = Some (infos.File size)
told (Directory width height ptr) = Some (infos.Directory width)

-- The new inode index spells an inode for each number: of the kind and size that the number has now.
pub record InodesArePlanned (old new : List Block) (o : Overlay) (inode : ℕ → Inode) (added dropped : List ℕ) : Type 0 where
  pub kinds : (n : ℕ) → told (inode n) ≡ option_map info (node_now old o n)
  pub spellings : HasSpellings inode
  pub count : length (index_at (blocks_in new) (root_of_image new).inode_index) ≡ 1024
  pub blocks : InodesStand (blocks_in new) inode 0 (index_at (blocks_in new) (root_of_image new).inode_index)
  pub balance : (b : ℕ) → times b (inode_pointers old) + times b added ≡ times b (inode_pointers new) + times b dropped

-- ---- nodes

-- what a file's or a directory's changes are, by its inode
abbrev pub ContentIsPlanned : List Block → List Block → Overlay → Machine → Places → ℕ → List Change → Inode → Type 0
ContentIsPlanned old new o m placed n changes Unused = Unit {0}
ContentIsPlanned old new o m placed n changes (File size height ptr) = AreOfPlaces m.dirty placed n changes
ContentIsPlanned old new o m placed n changes (Directory width height ptr) = PagesArePlanned old new o n (inode_before old n) (Directory width height ptr)

-- what is planned of a number
pub record NodeIsPlanned (old new : List Block) (o : Overlay) (m : Machine) (placed : Places) (n : ℕ) (is : Inode) (added dropped taken : List ℕ) : Type 0 where
  pub changes : List Change
  pub tree : TreeIsPlanned old new (inode_before old n) is (least_cut (node_of o n)) changes
  pub pointers : PointersArePlanned old new n (inode_before old n) is added dropped taken
  pub content : ContentIsPlanned old new o m placed n changes is

-- ---- counts

-- The counts stand in the homes that the new root names, and each is the old one with what is added and without what is dropped.
pub record CountsArePlanned (old new : List Block) (counts added dropped : List ℕ) : Type 0 where
  pub many : length counts ≡ 1024 * count_blocks (layout_in new)
  pub stand : AllStand (blocks_in new) (root_of_image new).homes (count_blocks (layout_in new)) counts
  pub moved : (b : ℕ) → b < 1024 * count_blocks (layout_in new) → get_or (seen old).kept b 0 + times b added ≡ get_or counts b 0 + times b dropped

-- ---- all of it

-- what of all numbers is one list
abbrev pub of_all : List ℕ → (ℕ → List ℕ) → List ℕ
of_all for_inodes for_node = for_inodes ++ flat_map for_node (span 0 65536)

-- A point is planned that gives these fresh blocks to places, after which places have these blocks.
pub record PointIsPlanned (old new : List Block) (o : Overlay) (m : Machine) (placed : Places) (fresh : List ℕ) : Type 0 where
  pub root : RootIsPlanned old new m
  pub live : LiveStays old new
  pub inode : ℕ → Inode
  pub inodes_added : List ℕ
  pub inodes_dropped : List ℕ
  pub added : ℕ → List ℕ
  pub dropped : ℕ → List ℕ
  pub taken : ℕ → List ℕ
  pub inodes : InodesArePlanned old new o inode inodes_added inodes_dropped
  pub nodes : (n : ℕ) → NodeIsPlanned old new o m placed n (inode n) (added n) (dropped n) (taken n)
  pub counts : List ℕ
  pub counted : CountsArePlanned old new counts (of_all inodes_added added) (of_all inodes_dropped dropped)
  -- what is taken is free and taken once, and each fresh block holds what is staged
  pub free : TakesFree old (taken_in inodes_added taken) fresh
  pub written : (spot : Spot) (block : ℕ) (staged : Block) → find spot_cmp spot placed ≡ Some block → is_among fresh block ≡ true → find spot_cmp spot o.blocks ≡ Some staged → blocks_in new block ≡ staged.bytes
