-- An image after a consistency point.
use Rattle.std.specs.Prelude.{◌≡◌, ◌⊎◌, ◌≤◌, ◌<◌, ℕ, ◌+◌, ◌*◌, true, false, List, [], ◌++◌, map, get_or, Contains}
use Rattle.vol_numbers.specs.Layout.{count_blocks}
use Rattle.vol_numbers.specs.declared.block.Block.{Block}
use Rattle.root_switch.specs.Current.{root_of_image, HasRoot, FitsImage}
use Rattle.block_format.specs.declared.inode.Inode.{Inode}
use Rattle.place_words.specs.Different.{is_among, times}
use Rattle.tree_model.specs.Shape.{IsTree}
use Rattle.volume_model.specs.Machine.{Stored}
use Rattle.volume_model.specs.Space.{free_blocks}
use Rattle.image_model.specs.Findings.{is_in_area}
use Rattle.image_model.specs.Holds.{HoldsTree}
use Rattle.image_model.specs.Met.{metas, files, pointers_to, NoFaults}
use Rattle.image_model.specs.Nodes.{has_tail, is_bad_directory}
use Rattle.image_model.specs.Seen.{seen}
use Rattle.image_model.specs.Stands.{layout_in, records_in, used_in, spot_of}

-- The blocks that a point takes: for metadata and for files. They lie in the area, had count 0, and are taken once.
pub record TakesFree (old : List Block) (for_metadata for_files : List ℕ) : Type 0 where
  pub free : (b : ℕ) → is_among (for_metadata ++ for_files) b ≡ true → (is_in_area (layout_in old) b ≡ true) × (get_or (seen old).kept b 0 ≡ 0)
  pub once : (b : ℕ) → times b (for_metadata ++ for_files) ≤ 1

-- What new leads to: blocks of metadata were such before or are taken for it, and a file's block was a file's before or is taken for one.
pub record LeadsTo (old new : List Block) (for_metadata for_files : List ℕ) : Type 0 where
  pub whole : NoFaults (seen new).met
  pub metas : (b : ℕ) → times b (metas (seen new).met) ≤ times b (metas (seen old).met) + times b for_metadata
  pub files : (b : ℕ) → is_among (files (seen new).met) b ≡ true → (is_among (files (seen old).met) b ≡ true) ⊎ (is_among for_files b ≡ true)

-- The image has an empty log and a root that fits it, and what is seen of it is this tree with these places, wherever its blocks lie.
pub record IsLaidOut (image : List Block) (s : Stored) : Type 0 where
  pub root : HasRoot image
  pub fits : FitsImage image
  pub layout : s.layout ≡ layout_in image
  pub point : s.point ≡ (root_of_image image).point
  pub log_empty : (s.records ≡ []) × (records_in image ≡ 0) × (used_in image ≡ 0)
  pub counts : (b : ℕ) → b < 1024 * count_blocks (layout_in image) → get_or (seen image).kept b 0 ≡ pointers_to b (seen image).met
  pub tails : (node : ℕ × Inode) → Contains (seen image).nodes node → has_tail (seen image) node ≡ false
  pub directories : (node : ℕ × Inode) → Contains (seen image).nodes node → is_bad_directory (seen image) node ≡ false
  pub is_tree : IsTree s.tree
  pub holds : HoldsTree (seen image) s.tree
  pub places : s.places ≡ map spot_of (seen image).contents
  pub reserve : 16 ≤ free_blocks (layout_in image) s.tree s.places

-- The image is laid out, and its blocks lie in the area, whatever stood there before. Each block of metadata has one pointer.
pub record IsAssembled (image : List Block) (s : Stored) : Type 0 where
  pub laid : IsLaidOut image s
  pub whole : NoFaults (seen image).met
  pub metas : (b : ℕ) → is_among (metas (seen image).met) b ≡ true → (is_in_area (layout_in image) b ≡ true) × (pointers_to b (seen image).met ≡ 1)
  pub files : (b : ℕ) → is_among (files (seen image).met) b ≡ true → is_in_area (layout_in image) b ≡ true

-- New is laid out, in the layout of old, and leads to blocks of old and to blocks that were free in it.
pub record HasPoint (old new : List Block) (s : Stored) : Type 0 where
  pub laid : IsLaidOut new s
  pub layout : layout_in new ≡ layout_in old
  pub for_metadata : List ℕ
  pub for_files : List ℕ
  pub fresh : TakesFree old for_metadata for_files
  pub leads : LeadsTo old new for_metadata for_files
