-- What a point plans, number by number.
use Rattle.std.specs.Prelude.{◌≤◌, ℕ, ◌+◌, List, ◌∷◌, ◌++◌}
use Rattle.std.specs.List.{flat_map}
use Rattle.vol_numbers.specs.declared.block.Block.{Block}
use Rattle.root_switch.specs.Current.{root_of_image}
use Rattle.block_format.specs.declared.inode.Inode.{Inode}
use Rattle.block_tree.specs.Tree.{index_at, nonzero, blocks_in}
use Rattle.place_words.specs.Different.{times, span}
use Rattle.image_model.specs.Met.{metas}
use Rattle.image_model.specs.Planned.{IsSpelled, node_trees}
use Rattle.image_model.specs.Seen.{seen}
use Rattle.image_model.specs.Slots.{inode_of}

-- the inode index of an image's root, and the inode blocks that it leads to
abbrev pub inode_pointers : List Block → List ℕ
inode_pointers image = (root_of_image image).inode_index ∷ nonzero (index_at (blocks_in image) (root_of_image image).inode_index)

-- the blocks of metadata below a number
abbrev pub metas_of : List Block → (ℕ → Inode) → ℕ → List ℕ
metas_of image inode n = metas (node_trees (blocks_in image) (n, inode n))

-- New is spelled with these inodes. Its inode blocks are those of old or are taken, and so are, number by number, the blocks of metadata.
pub record IsPlanned (old new : List Block) (inode : ℕ → Inode) : Type 0 where
  pub spelled : IsSpelled (blocks_in new) (root_of_image new).inode_index inode
  pub for_inodes : List ℕ
  pub for_node : ℕ → List ℕ
  pub inodes : (b : ℕ) → times b (inode_pointers new) ≤ times b (inode_pointers old) + times b for_inodes
  pub nodes : (b n : ℕ) → times b (metas_of new inode n) ≤ times b (metas_of old (inode_of (seen old).nodes) n) + times b (for_node n)

-- all blocks that are taken for metadata
abbrev pub taken_in : List ℕ → (ℕ → List ℕ) → List ℕ
taken_in for_inodes for_node = for_inodes ++ flat_map for_node (span 0 65536)
