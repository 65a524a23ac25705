-- All that is seen of an image behind its root: what its meaning and its faults are read from.
use Rattle.std.specs.Prelude.{ℕ, zero, suc, ◌+◌, ◌*◌, List, [], ◌∷◌, ◌++◌}
use Rattle.vol_numbers.specs.Layout.{count_blocks}
use Rattle.vol_numbers.specs.declared.block.Block.{Block}
use Rattle.block_format.specs.Homes.{home_bit}
use Rattle.block_format.specs.Root.{Root}
use Rattle.root_switch.specs.Current.{root_of_image}
use Rattle.block_format.specs.Words.{words}
use Rattle.block_format.specs.declared.inode.Inode.{Inode}
use Rattle.image_model.specs.Met.{Met, page, content}
use Rattle.block_tree.specs.Tree.{Blocks, blocks_in}
use Rattle.image_model.specs.Walk.{nodes_at, walk}

-- where the counts of 1,024 blocks lie, by a bit of the root
abbrev pub home_in : List ℕ → ℕ → ℕ
home_in homes i = 3 + 2 * i + home_bit homes i

-- the numbers of n count blocks, from one on
abbrev pub counts_from : Blocks → List ℕ → ℕ → ℕ → List ℕ
counts_from read homes i zero = []
counts_from read homes i (suc n) = words (read (home_in homes i)) ++ counts_from read homes (i + 1) n

-- a block of a directory or a file that is seen, with its bytes
pub record SeenBlock : Type 0 where
  pub number : ℕ
  pub place : ℕ
  pub block : ℕ
  pub bytes : List ℕ

-- a directory's block that is met, with its bytes
abbrev pub page_held : Blocks → Met → List SeenBlock
page_held read (page n place b) = record { number = n; place = place; block = b; bytes = read b } ∷ []
page_held read other = []

-- a file's block that is met, with its bytes
abbrev pub content_held : Blocks → Met → List SeenBlock
content_held read (content n place b) = record { number = n; place = place; block = b; bytes = read b } ∷ []
content_held read other = []

-- of all that is met
abbrev pub all_held : (Met → List SeenBlock) → List Met → List SeenBlock
all_held f [] = []
all_held f (m ∷ ms) = f m ++ all_held f ms

-- All that the meaning of an image and its faults are read from, behind the root and before the log.
pub record Seen : Type 0 where
  -- what the walk meets
  pub met : List Met
  -- the used inodes with their numbers
  pub nodes : List (ℕ × Inode)
  -- the blocks of directories
  pub pages : List SeenBlock
  -- the blocks of files
  pub contents : List SeenBlock
  -- the kept count of each block
  pub kept : List ℕ

-- what an inode index and the homes of the counts lead to
abbrev pub seen_from : Blocks → ℕ → List ℕ → ℕ → Seen
seen_from read at homes count_blocks =
    let met : List Met = walk read at in
    record {
      met = met;
      nodes = nodes_at read at;
      pages = all_held (page_held read) met;
      contents = all_held (content_held read) met;
      kept = counts_from read homes 0 count_blocks;
    }

-- what is seen of an image
unfoldable pub seen : List Block → Seen
seen image = let root : Root = root_of_image image in seen_from (blocks_in image) root.inode_index root.homes (count_blocks root.layout)
