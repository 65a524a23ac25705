-- Of private functions: how far a walk over inode blocks has come.
use Rattle.std.specs.Prelude.{◌≡◌, ℕ, ◌+◌, ◌-◌, ◌*◌, ◌==◌, ◌&&◌, if◌then◌else◌, bytes_eq, List, [], ◌++◌, drop, Option, Some, None}
use Rattle.std.specs.List.{flat_map}
use Rattle.vol_numbers.specs.Layout.{Layout}
use Rattle.block_format.specs.Inode.{inode_in, inode_bytes}
use Rattle.block_format.specs.declared.inode.Inode.{Inode}
use Rattle.block_format.specs.declared.inode.Inode.TheVariants.{File, Directory}
use Rattle.block_tree.specs.Tree.{Blocks}
use Rattle.image_model.specs.Met.{Met}
use Rattle.image_model.specs.Walk.{is_stray, bad_met, block_met, inodes_from, blocks_inodes, nodes_of}
use Rattle.image_walk.specs.declared.marks.Mark.{Mark}
use Rattle.image_walk.specs.Going.{Goes}

-- the inode of bytes that are its spelling, if it has a pointer and no bytes
abbrev pub stray_at : List ℕ → Option Inode
stray_at b = if is_stray (inode_in b) && bytes_eq (inode_bytes (inode_in b)) b then Some (inode_in b) else None

-- such an inode of a kind
abbrev pub stray_of : ℕ → ℕ → Option Inode
stray_of kind ptr = if kind == 1 then Some (File 0 0 ptr) else if kind == 2 then Some (Directory 0 0 ptr) else None

-- what is met in an inode block, where there is one, and its inodes
abbrev pub block_at : Blocks → ℕ → ℕ → List Met
block_at read first at = if at == 0 then [] else block_met first (inodes_from 64 first (read at))

abbrev pub inodes_at : Blocks → ℕ → ℕ → List (ℕ × List ℕ)
inodes_at read first at = if at == 0 then [] else inodes_from 64 first (read at)

-- So many inodes of a block were met, nothing is wrong with them, and the used ones are among the nodes.
pub record Taken (g : Layout) (bytes : List ℕ) (first k : ℕ) (old now : List (ℕ × Inode)) : Type 0 where
  pub front : List (ℕ × List ℕ)
  pub split : front ++ inodes_from (64 - k) (first + k) (drop (64 * k) bytes) ≡ inodes_from 64 first bytes
  pub nodes : now ≡ old ++ nodes_of front
  pub goes : (marks : List Mark) → Goes g marks marks (flat_map bad_met front)

-- The used inodes of so many inode blocks are among the nodes.
pub record Gathered (read : Blocks) (entries : List ℕ) (k : ℕ) (old now : List (ℕ × Inode)) : Type 0 where
  pub front : List (ℕ × List ℕ)
  pub split : front ++ blocks_inodes read (64 * k) (drop k entries) ≡ blocks_inodes read 0 entries
  pub nodes : now ≡ old ++ nodes_of front
