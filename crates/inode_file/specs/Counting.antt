-- How many inode blocks there are.
use Rattle.std.specs.Prelude.{ℕ, ◌+◌, ◌/◌, if◌then◌else◌, List, [], ◌∷◌, map}
use Rattle.block_format.specs.declared.inode.Inode.{Inode}
use Rattle.place_words.specs.Different.{different}
use Rattle.inode_file.specs.Inodes.{is_used}

-- the numbers of nodes, where the first inode is that of a number
abbrev pub used_from : ℕ → List Inode → List ℕ
used_from n [] = []
used_from n (inode ∷ rest) = if is_used inode then n ∷ used_from (n + 1) rest else used_from (n + 1) rest

-- how many different positions the numbers of nodes have, 64 numbers each
abbrev pub used_positions : List Inode → ℕ
used_positions inodes = different (map (λ n. n / 64) (used_from 0 inodes))
