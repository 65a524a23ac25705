-- The numbers that no new node can have: in words of private functions alone.
use Rattle.std.specs.Prelude.{◌≡◌, ◌≤◌, ℕ, ◌||◌, nat_lt, Bool, List}
use Rattle.std.specs.Ordering.{nat_cmp}
use Rattle.std.specs.FinSet as set
use Rattle.block_format.specs.declared.inode.Inode.{Inode}
use Rattle.inode_file.specs.Inodes.{inode_of, is_used}

-- whether no new node can have a number: 0, 1, and those that are used
abbrev pub is_taken : List Inode → ℕ → Bool
is_taken inodes n = nat_lt n 2 || is_used (inode_of inodes n)

-- The set has the numbers that no new node can have.
pub record HasTaken (numbers : set.FinSet nat_cmp) (inodes : List Inode) : Type 0 where
  pub each : (n : ℕ) → n ≤ 65535 → set.contains numbers n ≡ is_taken inodes n
