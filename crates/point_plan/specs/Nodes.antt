-- Planned nodes by their numbers.
use Rattle.std.specs.Prelude.{◌≡◌, ◌≤◌, ◌<◌, ℕ, ◌+◌, ◌^◌, ◌==◌, if◌then◌else◌, List, [], ◌∷◌, ◌++◌, All, Option, Some, None}
use Rattle.std.specs.List.{flat_map}
use Rattle.block_format.specs.declared.inode.Inode.{Inode}
use Rattle.block_tree.specs.declared.plan.Rewritten.{Rewritten}
use Rattle.inode_file.specs.Inodes.{inode_of}
use Rattle.place_words.specs.Different.{times}
use Rattle.point_plan.specs.declared.planned_node.PlannedNode.{PlannedNode}

-- their numbers rise, from one on that is at least this, and are those of nodes
abbrev pub Ascend : ℕ → List PlannedNode → Type 0
Ascend least [] = Unit {0}
Ascend least (p ∷ ps) = (least ≤ p.number) × (p.number < 65536) × Ascend (p.number + 1) ps

-- what is planned of a number
abbrev pub planned_of : List PlannedNode → ℕ → Option PlannedNode
planned_of [] n = None
planned_of (p ∷ ps) n = if p.number == n then Some p else planned_of ps n

-- the planned inode of a number, and that of before where none is planned
abbrev pub inode_or : Option PlannedNode → Inode → Inode
inode_or None before = before
inode_or (Some p) before = p.is

-- the inode that a planned number had, and another one's
abbrev pub was_or : Option PlannedNode → Inode → Inode
was_or None inode = inode
was_or (Some p) inode = p.was

-- Each planned node had the inode that is told of it.
abbrev pub HadInodes : List Inode → List PlannedNode → Type 0
HadInodes inodes nodes = All (λ (p : PlannedNode). inode_of inodes p.number ≡ p.was) nodes

-- the pointers that come to a number's blocks, none where nothing is planned
abbrev pub added_in : Option PlannedNode → List ℕ
added_in None = []
added_in (Some p) = p.added

-- the pointers that go
abbrev pub dropped_in : Option PlannedNode → List ℕ
dropped_in None = []
dropped_in (Some p) = p.dropped

-- ---- of all of them

abbrev pub all_added : List PlannedNode → List ℕ
all_added nodes = flat_map (λ (p : PlannedNode). p.added) nodes

abbrev pub all_dropped : List PlannedNode → List ℕ
all_dropped nodes = flat_map (λ (p : PlannedNode). p.dropped) nodes

-- A block with this count has room for the pointers that come, and no more of them go than there are then.
pub record IsCountable (nodes : List PlannedNode) (inodes : Rewritten) (count b : ℕ) : Type 0 where
  pub fits : 1 ≤ times b (inodes.added ++ all_added nodes) → count + times b (inodes.added ++ all_added nodes) < 2 ^ 32
  pub some : times b (inodes.dropped ++ all_dropped nodes) ≤ count + times b (inodes.added ++ all_added nodes)
