-- The state of a volume, and what of it is stored.
use Rattle.std.specs.Prelude.{ℕ, ◌-◌, ◌*◌, if◌then◌else◌, List, [], ◌∷◌, ◌++◌, length, take, drop, replicate, nat_eq, Option, Some, None}
use Rattle.vol_numbers.specs.Layout.{Layout}
use Rattle.tree_model.specs.declared.command.Command.{Command}
use Rattle.tree_model.specs.declared.node.Content.{Content}
use Rattle.tree_model.specs.declared.node.Content.TheVariants.{File, Directory}
use Rattle.tree_model.specs.Tree.{Tree}
use Rattle.volume_model.specs.Places.{Spot, Places}
use Rattle.volume_model.specs.Cache.{CacheList}
use Rattle.volume_model.specs.Space.{free_blocks}

-- what a volume is served with
pub record Rules : Type 0 where
  -- the least length of a sequence that is shared
  pub threshold : ℕ
  -- the greatest length of the cache list
  pub capacity : ℕ
  -- the fingerprint of a block
  pub fingerprint : List ℕ → List ℕ

-- What the disk keeps: the layout, the tree and the places of the last point, the commands since it, and its number.
pub record Stored : Type 0 where
  pub layout : Layout
  pub tree : Tree
  pub places : Places
  pub records : List Command
  pub point : ℕ

pub record Machine : Type 0 where
  pub layout : Layout
  -- the tree now
  pub tree : Tree
  -- the tree and the places at the last point
  pub stored_tree : Tree
  pub stored_places : Places
  -- those of these places that were neither touched nor cut off since
  pub kept : Places
  -- the places that were touched since the point and not cut off
  pub dirty : List Spot
  -- the blocks that may be shared
  pub cache : CacheList
  -- the commands since the point
  pub records : List Command
  -- the number of the point
  pub point : ℕ

abbrev pub stored : Machine → Stored
stored m = record { layout = m.layout; tree = m.stored_tree; places = m.stored_places; records = m.records; point = m.point }

-- just after a point
abbrev pub at_point : Layout → Tree → Places → ℕ → CacheList → Machine
at_point layout tree placed point cache =
    record { layout = layout; tree = tree; stored_tree = tree; stored_places = placed; kept = placed; dirty = []; cache = cache; records = []; point = point }

-- how many blocks of the area are free
abbrev pub free_of : Machine → ℕ
free_of m = free_blocks m.layout m.stored_tree m.stored_places

-- ---- blocks of files

abbrev pub bytes_in : Content → List ℕ
bytes_in (File bytes) = bytes
bytes_in (Directory width) = []

abbrev pub bytes_numbered : ℕ → Tree → List ℕ
bytes_numbered number [] = []
bytes_numbered number (e ∷ es) = if nat_eq e.1.number number then bytes_in e.1.content else bytes_numbered number es

-- the block at a place of a file, which is filled up with zeros
abbrev pub block_at : Tree → Spot → List ℕ
block_at tree spot = let bytes = take 4096 (drop (4096 * spot.1) (bytes_numbered spot.0 tree)) in bytes ++ replicate (4096 - length bytes) 0

-- the bytes of a disk block: those that the first place which has it had at the last point
abbrev pub held : Machine → ℕ → Option (List ℕ)
held m block = held_among m.stored_places m.stored_tree block
  where
    held_among : Places → Tree → ℕ → Option (List ℕ)
    held_among [] tree block = None
    held_among (e ∷ es) tree block = if nat_eq e.1 block then Some (block_at tree e.0) else held_among es tree block
