-- A root slot of 4,096 bytes.
use Rattle.std.specs.Prelude.{◌≡◌, ◌≤◌, ◌<◌, ℕ, List, ◌++◌, take, drop, replicate, codes}
use Rattle.byteorder.specs.Endian.{little_bytes, little_number}
use Rattle.vol_numbers.specs.Layout.{Layout, IsValid, count_blocks}
use Rattle.vol_numbers.specs.Geometry.{layout_of}
use Rattle.vol_numbers.specs.declared.block.Block.{Block}
use Rattle.block_format.specs.Homes.{home_bit}
use Rattle.block_format.specs.declared.root.RootBody.{RootBody}

-- what a root says
pub record Root : Type 0 where
  pub layout : Layout
  pub point : ℕ
  pub inode_index : ℕ
  pub records : ℕ
  pub log_used : ℕ
  pub homes : List ℕ

-- the root that a body says
abbrev pub root_of : RootBody → Root
root_of body = record {
  layout = layout_of body.geometry;
  point = body.point;
  inode_index = body.inode_index;
  records = body.records;
  log_used = body.log_used;
  homes = body.homes.bytes;
}

-- the spelling of a root up to its home bits
abbrev pub header_bytes : Root → List ℕ
header_bytes r =
    codes "IDEDUPFS" ++ little_bytes 4 1
    ++ little_bytes 4 r.layout.blocks ++ little_bytes 4 r.layout.log_blocks ++ replicate 4 0
    ++ little_bytes 8 r.point ++ little_bytes 4 r.inode_index
    ++ little_bytes 4 r.records ++ little_bytes 4 r.log_used ++ replicate 4 0
    ++ r.homes

-- the one spelling of a root, which fills its block with zeros
abbrev pub root_bytes : Root → List ℕ
root_bytes r = header_bytes r ++ replicate 3920 0

-- what the fields say, in a block of any shape
unfoldable pub root_in : List ℕ → Root
root_in bytes = record {
  layout = record {
    blocks = little_number 4 (drop 12 bytes);
    log_blocks = little_number 4 (drop 16 bytes);
  };
  point = little_number 8 (drop 24 bytes);
  inode_index = little_number 4 (drop 32 bytes);
  records = little_number 4 (drop 36 bytes);
  log_used = little_number 4 (drop 40 bytes);
  homes = take 128 (drop 48 bytes);
}

-- within the shape rules: the bytes are the spelling of what their fields say
abbrev pub HasShape : List ℕ → Type 0
HasShape bytes = bytes ≡ root_bytes (root_in bytes)

-- within the geometry rules
pub record HasGeometry (r : Root) : Type 0 where
  pub valid : IsValid r.layout
  pub records_fit : r.records ≤ r.log_used
  pub log_fits : r.log_used ≤ r.layout.log_blocks
  pub homes_fit : (i : ℕ) → i < 1024 → count_blocks r.layout ≤ i → home_bit r.homes i ≡ 0

-- the block is the spelling of this root, which is within the geometry rules
pub record SpellsRoot (body : RootBody) (block : Block) : Type 0 where
  pub spelled : block.bytes ≡ root_bytes (root_of body)
  pub geometry : HasGeometry (root_of body)
