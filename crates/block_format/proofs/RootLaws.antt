-- A root is read as it was spelled.
use Rattle.std.proofs.Common.{◌≡◌, ◌<◌, ◌^◌, [], length, replicate, ap, ◌∙◌}
use Rattle.std.proofs.lemmas.List.{take_at}
use Rattle.byteorder.specs.Numbers.{little_number-reads_back}
use Rattle.vol_numbers.specs.declared.block.Block.{Block}
use Rattle.vol_numbers.specs.declared.geometry.Geometry.{Geometry}
use Rattle.vol_numbers.specs.Geometry.{layout_of}
use Rattle.vol_numbers.specs.Layout.{Layout, IsValid}
use Rattle.std.proofs.Math.Bridge.{le_prop}
use mathlib.Core.HLevel.{is_prop→PathP}
use Rattle.block_format.specs.declared.root.RootBody.{RootBody}
use Rattle.block_format.specs.Root.{Root, root_of, root_in, root_bytes, SpellsRoot}

-- each field has room for its number
pub record HasRoom (r : Root) : Type 0 where
  pub blocks : r.layout.blocks < 2 ^ 32
  pub log_blocks : r.layout.log_blocks < 2 ^ 32
  pub point : r.point < 2 ^ 64
  pub inode_index : r.inode_index < 2 ^ 32
  pub records : r.records < 2 ^ 32
  pub log_used : r.log_used < 2 ^ 32
  pub homes : length r.homes ≡ 128

-- what a spelling's fields say is what was spelled
pub root_in-root_bytes : (r : Root) → HasRoom r → root_in (root_bytes r) ≡ r
unfolding root_in
root_in-root_bytes r room = λ i. record {
  layout = record {
    blocks = little_number-reads_back 4 r.layout.blocks [] room.blocks i;
    log_blocks = little_number-reads_back 4 r.layout.log_blocks [] room.log_blocks i;
  };
  point = little_number-reads_back 8 r.point [] room.point i;
  inode_index = little_number-reads_back 4 r.inode_index [] room.inode_index i;
  records = little_number-reads_back 4 r.records [] room.records i;
  log_used = little_number-reads_back 4 r.log_used [] room.log_used i;
  homes = take_at r.homes (replicate 3920 0) 128 room.homes i;
}

-- the fields of a block that spells a root say this root
pub root_in-spelled : (body : RootBody) (block : Block) → HasRoom (root_of body) → SpellsRoot body block → root_in block.bytes ≡ root_of body
root_in-spelled body block room is = ap root_in is.spelled ∙ root_in-root_bytes (root_of body) room

-- two geometries of one layout are the same
geometry_of-same : (g h : Geometry) → layout_of g ≡ layout_of h → g ≡ h
geometry_of-same g h e = λ i. record {
  blocks = (e i).blocks;
  log_blocks = (e i).log_blocks;
  valid = is_prop→PathP (λ j. IsValid (e j)) (λ j. IsValid-prop (e j)) g.valid h.valid i;
}
  where
    IsValid-prop : (l : Layout) → IsProp (IsValid l)
    IsValid-prop l = hlevel (le_prop)

-- two bodies of one root are the same
pub root_of-same : (body other : RootBody) → root_of body ≡ root_of other → body ≡ other
root_of-same body other e =
    let geometry : body.geometry ≡ other.geometry = geometry_of-same body.geometry other.geometry (λ i. (e i).layout) in
    λ i. record {
      geometry = geometry i;
      point = (e i).point;
      inode_index = (e i).inode_index;
      records = (e i).records;
      log_used = (e i).log_used;
      homes = record { bytes = (e i).homes };
    }
