-- The fields of a root slot, before any rule of the geometry.
use Rattle.block_format.specs.Root.{Root}
use Rattle.block_format.specs.declared.fields.Fields.{Fields}

-- the root that these fields say
abbrev pub root_from : Fields → Root
root_from fields = record {
  layout = record { blocks = fields.blocks; log_blocks = fields.log_blocks };
  point = fields.point;
  inode_index = fields.inode_index;
  records = fields.records;
  log_used = fields.log_used;
  homes = fields.homes.bytes;
}
