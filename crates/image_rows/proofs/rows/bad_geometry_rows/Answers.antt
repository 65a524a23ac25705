use Rattle.std.proofs.Common.{refl}
use Rattle.block_format.specs.Words.{words}
use Rattle.block_format.specs.Inode.{inode_in}
use Rattle.block_format.specs.Root.{root_in}
use Rattle.block_format.specs.Slot.{slot_in}
use Rattle.image_model.specs.Findings.{body_finding}
use Rattle.image_model.specs.Nodes.{tree_finding}
use Rattle.image_model.specs.Roots.{root_finding}
use Rattle.image_model.specs.Seen.{seen}
use Rattle.image_model.specs.Slots.{slots_from}
use Rattle.image_model.specs.Walk.{walk, inodes_from}
use Rattle.image_model.specs.declared.finding.Finding.TheVariants.{BadGeometry}
use Rattle.image_model.proofs.Phases.{in_root}
use Rattle.image_rows.specs.Roots.{long_log, many_records, other_size, short_log, small_area, spare_home}
use Rattle.image_rows.proofs.rows.bad_geometry_rows.Goals as goal

pub returns : goal.returns
unfolding words inode_in root_in slot_in body_finding tree_finding root_finding seen slots_from walk inodes_from
returns c = record {
  found_in_short_log = in_root short_log BadGeometry refl;
  found_in_other_size = in_root other_size BadGeometry refl;
  found_in_small_area = in_root small_area BadGeometry refl;
  found_in_many_records = in_root many_records BadGeometry refl;
  found_in_long_log = in_root long_log BadGeometry refl;
  found_in_spare_home = in_root spare_home BadGeometry refl;
}
