use Rattle.std.proofs.Common.{refl}
use Rattle.block_format.specs.Words.{words}
use Rattle.block_format.specs.Inode.{inode_in}
use Rattle.block_format.specs.Root.{root_in}
use Rattle.block_format.specs.Slot.{slot_in}
use Rattle.image_model.specs.Findings.{body_finding}
use Rattle.image_model.specs.Nodes.{tree_finding}
use Rattle.image_model.specs.Roots.{root_finding}
use Rattle.image_model.specs.Seen.{seen}
use Rattle.image_model.specs.Slots.{slots_from}
use Rattle.image_model.specs.Walk.{walk, inodes_from}
use Rattle.image_model.specs.declared.finding.Finding.TheVariants.{BadDirectory}
use Rattle.image_model.proofs.Phases.{in_directories}
use Rattle.image_rows.specs.Nodes.{other_hole, second_hole, byte_behind_name, directory_hole, equal_names, slash_name, slot_behind, used_slot}
use Rattle.image_rows.proofs.rows.bad_directory_rows.Goals as goal

pub returns : goal.returns
unfolding words inode_in root_in slot_in body_finding tree_finding root_finding seen slots_from walk inodes_from
returns c = record {
  found_in_equal_names = in_directories equal_names (BadDirectory 1) refl refl refl refl refl;
  found_in_directory_hole = in_directories directory_hole (BadDirectory 1) refl refl refl refl refl;
  found_in_slot_behind = in_directories slot_behind (BadDirectory 1) refl refl refl refl refl;
  found_in_slash_name = in_directories slash_name (BadDirectory 1) refl refl refl refl refl;
  found_in_byte_behind_name = in_directories byte_behind_name (BadDirectory 1) refl refl refl refl refl;
  found_in_used_slot = in_directories used_slot (BadDirectory 1) refl refl refl refl refl;
  found_in_second_hole = in_directories second_hole (BadDirectory 1) refl refl refl refl refl;
  found_in_other_hole = in_directories other_hole (BadDirectory 3) refl refl refl refl refl;
}
