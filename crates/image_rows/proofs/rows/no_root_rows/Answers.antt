use Rattle.std.proofs.Common.{refl}
use Rattle.block_format.specs.Words.{words}
use Rattle.block_format.specs.Inode.{inode_in}
use Rattle.block_format.specs.Root.{root_in}
use Rattle.block_format.specs.Slot.{slot_in}
use Rattle.image_model.specs.Findings.{body_finding}
use Rattle.image_model.specs.Nodes.{tree_finding}
use Rattle.image_model.specs.Roots.{root_finding}
use Rattle.image_model.specs.Seen.{seen}
use Rattle.image_model.specs.Slots.{slots_from}
use Rattle.image_model.specs.Walk.{walk, inodes_from}
use Rattle.image_model.specs.declared.finding.Finding.TheVariants.{NoRoot}
use Rattle.image_model.proofs.Phases.{in_root}
use Rattle.image_rows.specs.Roots.{second_version, two_blocks, used_end, used_field, wrong_slot, zero_first_byte}
use Rattle.image_rows.proofs.rows.no_root_rows.Goals as goal

pub returns : goal.returns
unfolding words inode_in root_in slot_in body_finding tree_finding root_finding seen slots_from walk inodes_from
returns c = record {
  found_in_zero_first_byte = in_root zero_first_byte NoRoot refl;
  found_in_second_version = in_root second_version NoRoot refl;
  found_in_used_field = in_root used_field NoRoot refl;
  found_in_used_end = in_root used_end NoRoot refl;
  found_in_wrong_slot = in_root wrong_slot NoRoot refl;
  found_in_two_blocks = in_root two_blocks NoRoot refl;
}
