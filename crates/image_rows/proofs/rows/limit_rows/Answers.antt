use Rattle.std.proofs.Common.{refl}
use Rattle.block_format.specs.Words.{words}
use Rattle.block_format.specs.Inode.{inode_in}
use Rattle.block_format.specs.Root.{root_in}
use Rattle.block_format.specs.Slot.{slot_in}
use Rattle.image_model.specs.Findings.{body_finding}
use Rattle.image_model.specs.Nodes.{tree_finding}
use Rattle.image_model.specs.Roots.{root_finding}
use Rattle.image_model.specs.Seen.{seen}
use Rattle.image_model.specs.Slots.{slots_from}
use Rattle.image_model.specs.Walk.{walk, inodes_from}
use Rattle.image_model.specs.declared.finding.Finding.TheVariants.{BadInode, BadDirectory}
use Rattle.image_model.proofs.Phases.{in_walk, in_directories}
use Rattle.image_rows.specs.Limits.{big_file, wide_directory, odd_size, behind_size, number_past, no_length, long_length}
use Rattle.image_rows.proofs.rows.limit_rows.Goals as goal

pub returns : goal.returns
unfolding words inode_in root_in slot_in body_finding tree_finding root_finding seen slots_from walk inodes_from
returns c = record {
  found_in_big_file = in_walk big_file (BadInode 2) refl refl;
  found_in_wide_directory = in_walk wide_directory (BadInode 3) refl refl;
  found_in_odd_size = in_walk odd_size (BadInode 1) refl refl;
  found_in_behind_size = in_walk behind_size (BadInode 2) refl refl;
  found_in_number_past = in_directories number_past (BadDirectory 1) refl refl refl refl refl;
  found_in_no_length = in_directories no_length (BadDirectory 1) refl refl refl refl refl;
  found_in_long_length = in_directories long_length (BadDirectory 1) refl refl refl refl refl;
}
