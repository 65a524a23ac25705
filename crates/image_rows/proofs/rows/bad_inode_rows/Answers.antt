use Rattle.std.proofs.Common.{refl}
use Rattle.block_format.specs.Words.{words}
use Rattle.block_format.specs.Inode.{inode_in}
use Rattle.block_format.specs.Root.{root_in}
use Rattle.block_format.specs.Slot.{slot_in}
use Rattle.image_model.specs.Findings.{body_finding}
use Rattle.image_model.specs.Nodes.{tree_finding}
use Rattle.image_model.specs.Roots.{root_finding}
use Rattle.image_model.specs.Seen.{seen}
use Rattle.image_model.specs.Slots.{slots_from}
use Rattle.image_model.specs.Walk.{walk, inodes_from}
use Rattle.image_model.specs.declared.finding.Finding.TheVariants.{BadInode}
use Rattle.image_model.proofs.Phases.{in_walk}
use Rattle.image_rows.specs.Walks.{directory_inside, zero_stray, none_used, root_file, stray_inside, stray_then_kind, third_kind, used_gap, used_zero, wrong_height}
use Rattle.image_rows.proofs.rows.bad_inode_rows.Goals as goal

pub returns : goal.returns
unfolding words inode_in root_in slot_in body_finding tree_finding root_finding seen slots_from walk inodes_from
returns c = record {
  found_in_third_kind = in_walk third_kind (BadInode 2) refl refl;
  found_in_used_zero = in_walk used_zero (BadInode 0) refl refl;
  found_in_none_used = in_walk none_used (BadInode 64) refl refl;
  found_in_root_file = in_walk root_file (BadInode 1) refl refl;
  found_in_wrong_height = in_walk wrong_height (BadInode 2) refl refl;
  found_in_used_gap = in_walk used_gap (BadInode 2) refl refl;
  found_in_stray_inside = in_walk stray_inside (BadInode 3) refl refl;
  found_in_stray_then_kind = in_walk stray_then_kind (BadInode 3) refl refl;
  found_in_directory_inside = in_walk directory_inside (BadInode 3) refl refl;
  found_in_zero_stray = in_walk zero_stray (BadInode 0) refl refl;
}
