use Rattle.std.proofs.Common.{refl}
use Rattle.block_format.specs.Words.{words}
use Rattle.block_format.specs.Inode.{inode_in}
use Rattle.block_format.specs.Root.{root_in}
use Rattle.block_format.specs.Slot.{slot_in}
use Rattle.image_model.specs.Findings.{body_finding}
use Rattle.image_model.specs.Nodes.{tree_finding}
use Rattle.image_model.specs.Roots.{root_finding}
use Rattle.image_model.specs.Seen.{seen}
use Rattle.image_model.specs.Slots.{slots_from}
use Rattle.image_model.specs.Walk.{walk, inodes_from}
use Rattle.image_model.specs.declared.finding.Finding.TheVariants.{MixedBlock}
use Rattle.image_model.proofs.Phases.{in_mixed}
use Rattle.image_rows.specs.Nodes.{directory_shared, leaf_shared, two_shared}
use Rattle.image_rows.proofs.rows.mixed_block_rows.Goals as goal

pub returns : goal.returns
unfolding words inode_in root_in slot_in body_finding tree_finding root_finding seen slots_from walk inodes_from
returns c = record {
  found_in_directory_shared = in_mixed directory_shared (MixedBlock 103) refl refl refl;
  found_in_leaf_shared = in_mixed leaf_shared (MixedBlock 104) refl refl refl;
  found_in_two_shared = in_mixed two_shared (MixedBlock 101) refl refl refl;
}
