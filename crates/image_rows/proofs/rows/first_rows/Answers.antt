use Rattle.std.proofs.Common.{refl}
use Rattle.block_format.specs.Words.{words}
use Rattle.block_format.specs.Inode.{inode_in}
use Rattle.block_format.specs.Root.{root_in}
use Rattle.block_format.specs.Slot.{slot_in}
use Rattle.image_model.specs.Findings.{body_finding}
use Rattle.image_model.specs.Nodes.{tree_finding}
use Rattle.image_model.specs.Roots.{root_finding}
use Rattle.image_model.specs.Seen.{seen}
use Rattle.image_model.specs.Slots.{slots_from}
use Rattle.image_model.specs.Walk.{walk, inodes_from}
use Rattle.image_model.specs.declared.finding.Finding.TheVariants.{BadPointer, BadInode, BadDirectory, NotATree}
use Rattle.image_model.proofs.Phases.{in_walk, in_directories, in_tree}
use Rattle.image_rows.specs.Firsts.{two_kinds, two_pointers, two_directories, two_unnamed}
use Rattle.image_rows.proofs.Late.{at_two_counts}
use Rattle.image_rows.proofs.rows.first_rows.Goals as goal

pub returns : goal.returns
unfolding words inode_in root_in slot_in body_finding tree_finding root_finding seen slots_from walk inodes_from
returns c = record {
  found_in_two_kinds = in_walk two_kinds (BadInode 2) refl refl;
  found_in_two_pointers = in_walk two_pointers (BadPointer 3) refl refl;
  found_in_two_directories = in_directories two_directories (BadDirectory 1) refl refl refl refl refl;
  found_in_two_unnamed = in_tree two_unnamed (NotATree 2) refl refl refl refl refl refl;
  found_in_two_counts = at_two_counts;
}
