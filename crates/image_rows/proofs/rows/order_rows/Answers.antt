use Rattle.std.proofs.Common.{refl}
use Rattle.block_format.specs.Words.{words}
use Rattle.block_format.specs.Inode.{inode_in}
use Rattle.block_format.specs.Root.{root_in}
use Rattle.block_format.specs.Slot.{slot_in}
use Rattle.image_model.specs.Findings.{body_finding}
use Rattle.image_model.specs.Nodes.{tree_finding}
use Rattle.image_model.specs.Roots.{root_finding}
use Rattle.image_model.specs.Seen.{seen}
use Rattle.image_model.specs.Slots.{slots_from}
use Rattle.image_model.specs.Walk.{walk, inodes_from}
use Rattle.image_model.specs.declared.finding.Finding.TheVariants.{BadDirectory, BadGeometry, BadPointer, BadTail, MixedBlock, NoRoot, NotATree}
use Rattle.image_model.proofs.Phases.{in_directories, in_mixed, in_root, in_tails, in_tree, in_walk}
use Rattle.image_rows.specs.Orders.{directory_and_tree, geometry_and_pointer, mixed_and_tail, pointer_and_mixed, root_and_geometry, tail_and_directory, tree_and_count}
use Rattle.image_rows.proofs.Late.{at_count_and_reserve, at_reserve_and_log}
use Rattle.image_rows.proofs.rows.order_rows.Goals as goal

pub returns : goal.returns
unfolding words inode_in root_in slot_in body_finding tree_finding root_finding seen slots_from walk inodes_from
returns c = record {
  found_in_root_and_geometry = in_root root_and_geometry NoRoot refl;
  found_in_geometry_and_pointer = in_root geometry_and_pointer BadGeometry refl;
  found_in_pointer_and_mixed = in_walk pointer_and_mixed (BadPointer 3) refl refl;
  found_in_mixed_and_tail = in_mixed mixed_and_tail (MixedBlock 103) refl refl refl;
  found_in_tail_and_directory = in_tails tail_and_directory (BadTail 3) refl refl refl refl;
  found_in_directory_and_tree = in_directories directory_and_tree (BadDirectory 1) refl refl refl refl refl;
  found_in_tree_and_count = in_tree tree_and_count (NotATree 3) refl refl refl refl refl refl;
  found_in_count_and_reserve = at_count_and_reserve;
  found_in_reserve_and_log = at_reserve_and_log;
}
