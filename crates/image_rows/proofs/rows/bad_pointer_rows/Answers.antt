use Rattle.std.proofs.Common.{refl}
use Rattle.block_format.specs.Words.{words}
use Rattle.block_format.specs.Inode.{inode_in}
use Rattle.block_format.specs.Root.{root_in}
use Rattle.block_format.specs.Slot.{slot_in}
use Rattle.image_model.specs.Findings.{body_finding}
use Rattle.image_model.specs.Nodes.{tree_finding}
use Rattle.image_model.specs.Roots.{root_finding}
use Rattle.image_model.specs.Seen.{seen}
use Rattle.image_model.specs.Slots.{slots_from}
use Rattle.image_model.specs.Walk.{walk, inodes_from}
use Rattle.image_model.specs.declared.finding.Finding.TheVariants.{BadPointer}
use Rattle.image_model.proofs.Phases.{in_walk}
use Rattle.image_rows.specs.Walks.{block_outside, directory_stray, empty_leaf, empty_top, entry_outside, entry_twice, index_behind, index_below, leaf_behind, leaf_twice, no_index, page_twice, place_behind, stray_outside}
use Rattle.image_rows.proofs.rows.bad_pointer_rows.Goals as goal

pub returns : goal.returns
unfolding words inode_in root_in slot_in body_finding tree_finding root_finding seen slots_from walk inodes_from
returns c = record {
  found_in_no_index = in_walk no_index (BadPointer 0) refl refl;
  found_in_index_below = in_walk index_below (BadPointer 100) refl refl;
  found_in_index_behind = in_walk index_behind (BadPointer 165) refl refl;
  found_in_entry_outside = in_walk entry_outside (BadPointer 165) refl refl;
  found_in_entry_twice = in_walk entry_twice (BadPointer 101) refl refl;
  found_in_block_outside = in_walk block_outside (BadPointer 3) refl refl;
  found_in_place_behind = in_walk place_behind (BadPointer 107) refl refl;
  found_in_empty_leaf = in_walk empty_leaf (BadPointer 104) refl refl;
  found_in_leaf_twice = in_walk leaf_twice (BadPointer 103) refl refl;
  found_in_stray_outside = in_walk stray_outside (BadPointer 165) refl refl;
  found_in_leaf_behind = in_walk leaf_behind (BadPointer 109) refl refl;
  found_in_page_twice = in_walk page_twice (BadPointer 103) refl refl;
  found_in_empty_top = in_walk empty_top (BadPointer 104) refl refl;
  found_in_directory_stray = in_walk directory_stray (BadPointer 165) refl refl;
}
