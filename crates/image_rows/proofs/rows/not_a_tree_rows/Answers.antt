use Rattle.std.proofs.Common.{refl}
use Rattle.block_format.specs.Words.{words}
use Rattle.block_format.specs.Inode.{inode_in}
use Rattle.block_format.specs.Root.{root_in}
use Rattle.block_format.specs.Slot.{slot_in}
use Rattle.image_model.specs.Findings.{body_finding}
use Rattle.image_model.specs.Nodes.{tree_finding}
use Rattle.image_model.specs.Roots.{root_finding}
use Rattle.image_model.specs.Seen.{seen}
use Rattle.image_model.specs.Slots.{slots_from}
use Rattle.image_model.specs.Walk.{walk, inodes_from}
use Rattle.image_model.specs.declared.finding.Finding.TheVariants.{NotATree}
use Rattle.image_model.proofs.Phases.{in_tree}
use Rattle.image_rows.specs.Nodes.{named_twice, ring, root_named, unnamed, unused_named}
use Rattle.image_rows.proofs.rows.not_a_tree_rows.Goals as goal

pub returns : goal.returns
unfolding words inode_in root_in slot_in body_finding tree_finding root_finding seen slots_from walk inodes_from
returns c = record {
  found_in_named_twice = in_tree named_twice (NotATree 2) refl refl refl refl refl refl;
  found_in_root_named = in_tree root_named (NotATree 1) refl refl refl refl refl refl;
  found_in_unused_named = in_tree unused_named (NotATree 4) refl refl refl refl refl refl;
  found_in_unnamed = in_tree unnamed (NotATree 3) refl refl refl refl refl refl;
  found_in_ring = in_tree ring (NotATree 4) refl refl refl refl refl refl;
}
