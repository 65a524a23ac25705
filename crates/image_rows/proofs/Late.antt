-- Images whose finding, if any, comes behind the directories: each is computed by itself.
use Rattle.std.proofs.Common.{◌≡◌, Some, None, refl}
use Rattle.block_format.specs.Words.{words}
use Rattle.block_format.specs.Inode.{inode_in}
use Rattle.block_format.specs.Root.{root_in}
use Rattle.block_format.specs.Slot.{slot_in}
use Rattle.image_model.specs.Findings.{body_finding}
use Rattle.image_model.specs.Finds.{early_finding}
use Rattle.image_model.specs.Nodes.{tree_finding}
use Rattle.image_model.specs.Roots.{root_finding}
use Rattle.image_model.specs.Seen.{seen}
use Rattle.image_model.specs.Slots.{slots_from}
use Rattle.image_model.specs.Walk.{walk, inodes_from}
use Rattle.image_model.specs.declared.finding.Finding.TheVariants.{NoReserve, WrongCount}
use Rattle.image_rows.specs.Images.{small}
use Rattle.image_rows.specs.Spaces.{third_pointer, counted_behind, fifteen_free}
use Rattle.image_rows.specs.Orders.{count_and_reserve, reserve_and_log}
use Rattle.image_rows.specs.Firsts.{two_counts}
use Rattle.image_rows.specs.Sound.{blank, unlike, just_enough}

pub at_third_pointer : early_finding third_pointer ≡ Some (WrongCount 105 3 2)
unfolding words inode_in root_in slot_in body_finding tree_finding root_finding seen slots_from walk inodes_from
at_third_pointer = refl

pub at_counted_behind : early_finding counted_behind ≡ Some (WrongCount 1000 1 0)
unfolding words inode_in root_in slot_in body_finding tree_finding root_finding seen slots_from walk inodes_from
at_counted_behind = refl

pub at_fifteen_free : early_finding fifteen_free ≡ Some (NoReserve 15)
unfolding words inode_in root_in slot_in body_finding tree_finding root_finding seen slots_from walk inodes_from
at_fifteen_free = refl

pub at_count_and_reserve : early_finding count_and_reserve ≡ Some (WrongCount 101 2 1)
unfolding words inode_in root_in slot_in body_finding tree_finding root_finding seen slots_from walk inodes_from
at_count_and_reserve = refl

pub at_small : early_finding small ≡ None
unfolding words inode_in root_in slot_in body_finding tree_finding root_finding seen slots_from walk inodes_from
at_small = refl

pub at_blank : early_finding blank ≡ None
unfolding words inode_in root_in slot_in body_finding tree_finding root_finding seen slots_from walk inodes_from
at_blank = refl

pub at_unlike : early_finding unlike ≡ None
unfolding words inode_in root_in slot_in body_finding tree_finding root_finding seen slots_from walk inodes_from
at_unlike = refl

pub at_just_enough : early_finding just_enough ≡ None
unfolding words inode_in root_in slot_in body_finding tree_finding root_finding seen slots_from walk inodes_from
at_just_enough = refl

pub at_reserve_and_log : early_finding reserve_and_log ≡ Some (NoReserve 15)
unfolding words inode_in root_in slot_in body_finding tree_finding root_finding seen slots_from walk inodes_from
at_reserve_and_log = refl

pub at_two_counts : early_finding two_counts ≡ Some (WrongCount 105 3 2)
unfolding words inode_in root_in slot_in body_finding tree_finding root_finding seen slots_from walk inodes_from
at_two_counts = refl
