-- Laws of what is planned of a node.
use Rattle.std.specs.Prelude.{◌≡◌, ◌≤◌, ◌⊎◌, ℕ, true, false, List, [], length, Some}
use Rattle.vol_numbers.specs.declared.block.Block.{Block}
use Rattle.block_format.specs.declared.slot.Slot.{Slot}
use Rattle.dir_slots.specs.Pages.{pages_for}
use Rattle.dirty_store.specs.Laws.{dirty_spots}
use Rattle.dirty_store.specs.Numbers.{staged_numbers}
use Rattle.dirty_store.specs.Overlay.{Overlay, node_of, least_cut}
use Rattle.image_model.specs.Stands.{Stands}
use Rattle.place_words.specs.Different.{is_among}
use Rattle.point_model.specs.Holding.{inode_before, slots_left, kind_of, width_in}
use Rattle.point_model.specs.OldPages.{DirectoriesStand}
use Rattle.point_model.specs.PointPlan.{LiveStays, NodeIsPlanned}
use Rattle.tree_plan.specs.Directories.{HoldsDirectory}
use Rattle.volume_model.specs.Machine.{Machine, Stored}
use Rattle.volume_model.specs.Places.{Places}

-- A number of which nothing is staged is planned as it was, with nothing added, dropped or taken, in each image in which the live blocks are as they were.
-- That the pages of directories stand is point_model's law `pages_are_spelled`.
abbrev pub UnstagedIsPlanned : Type 0
UnstagedIsPlanned = (old new : List Block) (s : Stored) (o : Overlay) (m : Machine) (placed : Places) (n : ℕ) → Stands old s → DirectoriesStand old → LiveStays old new → dirty_spots o ≡ m.dirty
    → is_among (staged_numbers o) n ≡ false → NodeIsPlanned old new o m placed n (inode_before old n) [] [] []

-- What has to hold of a directory to plan it, where the old image stands for something: a number that was no directory is cut to no block, the cut takes no
-- page that is left, and as many slots are left as the old inode tells, if the directory isn't cut to no block.
abbrev pub DirectoryHolds : Type 0
DirectoryHolds = (old : List Block) (s : Stored) (o : Overlay) (n : ℕ) (left : List Slot) → Stands old s → DirectoriesStand old → left ≡ slots_left old o n
    → ((kind_of (inode_before old n) ≡ Some true) ⊎ (least_cut (node_of o n) ≡ 0)) → pages_for (length left) ≤ least_cut (node_of o n)
    → ((length left ≡ width_in (inode_before old n)) ⊎ (least_cut (node_of o n) ≡ 0)) → HoldsDirectory old o n (inode_before old n) left
