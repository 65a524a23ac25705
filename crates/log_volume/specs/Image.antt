-- What an image stands for.
use Rattle.std.specs.Prelude.{◌≡◌, ◌<◌, ℕ, ◌+◌, ◌*◌, List, length, replicate, slice_get, Some}
use Rattle.vol_numbers.specs.Layout.{Layout, count_blocks, log_start, area_start}
use Rattle.vol_numbers.specs.declared.block.Block.{Block}
use Rattle.root_switch.specs.Current.{current_root, root_of_image, HasRoot, FitsImage}
use Rattle.tree_model.specs.declared.command.Command.{Command}
use Rattle.op_log.specs.Log.{HoldsRecords, RecordStands, blocks_of}
use Rattle.op_log.specs.Record.{HasRecord, record_blocks}
use Rattle.volume_format.specs.Blocks.{count_block, index_block, inode_block}
use Rattle.log_volume.specs.Replay.{Kept, nothing_kept, after, DoesEach}

abbrev pub layout_in : List Block → Layout
layout_in image = (root_of_image image).layout

-- how many records the root says that the log has, and how many blocks they take
abbrev pub records_in : List Block → ℕ
records_in image = (root_of_image image).records

abbrev pub used_in : List Block → ℕ
used_in image = (root_of_image image).log_used

-- the blocks of the log that the root names begin with the records of these commands
abbrev pub LogHolds : List Block → List Command → Type 0
LogHolds image commands = HoldsRecords image (log_start (layout_in image)) (used_in image) commands

-- all but the root's log fields, the log and what the counts don't reach is as a format leaves it
pub record IsBuilt (image : List Block) : Type 0 where
  pub point : (root_of_image image).point ≡ 0
  pub inode_index : (root_of_image image).inode_index ≡ area_start (layout_in image) + 1
  pub homes : (root_of_image image).homes ≡ replicate 128 0
  pub counts : (i : ℕ) → i < count_blocks (layout_in image) → slice_get image (3 + 2 * i) ≡ Some (count_block (layout_in image) i)
  pub inodes : slice_get image (area_start (layout_in image)) ≡ Some inode_block
  pub index : slice_get image (area_start (layout_in image) + 1) ≡ Some (index_block (layout_in image))

-- The log has as many records as the root says, they fill its used blocks, and the tree does their commands in turn.
pub record Logs (image : List Block) (kept : Kept) : Type 0 where
  pub commands : List Command
  pub count : length commands ≡ records_in image
  pub logged : LogHolds image commands
  pub filled : blocks_of commands ≡ used_in image
  pub done : DoesEach nothing_kept commands
  pub is : kept ≡ after commands nothing_kept

-- The image stands for this tree and this use of the log: its root, what a format wrote, and its log are as they should be.
pub record Stands (image : List Block) (kept : Kept) : Type 0 where
  pub root : HasRoot image
  pub fits : FitsImage image
  pub built : IsBuilt image
  pub logs : Logs image kept

-- The blocks behind the root slots that the meaning depends on: the counts' homes, the inode block, the inode index, and the log in use.
pub data IsLive (image : List Block) : ℕ → Type 0 where
  counts : (i : ℕ) → i < count_blocks (layout_in image) → IsLive image (3 + 2 * i)
  inodes : IsLive image (area_start (layout_in image))
  index : IsLive image (area_start (layout_in image) + 1)
  logged : (i : ℕ) → i < used_in image → IsLive image (log_start (layout_in image) + i)

-- New has the root of old, and each live block as it was.
pub record KeepsLive (old new : List Block) : Type 0 where
  pub as_long : length new ≡ length old
  pub root : current_root new ≡ current_root old
  pub live : (k : ℕ) → IsLive old k → slice_get new k ≡ slice_get old k

-- New has a root that counts one record more, which is that of the command and lies behind the log of old; the rest that is live is as it was.
pub record HasNext (old new : List Block) (command : Command) : Type 0 where
  pub as_long : length new ≡ length old
  pub root : HasRoot new
  pub fits : FitsImage new
  pub layout : layout_in new ≡ layout_in old
  pub point : (root_of_image new).point ≡ (root_of_image old).point
  pub inode_index : (root_of_image new).inode_index ≡ (root_of_image old).inode_index
  pub homes : (root_of_image new).homes ≡ (root_of_image old).homes
  pub records : records_in new ≡ records_in old + 1
  pub used : used_in new ≡ used_in old + record_blocks command
  pub live : (k : ℕ) → IsLive old k → slice_get new k ≡ slice_get old k
  pub has_record : HasRecord command
  pub logged : RecordStands new (log_start (layout_in old) + used_in old) command
