-- What the parts of a mount answer.
use Rattle.std.specs.Prelude.{◌≡◌, ◌<◌, ℕ, ◌+◌, ◌*◌, List, replicate, slice_get, Some, Result, Ok, Err}
use Rattle.vol_numbers.specs.Cause.{raised}
use Rattle.vol_numbers.specs.Layout.{Layout, count_blocks, area_start}
use Rattle.vol_numbers.specs.declared.block.Block.{Block}
use Rattle.block_format.specs.Root.{Root, root_of}
use Rattle.root_switch.specs.Current.{current_slot, root_of_image, HasRoot, FitsImage}
use Rattle.root_switch.specs.declared.reading.Current.{Current}
use Rattle.volume_format.specs.Blocks.{count_block, index_block, inode_block}
use Rattle.log_volume.specs.Finding.{HasBadLog}
use Rattle.log_volume.specs.Image.{IsBuilt}
use Rattle.log_volume.specs.declared.finding.Finding.{Finding}
use Rattle.log_volume.specs.declared.finding.Finding.TheVariants.{NoRoot, BadGeometry, Unbuilt, BadLog}
use Rattle.log_volume.specs.declared.mounting.MountFault.{MountFault}
use Rattle.log_volume.specs.declared.mounting.MountFault.TheVariants.{Found, Device, OutOfMemory}

-- P holds of the finding, if there is one
abbrev pub OnFound : {T : Type 0} → Result T MountFault → (Finding → Type 0) → Type 0
OnFound (Err (Found finding)) P = P finding
OnFound (Err Device) P = Unit {0}
OnFound (Err OutOfMemory) P = Unit {0}
OnFound (Ok volume) P = Unit {0}

-- a fault of the device is counted, and nothing else
abbrev pub HasMountCause : {T : Type 0} → ℕ → ℕ → Result T MountFault → Type 0
HasMountCause old new (Ok value) = new ≡ old
HasMountCause old new (Err (Found finding)) = new ≡ old
HasMountCause old new (Err Device) = new ≡ raised old
HasMountCause old new (Err OutOfMemory) = new ≡ old

-- the root's fields but its numbers of the log are as a format writes them
pub record HasFreshFields (r : Root) : Type 0 where
  pub point : r.point ≡ 0
  pub inode_index : r.inode_index ≡ area_start r.layout + 1
  pub homes : r.homes ≡ replicate 128 0

-- the count blocks in their first homes are as a format writes them
abbrev pub HasCounts : Layout → List Block → Type 0
HasCounts g image = (i : ℕ) → i < count_blocks g → slice_get image (3 + 2 * i) ≡ Some (count_block g i)

-- so are the inode block and the inode index
pub record HasInodes (g : Layout) (image : List Block) : Type 0 where
  pub inodes : slice_get image (area_start g) ≡ Some inode_block
  pub index : slice_get image (area_start g + 1) ≡ Some (index_block g)

-- the current root is this one, and all that a format wrote stands there
pub record HasBuilt (current : Current) (image : List Block) : Type 0 where
  pub root : HasRoot image
  pub fits : FitsImage image
  pub built : IsBuilt image
  pub slot_is : current_slot image ≡ current.slot
  pub root_is : root_of_image image ≡ root_of current.body

-- the finding is of the log, and is right
abbrev pub FindsLog : List Block → Finding → Type 0
FindsLog image NoRoot = ⊥
FindsLog image BadGeometry = ⊥
FindsLog image Unbuilt = ⊥
FindsLog image (BadLog i) = HasBadLog image i
