-- What holds of what an image stands for.
use Rattle.std.specs.Prelude.{◌≡◌, ◌≤◌, ℕ, List, All, Some}
use Rattle.std.specs.FinMap.{find}
use Rattle.vol_numbers.specs.Layout.{IsValid}
use Rattle.vol_numbers.specs.declared.block.Block.{Block}
use Rattle.op_log.specs.Record.{HasRecord}
use Rattle.volume_model.specs.Done.{mounted}
use Rattle.volume_model.specs.LogUse.{log_use}
use Rattle.volume_model.specs.Machine.{Rules, Stored, stored, block_at}
use Rattle.volume_model.specs.Places.{Spot, spot_cmp}
use Rattle.block_tree.specs.Tree.{blocks_in}
use Rattle.image_model.specs.Standing.{as_block}
use Rattle.image_model.specs.Stands.{Stands}
use Rattle.state_laws.specs.States.{IsMountable, IsReached}

-- What an image stands for can be mounted.
abbrev pub StandingIsMountable : Type 0
StandingIsMountable = (image : List Block) (s : Stored) → Stands image s → IsMountable s

-- The state that is mounted from an image is reached, and stores what the image stands for.
pub record MountingIsReached : Type 0 where
  pub reached : (r : Rules) (image : List Block) (s : Stored) → Stands image s → IsReached r (mounted s)
  pub stands : (image : List Block) (s : Stored) → Stands image s → Stands image (stored (mounted s))

-- Each place that has a block reads as the first 4,096 bytes of it.
abbrev pub PlacesReadBlocks : Type 0
PlacesReadBlocks = (image : List Block) (s : Stored) → Stands image s → (spot : Spot) (block : ℕ) → find spot_cmp spot s.places ≡ Some block → block_at s.tree spot ≡ as_block (blocks_in image block)

-- What an image stands for has a valid layout, and records of commands that have one, which fit into the log.
pub record StandingFits : Type 0 where
  pub valid : (image : List Block) (s : Stored) → Stands image s → IsValid s.layout
  pub recorded : (image : List Block) (s : Stored) → Stands image s → All HasRecord s.records
  pub fits : (image : List Block) (s : Stored) → Stands image s → log_use s.records ≤ s.layout.log_blocks
