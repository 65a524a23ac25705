-- Why an image stands for nothing: the first phase that finds something, in this order.
use Rattle.std.specs.Prelude.{◌≡◌, ◌⊎◌, ◌<◌, ℕ, List, [], ◌∷◌, ◌++◌, length}
use Rattle.vol_numbers.specs.declared.block.Block.{Block}
use Rattle.root_switch.specs.Current.{HasRoot, FitsImage}
use Rattle.tree_model.specs.declared.command.Command.{Command}
use Rattle.op_log.specs.Log.{blocks_of}
use Rattle.log_volume.specs.declared.finding.Finding.{Finding}
use Rattle.log_volume.specs.declared.finding.Finding.TheVariants.{NoRoot, BadGeometry, Unbuilt, BadLog}
use Rattle.log_volume.specs.Image.{IsBuilt, LogHolds, records_in, used_in}
use Rattle.log_volume.specs.Replay.{nothing_kept, after, IsDone, DoesEach}

-- behind the records of these commands there is none more, or the tree refuses its command
abbrev pub IsNoNext : List Block → List Command → Type 0
IsNoNext image commands = (command : Command) → LogHolds image (commands ++ command ∷ []) → ¬ IsDone (after commands nothing_kept) command

-- The commands of the first i records are done in turn, and the next record is bad; or these are all, and the root says that they take more blocks.
pub record HasBadLog (image : List Block) (i : ℕ) : Type 0 where
  pub commands : List Command
  pub count : length commands ≡ i
  pub logged : LogHolds image commands
  pub done : DoesEach nothing_kept commands
  pub bad : ((i < records_in image) × IsNoNext image commands) ⊎ ((i ≡ records_in image) × (blocks_of commands < used_in image))

abbrev pub Finds : List Block → Finding → Type 0
Finds image NoRoot = ¬ HasRoot image
Finds image BadGeometry = HasRoot image × (¬ FitsImage image)
Finds image Unbuilt = HasRoot image × FitsImage image × (¬ IsBuilt image)
Finds image (BadLog i) = HasRoot image × FitsImage image × IsBuilt image × HasBadLog image i
