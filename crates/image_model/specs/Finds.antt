-- What is found in an image: the first finding of the first phase that has one.
use Rattle.std.specs.Prelude.{◌≡◌, ◌<◌, ◌⊎◌, ℕ, List, length, Option, Some, None}
use Rattle.vol_numbers.specs.Layout.{log_start}
use Rattle.vol_numbers.specs.declared.block.Block.{Block}
use Rattle.tree_model.specs.declared.command.Command.{Command}
use Rattle.op_log.specs.Log.{HoldsRecords, blocks_of}
use Rattle.volume_model.specs.Accepted.{Accepts}
use Rattle.volume_model.specs.Machine.{Stored}
use Rattle.volume_model.specs.Space.{free_blocks}
use Rattle.image_model.specs.Findings.{◌then◌, body_finding}
use Rattle.image_model.specs.Next.{and_command}
use Rattle.image_model.specs.Roots.{root_finding}
use Rattle.image_model.specs.Seen.{seen}
use Rattle.image_model.specs.Stands.{Shows, layout_in, records_in, used_in}
use Rattle.image_model.specs.declared.finding.Finding.{Finding}
use Rattle.image_model.specs.declared.finding.Finding.TheVariants.{BadLog}

-- what is found before the log is looked at
abbrev pub early_finding : List Block → Option Finding
early_finding image = root_finding image then body_finding (layout_in image) (seen image)

-- The image shows this tree and these places, and its log begins with these records, which are accepted.
pub record HasAccepted (image : List Block) (s : Stored) : Type 0 where
  pub shows : Shows (seen image) s
  pub logged : HoldsRecords image (log_start (layout_in image)) (used_in image) s.records
  pub accepted : Accepts (free_blocks (layout_in image) s.tree s.places) s.tree 0 s.records

-- The first i records of the log are accepted. There is a next one, and it isn't; or these are all, and they take fewer blocks than the root says.
pub record IsBadLog (image : List Block) (i : ℕ) : Type 0 where
  pub before : Stored
  pub count : length before.records ≡ i
  pub good : HasAccepted image before
  pub bad : ((i < records_in image) × ((command : Command) → ¬ HasAccepted image (and_command before command))) ⊎ ((i ≡ records_in image) × (blocks_of before.records < used_in image))

-- a finding of the log
abbrev pub FindsInLog : List Block → Finding → Type 0
FindsInLog image (BadLog i) = IsBadLog image i
FindsInLog image other = ⊥

-- the finding of an image: an early one, or one of the log
abbrev pub Finds : List Block → Finding → Type 0
Finds image finding = (early_finding image ≡ Some finding) ⊎ ((early_finding image ≡ None) × FindsInLog image finding)
