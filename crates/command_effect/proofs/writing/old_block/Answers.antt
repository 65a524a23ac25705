use Rattle.std.proofs.Common.{◌∙◌, ap}
use Rattle.command_effect.proofs.SoundLaws.{none_like}
use Rattle.command_effect.proofs.writing.old_block.Goals as goal
use Rattle.command_effect.proofs.writing.old_block.Goals.{then-not-is_covered+in_ok-read_place, else-not-is_covered}

pub returns-clause-read : goal.returns-clause-read
returns-clause-read g c partly tells r m holds = elim c.if-not-is_covered.branch [
  | then-not-is_covered+in_ok-read_place w ↦ ap (λ b. b.bytes) w.block-is ∙ w.in_ok-read_place.ensures.read tells r m holds
  | else-not-is_covered w ↦ cc
]

pub returns-in_err-read_place-clause-sound : goal.returns-in_err-read_place-clause-sound
returns-in_err-read_place-clause-sound g c tells r m holds layout =
    none_like c.from_residual.result c.in_err-read_place.field-0.0 c.from_residual.ensures.1 (c.in_err-read_place.ensures.sound tells r m holds layout)
