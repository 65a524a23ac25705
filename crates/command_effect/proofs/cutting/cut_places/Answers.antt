use Rattle.block_tree.proofs.DamageLaws.{look_passed}
use Rattle.command_effect.proofs.cutting.cut_places.Goals as goal

pub returns-in_err-block-clause-sound : goal.returns-in_err-block-clause-sound
returns-in_err-block-clause-sound g c tells r m holds layout =
    look_passed c.from_residual.result c.in_err-block.field-0.0 (λ b. ⊥) (λ b. ⊥) c.from_residual.ensures.1 (c.in_err-block.ensures.sound tells r m holds layout) (λ b is. is)
