use Rattle.block_tree.proofs.DamageLaws.{damage_like}
use Rattle.command_effect.proofs.writing.written_places.Goals as goal

pub returns-in_err-push_places-clause-sound : goal.returns-in_err-push_places-clause-sound
returns-in_err-push_places-clause-sound g c tells r m holds layout =
    damage_like c.from_residual.result c.in_err-push_places.field-0.0 (λ b. ⊥) (λ b. ⊥) c.from_residual.ensures.1 (c.in_err-push_places.ensures.sound tells r m holds layout) (λ b is. is)
