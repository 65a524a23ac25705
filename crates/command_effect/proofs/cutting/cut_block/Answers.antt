use Rattle.std.proofs.Common.{◌-◌, ◌%◌, ◌++◌, ◌∙◌, ℕ, List, ap, replicate, take}
use Rattle.command_effect.proofs.SoundLaws.{none_like}
use Rattle.command_effect.proofs.cutting.cut_block.Goals as goal

pub returns-clause-is : goal.returns-clause-is
returns-clause-is g c = record {
  whole = c.block_is_whole.ensures;
  cut = λ tells r m holds. c.zero_from.ensures ∙ ap (λ (xs : List ℕ). take (c.args.size % 4096) xs ++ replicate (4096 - c.args.size % 4096) 0) (c.in_ok-read_place.ensures.read tells r m holds);
}

pub returns-in_err-read_place-clause-sound : goal.returns-in_err-read_place-clause-sound
returns-in_err-read_place-clause-sound g c tells r m holds layout =
    none_like c.from_residual.result c.in_err-read_place.field-0.0 c.from_residual.ensures.1 (c.in_err-read_place.ensures.sound tells r m holds layout)
