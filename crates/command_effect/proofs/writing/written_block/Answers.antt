use Rattle.std.proofs.Common.{◌≡◌, ◌+◌, ◌*◌, ◌∙◌, ap, sym, subst, arith, ℕ, List, length}
use Rattle.std.specs.Prelude.{max, min}
use Rattle.command_effect.proofs.SoundLaws.{none_like}
use Rattle.command_effect.specs.Blocks.{IsLaidOver}
use Rattle.command_effect.proofs.BlockLaws.{is_laid, out_length}
use Rattle.command_effect.proofs.writing.written_block.Goals as goal
use Rattle.volume_model.specs.Machine.{block_at}

pub returns-clause-is : goal.returns-clause-is
returns-clause-is g c =
    let place : ℕ = c.args.place in
    let offset : ℕ = c.args.offset in
    let given : List ℕ = c.args.given.now in
    let from_is : c.max-from.result ≡ max offset (4096 * place) = omega (arith, c.max-from.ensures, c.from-start.ensures) in
    let to_is : c.min-to.result ≡ min (offset + length given) (4096 * place + 4096) = omega (arith, c.min-to.ensures, c.from-start.ensures) in
    let start_is : 4096 * c.from-start.result ≡ 4096 * place = omega (arith, c.from-start.ensures) in
    record {
      whole = ap length c.put.ensures ∙ out_length given offset place _ c.max-from.result c.min-to.result c.requires.begins c.requires.reaches start_is from_is to_is c.in_ok-block.block.bytes c.in_ok-block.ensures.whole;
      laid = λ tells r m holds.
          subst (IsLaidOver (block_at m.tree (c.args.number, place)) offset given place) (sym c.put.ensures)
          (is_laid given offset place _ c.max-from.result c.min-to.result c.requires.begins c.requires.reaches start_is from_is to_is c.in_ok-block.block.bytes c.in_ok-block.ensures.whole (block_at m.tree (c.args.number, place))
          (λ partly. c.in_ok-block.ensures.read partly tells r m holds));
    }

pub returns-in_err-block-clause-sound : goal.returns-in_err-block-clause-sound
returns-in_err-block-clause-sound g c tells r m holds layout =
    none_like c.from_residual.result c.in_err-block.field-0.0 c.from_residual.ensures.1 (c.in_err-block.ensures.sound tells r m holds layout)
