use Rattle.std.proofs.Common.{rules, ◌≡◌, ℕ, List, drop, length, sym, ap, ◌∙◌, arith}
use Rattle.std.specs.Prelude.{◌==◌}
use Rattle.std.specs.List.{list_all}
use Rattle.std.proofs.lemmas.List.{take_all}
use Rattle.name_check.proofs.tail_check.is_zero_from.Goals as goal

pub returns : goal.returns
returns c =
    let fits = c.well_formed in
    let bytes = c.args.block.now.bytes in
    let whole : length bytes ≡ 4096 = search rules in
    c.are_zeros.ensures ∙ ap (λ (bs : List ℕ). list_all (λ b. b == 0) (drop c.args.from bs)) (sym (take_all 4096 bytes (omega (arith, whole))))
