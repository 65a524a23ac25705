use Rattle.std.proofs.Common.{◌==◌, sym, arith}
use Rattle.std.proofs.lemmas.Grind.{common_steps}
use Rattle.line_text.proofs.PlaceLemmas.{split_found, split_none}
use Rattle.line_text.proofs.cut.cut.Goals as goal

pub returns-in-Some-clause-parts : goal.returns-in-Some-clause-parts
returns-in-Some-clause-parts c =
    let found = split_found (λ b. b == c.args.separator) c.args.text.now c.in-Some.place (sym c.in-Some.ensures.place) in
    grind (arith, common_steps, found)

pub returns-in-None-clause-parts : goal.returns-in-None-clause-parts
returns-in-None-clause-parts c = split_none (λ b. b == c.args.separator) c.args.text.now (sym c.in-None.ensures.place)
