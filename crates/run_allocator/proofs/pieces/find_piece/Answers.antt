use Rattle.std.proofs.Common.{◌≡◌, ◌<◌, ◌≤◌, ◌∙◌, ap, sym, length, true, arith}
use Rattle.std.specs.Prelude.{Option, nat_le}
use Rattle.std.proofs.lemmas.Bool.Decides.{nat_tests}
use Rattle.vol_numbers.specs.declared.runs.Run.{Run}
use Rattle.run_allocator.specs.Taken.{step_or, longest}
use Rattle.run_allocator.proofs.StepLaws.{apart_at}
use Rattle.run_allocator.proofs.SearchLaws.{read_there, fit_found}
use Rattle.run_allocator.proofs.pieces.find_piece.Goals as goal

pub returns-then-is_enough-clause-found : goal.returns-then-is_enough-clause-found
returns-then-is_enough-clause-found c =
    let runs = c.args.runs.now.items in
    let r = c.index-run.result.now in
    let i = c.loop-i.i in
    let within : i < length runs = omega (arith, c.loop-i-test.true) in
    let there = read_there runs i r c.index-run.ensures within in
    let is : nat_le c.args.n r.length ≡ true = sym c.is_enough.ensures ∙ c.if-is_enough.true in
    let fits : c.args.n ≤ r.length = grind (arith, nat_tests, is) in
    rw c.lowest.ensures (record {
      part = record { there = there; index = within; positive = omega (arith, c.requires.n); within = fits; end = (apart_at 1 runs i r c.requires.apart there).1 };
      at_most = omega (arith, c.requires.n);
      rule = ap (λ (o : Option Run). step_or c.args.n o (longest runs)) (fit_found c.args.n runs i r c.index-run.ensures within c.loop-i.invariant fits);
    })
