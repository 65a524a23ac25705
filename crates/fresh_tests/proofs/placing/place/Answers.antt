use Rattle.std.proofs.Common.{List, ℕ, sym, subst}
use Rattle.dirty_store.specs.Laws.{dirty_spots}
use Rattle.fresh_runs.specs.Fresh.{AreNumbersOf}
use Rattle.fresh_runs.proofs.StagedNumbers.{staged_have_dirty}
use Rattle.fresh_tests.proofs.placing.place.Goals as goal

pub place_fresh-requires : goal.place_fresh-requires
place_fresh-requires c =
    let o = c.args.store.now.overlay in
    subst (λ (ns : List ℕ). AreNumbersOf (dirty_spots o) ns) (sym c.as_slice.ensures) (staged_have_dirty o c.in_ok-numbers.numbers c.in_ok-numbers.ensures)
