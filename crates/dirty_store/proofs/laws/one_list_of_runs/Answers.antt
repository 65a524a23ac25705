use Rattle.std.proofs.Common.{sym, ◌∙◌}
use Rattle.dirty_store.proofs.OneRuns.{one_list}
use Rattle.dirty_store.proofs.laws.one_list_of_runs.Goals as goal

pub returns : goal.returns
returns c places ps qs first second = one_list ps qs first.longest second.longest (first.places_are ∙ sym second.places_are)
