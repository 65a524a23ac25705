use Rattle.dirty_store.proofs.StagedLaws.{touched_is, cut_is, other_is}
use Rattle.dirty_store.proofs.laws.staged_blocks_are.Goals as goal

pub returns : goal.returns
returns c = record { touched = touched_is; cut = cut_is; others = other_is }
