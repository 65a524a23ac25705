use Rattle.dirty_store.proofs.SlotLaws.{changed_is, forgotten_is, other_slot}
use Rattle.dirty_store.proofs.laws.staged_slots_are.Goals as goal

pub returns : goal.returns
returns c = record { changed = changed_is; cut = forgotten_is; others = other_slot }
