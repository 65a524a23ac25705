use Rattle.std.proofs.Common.{◌≡◌, ◌/◌, map, take}
use Rattle.dirty_store.proofs.numbers.pages_of.Given as goal

abbrev pub invariant-loop-slot : goal.invariant-loop-slot
invariant-loop-slot g l = l.pages.items ≡ map (λ k. k / 16) (map (λ e. e.0.1) (take l.slot-index l.slots))
