use Rattle.std.proofs.Common.{◌≡◌, ◌∙◌, List, ℕ, take, drop, sym, ap}
use Rattle.wire_ends.specs.Memory.{MemInput}
use Rattle.wire_ends.proofs.TakeLemmas.{left_behind}
use Rattle.wire_ends.proofs.mem_source.MemSourceSource.take.Goals as goal

pub returns-clause-taken : goal.returns-clause-taken
returns-clause-taken c =
    let at = c.self.inside.at in
    let count = c.copy_some-count.result in
    let left : c.args.self.now.left ≡ drop at c.self.inside.bytes = ap (λ (m : MemInput). m.left) (sym c.self.view_is) in
    let copied : take count c.copy_some-count.new.into ≡ take count (drop at c.self.inside.bytes) = c.copy_some-count.ensures.copied ∙ ap (λ (l : List ℕ). take count (drop at l)) c.as_slice.ensures in
    record { told = λ told. told; next = λ told. left_behind count at _ _ _ left copied }
