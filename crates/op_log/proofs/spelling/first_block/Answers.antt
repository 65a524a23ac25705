use Rattle.std.proofs.Common.{◌≡◌, ◌∙◌, ◌-◌, ◌++◌, List, ℕ, length, take, sym, ap}
use Rattle.std.proofs.lemmas.List.{take_min}
use Rattle.op_log.specs.Record.{filled}
use Rattle.op_log.proofs.PieceLemmas.{take-append-over}
use Rattle.op_log.proofs.spelling.first_block.Goals as goal

pub returns : goal.returns
returns c =
    let head : List ℕ = c.args.head.now in
    let payload : List ℕ = c.args.payload.now in
    let part : take c.min.result payload ≡ take (4096 - length head) payload = ap (λ (n : ℕ). take n payload) c.min.ensures ∙ take_min (4096 - length head) payload in
    c.block_of.ensures ∙ ap filled (ap (λ (l : List ℕ). head ++ l) part ∙ sym (take-append-over 4096 head payload c.requires))
