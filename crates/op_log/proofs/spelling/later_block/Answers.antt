use Rattle.std.proofs.Common.{◌≡◌, ◌∙◌, ◌-◌, ◌*◌, List, ℕ, length, take, drop, ap}
use Rattle.std.proofs.lemmas.List.{take_min, take_rest, drop_min}
use Rattle.op_log.specs.Record.{filled}
use Rattle.op_log.proofs.spelling.later_block.Goals as goal

pub returns : goal.returns
returns c =
    let payload : List ℕ = c.args.payload.now in
    let from : ℕ = c.min-from.result in
    let part : List ℕ = take (length payload - from) (drop from payload) in
    let part_is : part ≡ drop (4096 * c.args.i - c.args.head_len) payload =
    take_rest payload from ∙ ap (λ (n : ℕ). drop n payload) c.min-from.ensures ∙ drop_min (4096 * c.args.i - c.args.head_len) payload in
    c.block_of.ensures ∙ ap filled (ap (λ (n : ℕ). take n part) c.min.ensures ∙ take_min 4096 part ∙ ap (take 4096) part_is)
