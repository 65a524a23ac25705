use Rattle.std.proofs.Common.{◌≡◌, ◌<◌, ◌+◌, ◌-◌, refl, ap, ◌∙◌, arith, length, vec_len, get_or}
use Rattle.std.specs.Prelude.{Some, slice_set}
use Rattle.vol_numbers.specs.declared.runs.Run.{Run}
use Rattle.dirty_store.proofs.LastLaws.{last, last_read, with_last_is}
use Rattle.dirty_store.proofs.RunLaws.{last_within, lengthened_last}
use Rattle.dirty_store.proofs.runs.lengthen_last.Goals as goal

pub overflow_add-last : goal.overflow_add-last
overflow_add-last c =
    let runs = c.args.runs.now in
    let len : vec_len runs ≡ length runs.items = omega arith in
    let some : 0 < vec_len runs = c.in-Some.ensures.variant.0 refl in
    let is : last runs.items ≡ Some c.in-Some.last.now =
    last_read runs.items c.in-Some.last.now (omega arith) (c.in-Some.ensures.value ∙ ap (λ n. get_or runs.items (n - 1) c.in-Some.last.now) len) in
    omega (arith, last_within runs.items c.in-Some.last.now c.requires is)

pub returns-in-Some : goal.returns-in-Some
returns-in-Some c =
    let runs = c.args.runs.now in
    let r = c.in-Some.last.now in
    let longer : Run = record { first = r.first; length = r.length + 1 } in
    let len : vec_len runs ≡ length runs.items = omega arith in
    let some : 0 < vec_len runs = c.in-Some.ensures.variant.0 refl in
    let is : last runs.items ≡ Some r = last_read runs.items r (omega arith) (c.in-Some.ensures.value ∙ ap (λ n. get_or runs.items (n - 1) r) len) in
    ap (λ n. slice_set runs.items (n - 1) longer) len ∙ with_last_is longer runs.items ∙ lengthened_last runs.items r is
