use Rattle.std.proofs.Common.{◌≡◌, ◌<◌, ◌-◌, ◌+◌, refl, sym, ap, ◌∙◌, arith, length, vec_len, get_or, true}
use Rattle.std.specs.Prelude.{Some, slice_set}
use Rattle.tree_model.specs.declared.report.Line.{Line}
use Rattle.volume_model.specs.Laws.{continues}
use Rattle.dirty_store.proofs.LastLaws.{last, last_read, with_last_is}
use Rattle.fresh_runs.proofs.Growing.{last_some, lengthened_last, ends_there}
use Rattle.fresh_runs.proofs.grow.lengthen_last.Goals as goal

pub overflow_add-last : goal.overflow_add-last
overflow_add-last c =
    let lines = c.args.lines.now in
    let l = c.in-Some.last.now in
    let len : vec_len lines ≡ length lines.items = omega arith in
    let some : 0 < vec_len lines = c.in-Some.ensures.variant.0 refl in
    let is : last lines.items ≡ Some l = last_read lines.items l (omega arith) (c.in-Some.ensures.value ∙ ap (λ n. get_or lines.items (n - 1) l) len) in
    let on : continues l c.args.line ≡ true = sym (last_some lines.items l c.args.line is) ∙ c.requires.on in
    omega (arith, (ends_there l c.args.line on).1, c.requires.within)

pub returns-in-Some : goal.returns-in-Some
returns-in-Some c =
    let lines = c.args.lines.now in
    let l = c.in-Some.last.now in
    let more = c.args.line.length in
    let longer : Line = record l { length = l.length + more } in
    let len : vec_len lines ≡ length lines.items = omega arith in
    let some : 0 < vec_len lines = c.in-Some.ensures.variant.0 refl in
    let is : last lines.items ≡ Some l = last_read lines.items l (omega arith) (c.in-Some.ensures.value ∙ ap (λ n. get_or lines.items (n - 1) l) len) in
    ap (λ n. slice_set lines.items (n - 1) longer) len ∙ with_last_is longer lines.items ∙ lengthened_last more lines.items l is
