use Rattle.std.proofs.Common.{◌∙◌, ◌≢◌, List, subst, sym, arith}
use Rattle.std.specs.Prelude.{None}
use Rattle.std.proofs.lemmas.List.{take_more_set}
use Rattle.vol_numbers.specs.declared.runs.Run.{Run}
use Rattle.run_allocator.specs.Taken.{first_fit}
use Rattle.run_allocator.proofs.OrderLaws.{are_in_order, order_size, whole_within, whole_some, split_of, next_fits, kept_apart, split_steps}
use Rattle.run_allocator.proofs.pieces.take_many.Goals as goal

pub whole_runs-whole-requires-clause-enough : goal.whole_runs-whole-requires-clause-enough
whole_runs-whole-requires-clause-enough c =
    let o = are_in_order c.args.runs.now.items c.in_ok-order.order.items c.requires.apart c.in_ok-order.ensures in
    rw c.deref.ensures.value (omega (arith, order_size c.args.runs.now.items c.in_ok-order.order.items o))

pub index-requires : goal.index-requires
index-requires c =
    omega (arith, whole_within c.deref.result.now c.args.n c.whole_runs-whole.result.runs c.whole_runs-whole.result.left c.whole_runs-whole.ensures)

pub take_last-requires-clause-apart : goal.take_last-requires-clause-apart
take_last-requires-clause-apart c = rw c.drop_before.ensures (kept_apart 1 c.index.result.now c.args.runs.now.items c.requires.apart)

pub take_last-requires-clause-fits : goal.take_last-requires-clause-fits
take_last-requires-clause-fits c =
    let runs = c.args.runs.now.items in
    let order = c.in_ok-order.order.items in
    let whole = c.whole_runs-whole.result in
    let q = c.index.result.now in
    let split = split_of runs order c.deref.result.now c.args.n whole.runs whole.left q c.requires.apart c.in_ok-order.ensures c.deref.ensures.value c.whole_runs-whole.ensures c.index.ensures in
    subst (λ (xs : List Run). first_fit whole.left xs ≢ None) (sym c.drop_before.ensures) (next_fits runs order c.args.n whole.runs whole.left q split)

pub take_last-requires-clause-n : goal.take_last-requires-clause-n
take_last-requires-clause-n c =
    whole_some c.deref.result.now c.args.n c.whole_runs-whole.result.runs c.whole_runs-whole.result.left c.requires.n c.whole_runs-whole.ensures

pub index_mut-requires : goal.index_mut-requires
index_mut-requires c =
    omega (arith, whole_within c.deref.result.now c.args.n c.whole_runs-whole.result.runs c.whole_runs-whole.result.left c.whole_runs-whole.ensures)

pub overflow_add-whole : goal.overflow_add-whole
overflow_add-whole c =
    omega (arith, whole_within c.deref.result.now c.args.n c.whole_runs-whole.result.runs c.whole_runs-whole.result.left c.whole_runs-whole.ensures)

pub returns-clause-taken : goal.returns-clause-taken
returns-clause-taken c =
    let runs = c.args.runs.now.items in
    let order = c.in_ok-order.order.items in
    let whole = c.whole_runs-whole.result in
    let q = c.index.result.now in
    let split = split_of runs order c.deref.result.now c.args.n whole.runs whole.left q c.requires.apart c.in_ok-order.ensures c.deref.ensures.value c.whole_runs-whole.ensures c.index.ensures in
    let within = whole_within order c.args.n whole.runs whole.left split.whole in
    let pieces = c.truncate.ensures.items ∙ take_more_set order whole.runs c.take_last.result within in
    rw pieces (split_steps runs order c.args.n whole.runs whole.left q c.take_last.result c.drop_before.new.runs.items c.take_last.new.runs.items split c.drop_before.ensures c.take_last.ensures.step c.take_last.ensures.all)
