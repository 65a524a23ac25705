use Rattle.std.proofs.Common.{◌≡◌, ◌≤◌, ◌+◌, ◌++◌, ◌∷◌, ℕ, List, [], length, take, get_or, sym, ap, subst, ◌∙◌, arith}
use Rattle.std.proofs.lemmas.List.{take_more}
use Rattle.vol_numbers.specs.declared.runs.Change.{Change}
use Rattle.run_allocator.specs.Runs.{Ascends}
use Rattle.tree_model.specs.declared.report.Line.{Line}
use Rattle.dirty_store.specs.Laws.{dirty_spots}
use Rattle.fresh_runs.specs.Fresh.{run_lengths}
use Rattle.fresh_runs.specs.Inside.{ArePlaced}
use Rattle.fresh_runs.proofs.Adding.{take_end}
use Rattle.fresh_runs.proofs.Numbering.{no_numbers, one_number, room_for}
use Rattle.fresh_runs.proofs.Spots.{spots_all}
use Rattle.fresh_runs.proofs.place.place_all.Goals as goal

pub place_number-requires-clause-ascends : goal.place_number-requires-clause-ascends
place_number-requires-clause-ascends c =
    let o = c.args.store.now.overlay in
    let all = spots_all o.blocks c.args.numbers.now c.requires.in_order.blocks.in_order c.requires.numbers in
    let room = room_for (dirty_spots o) c.args.free.now c.args.numbers.now c.loop-number.number-index all c.requires.numbers.rise c.requires.ascends c.requires.enough c.loop-number-test.true in
    subst (Ascends 1) (sym c.loop-number.invariant.left) room.ascends

pub place_number-requires-clause-enough : goal.place_number-requires-clause-enough
place_number-requires-clause-enough c =
    let o = c.args.store.now.overlay in
    let all = spots_all o.blocks c.args.numbers.now c.requires.in_order.blocks.in_order c.requires.numbers in
    let room = room_for (dirty_spots o) c.args.free.now c.args.numbers.now c.loop-number.number-index all c.requires.numbers.rise c.requires.ascends c.requires.enough c.loop-number-test.true in
    omega (arith, room.enough, ap (λ (xs : List ℕ). length xs) c.loop-number.invariant.left)

pub loop-number-init : goal.loop-number-init
loop-number-init c =
    let ss = dirty_spots c.args.store.now.overlay in
    let free = c.args.free.now in
    subst (λ (ls : List Line). ArePlaced ss free [] ls free c.new-changes.result.items) (sym c.requires.none)
    (subst (λ (cs : List (List Change)). ArePlaced ss free [] [] free cs) (sym c.new-changes.ensures.items) (no_numbers ss free))

pub loop-number-preserved : goal.loop-number-preserved
loop-number-preserved c =
    let o = c.args.store.now.overlay in
    let ss = dirty_spots o in
    let free = c.args.free.now in
    let numbers = c.args.numbers.now in
    let i = c.loop-number.number-index in
    let is = c.place_number.new.lines.items in
    let rest = c.place_number.new.free in
    let all = spots_all o.blocks numbers c.requires.in_order.blocks.in_order c.requires.numbers in
    let room = room_for ss free numbers i all c.requires.numbers.rise c.requires.ascends c.requires.enough c.loop-number-test.true in
    let step = one_number ss free (take i numbers) (get_or numbers i 0) c.loop-number.free rest c.loop-number.lines.items is c.loop-number.changes.items c.in_ok-place_number.field-0
    c.requires.ascends room.before room.under c.loop-number.invariant c.in_ok-place_number.ensures.adds c.in_ok-place_number.ensures.left in
    subst (λ (cs : List (List Change)). ArePlaced ss free (take (i + 1) numbers) is rest cs) (sym c.in_ok-push.ensures.items)
    (subst (λ (ns : List ℕ). ArePlaced ss free ns is rest (c.loop-number.changes.items ++ c.in_ok-place_number.field-0 ∷ [])) (sym (take_more numbers i 0 c.loop-number-test.true)) step)

pub returns : goal.returns
returns c =
    subst (λ (ns : List ℕ). ArePlaced (dirty_spots c.args.store.now.overlay) c.args.free.now ns c.loop-number.lines.items c.loop-number.free c.loop-number.changes.items)
    (take_end c.args.numbers.now c.loop-number.number-index c.loop-number-test.false) c.loop-number.invariant
