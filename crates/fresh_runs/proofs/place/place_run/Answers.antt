use Rattle.std.proofs.Common.{◌≡◌, ◌+◌, ℕ, List, [], length, take, get_or, refl, sym, ap, subst, ◌∙◌, arith}
use Rattle.std.proofs.lemmas.List.{take_more}
use Rattle.vol_numbers.specs.declared.runs.Run.{Run}
use Rattle.run_allocator.specs.Runs.{numbers_of}
use Rattle.run_allocator.specs.Taken.{taken_runs}
use Rattle.fresh_runs.specs.Inside.{Adds, AreBlockRuns, spots_from}
use Rattle.fresh_runs.proofs.Adding.{ArePieces, all_pieces, one_piece, pieces_within, block_run_at}
use Rattle.fresh_runs.proofs.Parting.{rule_taking}
use Rattle.fresh_runs.proofs.place.place_run.Goals as goal

abbrev none : Run
none = record { first = 0; length = 0 }

pub add_piece-requires-clause-some : goal.add_piece-requires-clause-some
add_piece-requires-clause-some c =
    let items = c.as_slice-blocks-items.result.now in
    let is = c.as_slice-blocks-items.ensures ∙ c.in_ok-taken.ensures.taken in
    let taking = rule_taking c.args.free.now c.args.run.length c.requires.ascends c.requires.enough in
    (block_run_at items c.loop-blocks.blocks-index none c.loop-blocks-test.true (subst AreBlockRuns (sym is) taking.within)).0

pub add_piece-requires-clause-places : goal.add_piece-requires-clause-places
add_piece-requires-clause-places c =
    let items = c.as_slice-blocks-items.result.now in
    let is = c.as_slice-blocks-items.ensures ∙ c.in_ok-taken.ensures.taken in
    let taking = rule_taking c.args.free.now c.args.run.length c.requires.ascends c.requires.enough in
    let many : length (numbers_of items) ≡ c.args.run.length = ap (λ (rs : List Run). length (numbers_of rs)) is ∙ taking.many in
    omega (arith, c.loop-blocks.invariant.next, pieces_within items c.loop-blocks.blocks-index none c.loop-blocks-test.true, many, c.requires.within)

pub overflow_add-place : goal.overflow_add-place
overflow_add-place c =
    let items = c.as_slice-blocks-items.result.now in
    let is = c.as_slice-blocks-items.ensures ∙ c.in_ok-taken.ensures.taken in
    let taking = rule_taking c.args.free.now c.args.run.length c.requires.ascends c.requires.enough in
    let many : length (numbers_of items) ≡ c.args.run.length = ap (λ (rs : List Run). length (numbers_of rs)) is ∙ taking.many in
    omega (arith, c.loop-blocks.invariant.next, pieces_within items c.loop-blocks.blocks-index none c.loop-blocks-test.true, many, c.requires.within)

pub add_piece-requires-clause-blocks : goal.add_piece-requires-clause-blocks
add_piece-requires-clause-blocks c =
    let items = c.as_slice-blocks-items.result.now in
    let is = c.as_slice-blocks-items.ensures ∙ c.in_ok-taken.ensures.taken in
    let taking = rule_taking c.args.free.now c.args.run.length c.requires.ascends c.requires.enough in
    (block_run_at items c.loop-blocks.blocks-index none c.loop-blocks-test.true (subst AreBlockRuns (sym is) taking.within)).1

pub loop-blocks-preserved : goal.loop-blocks-preserved
loop-blocks-preserved c =
    let items = c.as_slice-blocks-items.result.now in
    let i = c.loop-blocks.blocks-index in
    let r = get_or items i none in
    let place = c.loop-blocks.place + r.length in
    let was = c.args.lines.now.items in
    let before = c.args.changes.now.items in
    let is = c.add_piece.new.lines.items in
    let after = c.add_piece.new.changes.items in
    let step = one_piece c.args.number c.args.run.first (take i items) r c.loop-blocks.place place was c.loop-blocks.lines.items is before c.loop-blocks.changes.items after refl c.loop-blocks.invariant c.in_ok-add_piece.ensures in
    subst (λ (rs : List Run). ArePieces c.args.number c.args.run.first rs place was is before after) (sym (take_more items i none c.loop-blocks-test.true)) step

pub returns-clause-adds : goal.returns-clause-adds
returns-clause-adds c =
    let free = c.args.free.now in
    let n = c.args.run.length in
    let items = c.as_slice-blocks-items.result.now in
    let is : items ≡ taken_runs free n = c.as_slice-blocks-items.ensures ∙ c.in_ok-taken.ensures.taken in
    let taking = rule_taking free n c.requires.ascends c.requires.enough in
    all_pieces c.args.number c.args.run.first items (taken_runs free n) c.loop-blocks.blocks-index n c.loop-blocks.place c.args.lines.now.items c.loop-blocks.lines.items c.args.changes.now.items c.loop-blocks.changes.items
    is c.loop-blocks-test.false taking.many c.loop-blocks.invariant
