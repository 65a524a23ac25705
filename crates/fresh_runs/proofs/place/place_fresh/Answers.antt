use Rattle.std.proofs.Common.{◌≡◌, ◌≤◌, ◌+◌, ℕ, List, length, sym, ap, subst, ◌∙◌, arith}
use Rattle.place_words.specs.Different.{times}
use Rattle.tree_model.specs.declared.report.Line.{Line}
use Rattle.volume_model.specs.Lines.{fresh_lines, lines_places}
use Rattle.volume_model.specs.Places.{spots_of}
use Rattle.dirty_store.specs.Laws.{dirty_spots}
use Rattle.fresh_runs.specs.Fresh.{blocks_in}
use Rattle.fresh_runs.specs.Inside.{ArePlaced}
use Rattle.fresh_runs.proofs.Finished.{AllArePlaced, all_placed}
use Rattle.fresh_runs.proofs.place.place_fresh.Goals as goal

all : (c : goal.After-from_vec) → AllArePlaced (dirty_spots c.args.store.now.overlay) c.args.free.now c.args.numbers.now c.place_all.new.lines.items c.place_all.new.free
all c =
    let o = c.args.store.now.overlay in
    let free = c.args.free.now in
    let numbers = c.args.numbers.now in
    let lines = c.place_all.new.lines.items in
    let rest = c.place_all.new.free in
    let each = c.in_ok-changes.changes.items in
    let enough : length (dirty_spots o) ≤ length free = omega (arith, c.free-count.ensures.count, c.dirty_count-blocks.ensures.count, c.if-count-blocks.false) in
    let placed : ArePlaced (dirty_spots o) free numbers lines rest each = subst (λ (f : List ℕ). ArePlaced (dirty_spots o) f numbers lines rest each) c.in_ok-left.ensures c.in_ok-changes.ensures in
    all_placed o.blocks free numbers lines rest each c.dirty_count-blocks.ensures.in_order.blocks.in_order c.requires c.free-count.ensures.ascends enough placed

pub returns-clause-places : goal.returns-clause-places
returns-clause-places c = ap (λ (ls : List Line). spots_of (lines_places ls)) c.from_vec.ensures ∙ (all c).places

pub returns-clause-longest : goal.returns-clause-longest
returns-clause-longest c = c.from_vec.ensures ∙ (all c).longest ∙ ap (λ (ls : List Line). fresh_lines (lines_places ls)) (sym c.from_vec.ensures)

pub returns-clause-by_rule : goal.returns-clause-by_rule
returns-clause-by_rule c = ap blocks_in c.from_vec.ensures ∙ (all c).by_rule

pub returns-clause-parted : goal.returns-clause-parted
returns-clause-parted c b = ap (λ (ls : List Line). times b (blocks_in ls) + times b c.place_all.new.free) c.from_vec.ensures ∙ (all c).parted b
