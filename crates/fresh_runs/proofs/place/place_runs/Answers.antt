use Rattle.std.proofs.Common.{◌≡◌, ◌≤◌, ◌+◌, ℕ, List, [], length, map, take, get_or, refl, sym, ap, subst, ◌∙◌, arith}
use Rattle.std.proofs.lemmas.List.{take_more}
use Rattle.vol_numbers.specs.declared.runs.Change.{Change}
use Rattle.vol_numbers.specs.declared.runs.Run.{Run}
use Rattle.run_allocator.specs.Runs.{Ascends}
use Rattle.fresh_runs.specs.Fresh.{left_after, taken_for}
use Rattle.fresh_runs.specs.Inside.{Adds, spots_in}
use Rattle.fresh_runs.proofs.Adding.{take_end}
use Rattle.fresh_runs.proofs.Parting.{in_all, parted_for}
use Rattle.fresh_runs.proofs.Placing.{AreRunsPlaced, all_within, one_run, run_at, sum_all}
use Rattle.fresh_runs.proofs.place.place_runs.Goals as goal

abbrev none : Run
none = record { first = 0; length = 0 }

pub place_run-requires-clause-some : goal.place_run-requires-clause-some
place_run-requires-clause-some c = (run_at c.args.runs.now c.loop-run.run-index none c.loop-run-test.true c.requires.runs).0

pub place_run-requires-clause-within : goal.place_run-requires-clause-within
place_run-requires-clause-within c = (run_at c.args.runs.now c.loop-run.run-index none c.loop-run-test.true c.requires.runs).1

pub place_run-requires-clause-ascends : goal.place_run-requires-clause-ascends
place_run-requires-clause-ascends c =
    let runs = c.args.runs.now in
    let all = all_within runs c.loop-run.run-index none c.loop-run-test.true in
    let parted = parted_for c.args.free.now (map (λ (r : Run). r.length) (take c.loop-run.run-index runs)) c.requires.ascends (omega (arith, all, sum_all runs, c.requires.enough)) in
    subst (Ascends 1) (sym c.loop-run.invariant.left) parted.ascends

pub place_run-requires-clause-enough : goal.place_run-requires-clause-enough
place_run-requires-clause-enough c =
    let runs = c.args.runs.now in
    let all = all_within runs c.loop-run.run-index none c.loop-run-test.true in
    let parted = parted_for c.args.free.now (map (λ (r : Run). r.length) (take c.loop-run.run-index runs)) c.requires.ascends (omega (arith, all, sum_all runs, c.requires.enough)) in
    omega (arith, all, sum_all runs, c.requires.enough, parted.fewer, ap (λ (xs : List ℕ). length xs) c.loop-run.invariant.left)

pub loop-run-preserved : goal.loop-run-preserved
loop-run-preserved c =
    let runs = c.args.runs.now in
    let i = c.loop-run.run-index in
    let all = all_within runs i none c.loop-run-test.true in
    let step = one_run c.args.number c.args.free.now (take i runs) (get_or runs i none) c.loop-run.free c.place_run.new.free c.args.lines.now.items c.loop-run.lines.items c.place_run.new.lines.items c.loop-run.changes.items c.place_run.new.changes.items
    c.requires.ascends (omega (arith, all, sum_all runs, c.requires.enough)) c.loop-run.invariant c.in_ok-place_run.ensures.left c.in_ok-place_run.ensures.adds in
    subst (λ (rs : List Run). AreRunsPlaced c.args.number c.args.free.now rs c.place_run.new.free c.args.lines.now.items c.place_run.new.lines.items c.place_run.new.changes.items)
    (sym (take_more runs i none c.loop-run-test.true)) step

pub returns-clause-adds : goal.returns-clause-adds
returns-clause-adds c =
    let runs = c.args.runs.now in
    let all = subst (λ (rs : List Run). Adds (spots_in c.args.number rs) (taken_for c.args.free.now (map (λ (r : Run). r.length) rs)) c.args.lines.now.items c.loop-run.lines.items [] c.loop-run.changes.items)
    (take_end runs c.loop-run.run-index c.loop-run-test.false) c.loop-run.invariant.adds in
    subst (λ (cs : List Change). Adds (spots_in c.args.number runs) (taken_for c.args.free.now (map (λ (r : Run). r.length) runs)) c.args.lines.now.items c.loop-run.lines.items [] cs) (sym c.from_vec.ensures) all

pub returns-clause-left : goal.returns-clause-left
returns-clause-left c =
    c.loop-run.invariant.left ∙ ap (λ (rs : List Run). left_after c.args.free.now (map (λ (r : Run). r.length) rs)) (take_end c.args.runs.now c.loop-run.run-index c.loop-run-test.false)
