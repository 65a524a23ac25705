use Rattle.std.proofs.Common.{◌≡◌, ◌≤◌, ℕ, List, [], length, map, sym, ap, subst, ◌∙◌, arith}
use Rattle.std.specs.Prelude.{IfOk, OnOk, sum_by}
use Rattle.std.proofs.lemmas.List.{length-map}
use Rattle.vol_numbers.specs.declared.runs.Run.{Run}
use Rattle.place_words.specs.Rising.{AllUnder}
use Rattle.run_allocator.specs.Taken.{runs_of}
use Rattle.volume_model.specs.Places.{Spot}
use Rattle.dirty_store.specs.Laws.{dirty_spots}
use Rattle.dirty_store.specs.Overlay.{dirty_places}
use Rattle.dirty_store.specs.Runs.{places_in, AreRunsOf}
use Rattle.fresh_runs.specs.Fresh.{left_after, lengths_at, runs_at, spots_at, taken_for}
use Rattle.fresh_runs.specs.Inside.{Adds, AreRuns, spots_in}
use Rattle.fresh_runs.proofs.Placing.{sum_all}
use Rattle.fresh_runs.proofs.RunsOf.{lengths_all, runs_are, runs_within}
use Rattle.fresh_runs.proofs.Spots.{places_are, places_under, runs_spots, spots_again}
use Rattle.fresh_runs.proofs.place.place_number.Goals as goal

pub place_runs-requires-clause-runs : goal.place_runs-requires-clause-runs
place_runs-requires-clause-runs c =
    let blocks = c.args.store.now.overlay.blocks in
    let number = c.args.number in
    let are : AreRunsOf (dirty_places blocks number) c.in_ok-runs.runs = c.in_ok-runs.ensures in
    subst AreRuns (sym c.as_slice.ensures) (runs_within c.in_ok-runs.runs are.longest (subst (AllUnder 1048576) (sym are.places_are) (places_under blocks number c.requires.in_order.blocks.within)))

pub place_runs-requires-clause-enough : goal.place_runs-requires-clause-enough
place_runs-requires-clause-enough c =
    let o = c.args.store.now.overlay in
    let number = c.args.number in
    let items = c.as_slice.result.now in
    let are : AreRunsOf (dirty_places o.blocks number) c.in_ok-runs.runs = c.in_ok-runs.ensures in
    let places : places_in items ≡ map (λ (s : Spot). s.1) (spots_at (dirty_spots o) number) = ap places_in c.as_slice.ensures ∙ are.places_are ∙ places_are o.blocks number in
    let many : sum_by (λ (r : Run). r.length) items ≡ length (spots_at (dirty_spots o) number) =
    sum_all items ∙ lengths_all items ∙ ap (λ (xs : List ℕ). length xs) places ∙ length-map (spots_at (dirty_spots o) number) (λ (s : Spot). s.1) in
    omega (arith, many, c.requires.enough)

pub returns-clause-adds : goal.returns-clause-adds
returns-clause-adds c =
    let o = c.args.store.now.overlay in
    let number = c.args.number in
    let free = c.args.free.now in
    let items = c.as_slice.result.now in
    let was = c.args.lines.now.items in
    let is = c.place_runs.new.lines.items in
    let are : AreRunsOf (dirty_places o.blocks number) c.in_ok-runs.runs = c.in_ok-runs.ensures in
    let places : places_in items ≡ map (λ (s : Spot). s.1) (spots_at (dirty_spots o) number) = ap places_in c.as_slice.ensures ∙ are.places_are ∙ places_are o.blocks number in
    let spots : spots_in number items ≡ spots_at (dirty_spots o) number = runs_spots number items ∙ ap (map (λ p. (number, p))) places ∙ spots_again (dirty_spots o) number in
    let runs : items ≡ runs_at (dirty_spots o) number = c.as_slice.ensures ∙ runs_are (dirty_places o.blocks number) c.in_ok-runs.runs are ∙ ap runs_of (places_are o.blocks number) in
    subst (λ (ss : List Spot). IfOk c.place_runs.result (λ changes. Adds ss (taken_for free (lengths_at (dirty_spots o) number)) was is [] changes)) spots
    (subst (λ (rs : List Run). IfOk c.place_runs.result (λ changes. Adds (spots_in number items) (taken_for free (map (λ (r : Run). r.length) rs)) was is [] changes)) runs c.place_runs.ensures.adds)

pub returns-clause-left : goal.returns-clause-left
returns-clause-left c =
    let o = c.args.store.now.overlay in
    let number = c.args.number in
    let are : AreRunsOf (dirty_places o.blocks number) c.in_ok-runs.runs = c.in_ok-runs.ensures in
    let runs : c.as_slice.result.now ≡ runs_at (dirty_spots o) number = c.as_slice.ensures ∙ runs_are (dirty_places o.blocks number) c.in_ok-runs.runs are ∙ ap runs_of (places_are o.blocks number) in
    subst (λ (rs : List Run). OnOk c.place_runs.result (c.place_runs.new.free ≡ left_after c.args.free.now (map (λ (r : Run). r.length) rs))) runs c.place_runs.ensures.left
