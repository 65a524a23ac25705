use Rattle.std.proofs.Common.{◌+◌, ◌∙◌, ℕ, List, ap, arith, get_or, drop, below_more}
use Rattle.std.proofs.lemmas.List.{drop_more}
use Rattle.vol_numbers.specs.Geometry.{layout_of}
use Rattle.image_model.specs.Met.{index}
use Rattle.image_model.specs.Walk.{met_at, entries_met}
use Rattle.std.specs.Prelude.{true}
use Rattle.image_walk.proofs.GoingLaws.{walks_err, part_ends, part_next}
use Rattle.image_walk.proofs.index.meet_entries.Goals as goal

pub returns-in_err-meet_index-clause-walked : goal.returns-in_err-meet_index-clause-walked
returns-in_err-meet_index-clause-walked c =
    let g = layout_of c.args.g.now in
    let es : List ℕ = c.args.entries.now in
    let i : ℕ = c.loop-entry.entry-index in
    walks_err g c.args.marks.now c.meet_index.new.marks (entries_met es) c.from_residual.result c.in_err-meet_index.field-0.0 c.from_residual.ensures.1
    (part_ends g c.args.marks.now c.loop-entry.marks (entries_met es) (entries_met (drop i es)) (met_at index true (get_or es i 0)) (entries_met (drop (i + 1) es)) c.in_err-meet_index.field-0.0
    c.loop-entry.invariant.part (ap entries_met (drop_more es i 0 (omega arith))) c.in_err-meet_index.ensures.walked)

pub loop-entry-preserved : goal.loop-entry-preserved
loop-entry-preserved c =
    let g = layout_of c.args.g.now in
    let es : List ℕ = c.args.entries.now in
    let i : ℕ = c.loop-entry.entry-index in
    record {
      part = part_next g c.args.marks.now c.loop-entry.marks c.meet_index.new.marks (entries_met es) (entries_met (drop i es)) (met_at index true (get_or es i 0)) (entries_met (drop (i + 1) es))
          c.loop-entry.invariant.part (ap entries_met (drop_more es i 0 (omega arith))) c.in_ok-meet_index.ensures.walked;
      long = c.in_ok-meet_index.ensures.walked.long ∙ c.loop-entry.invariant.long;
      within = below_more _ _ c.loop-entry.invariant.within c.in_ok-meet_index.ensures.within;
    }
