use Rattle.std.proofs.Common.{◌+◌, ◌*◌, ◌∙◌, ℕ, List, arith, drop, get_or, below_more}
use Rattle.std.specs.Prelude.{nat_lt}
use Rattle.vol_numbers.specs.Geometry.{layout_of}
use Rattle.image_model.specs.Met.{index}
use Rattle.image_model.specs.Walk.{met_at, tops_met}
use Rattle.image_walk.proofs.GoingLaws.{walks_err, part_ends, part_next}
use Rattle.image_walk.proofs.NodeLaws.{tops_next}
use Rattle.image_walk.proofs.ReadsLaws.{tops_counted}
use Rattle.image_walk.proofs.trees.meet_tops.Goals as goal

pub returns-in_err-meet_index-clause-walked : goal.returns-in_err-meet_index-clause-walked
returns-in_err-meet_index-clause-walked c =
    let tops : List ℕ = c.args.tops.now in
    let k : ℕ = c.loop-k.k in
    walks_err (layout_of c.args.g.now) c.args.marks.now c.meet_index.new.marks (tops_met c.args.blocks 0 tops) c.from_residual.result c.in_err-meet_index.field-0.0 c.from_residual.ensures.1
    (part_ends (layout_of c.args.g.now) c.args.marks.now c.loop-k.marks _ _ (met_at index (nat_lt (1024 * k) c.args.blocks) (get_or tops k 0)) (tops_met c.args.blocks (1024 * (k + 1)) (drop (k + 1) tops)) c.in_err-meet_index.field-0.0
    c.loop-k.invariant.part (tops_next c.args.blocks k tops (omega arith)) c.in_err-meet_index.ensures.walked)

pub loop-k-preserved : goal.loop-k-preserved
loop-k-preserved c =
    let tops : List ℕ = c.args.tops.now in
    let k : ℕ = c.loop-k.k in
    record {
      part = part_next (layout_of c.args.g.now) c.args.marks.now c.loop-k.marks c.meet_index.new.marks _ _ (met_at index (nat_lt (1024 * k) c.args.blocks) (get_or tops k 0)) (tops_met c.args.blocks (1024 * (k + 1)) (drop (k + 1) tops))
          c.loop-k.invariant.part (tops_next c.args.blocks k tops (omega arith)) c.in_ok-meet_index.ensures.walked;
      long = c.in_ok-meet_index.ensures.walked.long ∙ c.loop-k.invariant.long;
      counted = tops_counted c.args.blocks k tops (omega arith) c.loop-k.invariant.counted c.in_ok-meet_index.ensures.counted;
      within = below_more _ _ c.loop-k.invariant.within c.in_ok-meet_index.ensures.within;
    }
