use Rattle.std.proofs.Common.{◌≡◌, ◌+◌, ◌∙◌, ℕ, List, subst, arith, drop, get_or}
use Rattle.vol_numbers.specs.Geometry.{layout_of}
use Rattle.image_model.specs.Walk.{places_met}
use Rattle.image_model.specs.Met.{Met}
use Rattle.image_walk.specs.Kept.{lasts_of}
use Rattle.image_walk.specs.Trees.{owner_met, place_met, Stretch}
use Rattle.image_walk.proofs.TreeLaws.{passes_err, stretch_start, stretch_ends, owner_next}
use Rattle.image_walk.proofs.NodeLaws.{places_next}
use Rattle.image_walk.proofs.OrderLaws.{keeps_none, keeps_then}
use Rattle.image_walk.proofs.trees.meet_places.Goals as goal

pub loop-i-init : goal.loop-i-init
loop-i-init c =
    let o = c.args.owner.now in
    let whole : List Met = places_met (owner_met o) o.blocks c.args.place c.args.ptrs.now in
    let e : c.args.place ≡ c.args.place + 0 = omega arith in
    record {
      stretch = subst (λ (n : ℕ). Stretch (layout_of c.args.g.now) c.args.reached.now c.args.reached.now whole (places_met (owner_met o) o.blocks n c.args.ptrs.now) (lasts_of o.blocks whole) (lasts_of o.blocks (places_met (owner_met o) o.blocks n c.args.ptrs.now))) e
          (stretch_start (layout_of c.args.g.now) c.args.reached.now whole (lasts_of o.blocks whole));
      keeps = keeps_none _ _ _;
      long = c.requires.marks;
    }

pub returns-in_err-meet_place-clause-walked : goal.returns-in_err-meet_place-clause-walked
returns-in_err-meet_place-clause-walked c =
    let o = c.args.owner.now in
    let ptrs : List ℕ = c.args.ptrs.now in
    let i : ℕ = c.loop-i.i in
    passes_err (layout_of c.args.g.now) c.args.reached.now c.meet_place.new.reached (places_met (owner_met o) o.blocks c.args.place ptrs) _ c.from_residual.result c.in_err-meet_place.field-0.0 c.from_residual.ensures.1
    (stretch_ends (layout_of c.args.g.now) c.args.reached.now c.loop-i.reached _ _ (place_met o (c.args.place + i) (get_or ptrs i 0)) (places_met (owner_met o) o.blocks (c.args.place + (i + 1)) (drop (i + 1) ptrs)) _ _ c.in_err-meet_place.field-0.0
    c.loop-i.invariant.stretch (places_next o c.args.place i ptrs (omega arith)) c.in_err-meet_place.ensures.walked)

pub loop-i-preserved : goal.loop-i-preserved
loop-i-preserved c =
    let o = c.args.owner.now in
    let ptrs : List ℕ = c.args.ptrs.now in
    let i : ℕ = c.loop-i.i in
    record {
      stretch = owner_next (layout_of c.args.g.now) c.args.reached.now c.loop-i.reached c.meet_place.new.reached o.blocks _ _ (place_met o (c.args.place + i) (get_or ptrs i 0)) (places_met (owner_met o) o.blocks (c.args.place + (i + 1)) (drop (i + 1) ptrs))
          c.loop-i.invariant.stretch (places_next o c.args.place i ptrs (omega arith)) c.in_ok-meet_place.ensures.walked;
      keeps = keeps_then _ _ _ _ _ c.loop-i.invariant.keeps c.in_ok-meet_place.ensures.keeps;
      long = c.in_ok-meet_place.ensures.walked.marks.long ∙ c.loop-i.invariant.long;
    }
