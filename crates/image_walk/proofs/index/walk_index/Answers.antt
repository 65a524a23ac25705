use Rattle.std.proofs.Common.{◌∷◌, [], ℕ, List, refl, sym, subst}
use Rattle.vol_numbers.specs.Geometry.{layout_of}
use Rattle.image_model.specs.Met.{index}
use Rattle.image_model.specs.Walk.{entries_met}
use Rattle.image_walk.specs.Going.{Goes, EndsBy}
use Rattle.image_walk.proofs.GoingLaws.{walks_device, walks_err, ends_then, goes_then, cause_passed}
use Rattle.image_walk.proofs.index.walk_index.Goals as goal

pub returns-in_err-meet_metadata-clause-cause : goal.returns-in_err-meet_metadata-clause-cause
returns-in_err-meet_metadata-clause-cause g c = cause_passed _ _ _ _ refl c.from_residual.ensures.1 c.in_err-meet_metadata.ensures.cause

pub returns-in_err-entries-clause-walked : goal.returns-in_err-entries-clause-walked
returns-in_err-entries-clause-walked g c tells = walks_device _ _ _ _ _ c.from_residual-in_err-entries.ensures.1

pub returns-in_err-meet_entries-clause-walked : goal.returns-in_err-meet_entries-clause-walked
returns-in_err-meet_entries-clause-walked g c tells =
    let lay = layout_of c.args.g.now in
    let es : List ℕ = c.in_ok-entries.entries in
    walks_err lay c.args.marks.now c.meet_entries.new.marks _ c.from_residual-in_err-meet_entries.result c.in_err-meet_entries.field-0.0 c.from_residual-in_err-meet_entries.ensures.1
    (subst (λ (xs : List ℕ). EndsBy lay c.args.marks.now (index c.args.at ∷ entries_met xs) c.in_err-meet_entries.field-0.0) (sym (c.in_ok-entries.ensures.pointers tells))
    (ends_then lay c.args.marks.now c.meet_metadata.new.self (index c.args.at ∷ []) (entries_met es) c.in_err-meet_entries.field-0.0 c.in_ok-meet_metadata.ensures.of_index c.in_err-meet_entries.ensures.walked))

pub returns-in_err-meet_entries-clause-cause : goal.returns-in_err-meet_entries-clause-cause
returns-in_err-meet_entries-clause-cause g c = cause_passed _ _ _ _ c.in_ok-entries.ensures.cause c.from_residual-in_err-meet_entries.ensures.1 c.in_err-meet_entries.ensures.cause

pub returns-clause-walked : goal.returns-clause-walked
returns-clause-walked g c tells =
    let lay = layout_of c.args.g.now in
    let es : List ℕ = c.in_ok-entries.entries in
    subst (λ (xs : List ℕ). Goes lay c.args.marks.now c.meet_entries.new.marks (index c.args.at ∷ entries_met xs)) (sym (c.in_ok-entries.ensures.pointers tells))
    (goes_then lay c.args.marks.now c.meet_metadata.new.self c.meet_entries.new.marks (index c.args.at ∷ []) (entries_met es) c.in_ok-meet_metadata.ensures.of_index c.in_ok-meet_entries.ensures.walked)
