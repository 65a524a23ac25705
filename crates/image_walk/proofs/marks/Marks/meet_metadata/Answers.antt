use Rattle.std.proofs.Common.{◌≡◌, ◌∙◌, ap, sym, subst, arith, ◌∷◌, [], false, true, List, length, ◌*◌}
use Rattle.std.specs.Prelude.{slice_set}
use Rattle.vol_numbers.specs.Layout.{count_blocks}
use Rattle.vol_numbers.specs.Geometry.{layout_of}
use Rattle.image_model.specs.Met.{index, page}
use Rattle.image_model.specs.Findings.{is_in_area}
use Rattle.image_walk.specs.declared.marks.Mark.{Mark}
use Rattle.image_walk.specs.Marks.{mark_of, as_metadata}
use Rattle.image_walk.specs.Going.{Goes}
use Rattle.image_walk.proofs.MarkLaws.{low_blocks, mark_read, goes_index, goes_page, found_again}
use Rattle.image_walk.proofs.marks.Marks.meet_metadata.Goals as goal

pub returns-then-mark-clause-of_index : goal.returns-then-mark-clause-of_index
returns-then-mark-clause-of_index c =
    let marks : List Mark = c.self.inside.marks.items in
    let same : marks ≡ c.args.self.now = c.self.view_is in
    let is : mark_of marks c.args.ptr ≡ c.index-mark.result.now = mark_read marks c.args.ptr c.index-mark.result.now (let lt = low_blocks (layout_of c.args.g.now) marks c.args.ptr (sym c.is_in_area.ensures ∙ c.if-not-is_in_area.false) in omega (arith, ap length same, lt)) c.index-mark.ensures in
    found_again (layout_of c.args.g.now) c.args.self.now c.args.ptr (ap (λ (ms : List Mark). (mark_of ms c.args.ptr).is_metadata) (sym same) ∙ (ap (λ (m : Mark). m.is_metadata) is ∙ c.if-mark.true))

pub returns-then-mark-clause-of_page : goal.returns-then-mark-clause-of_page
returns-then-mark-clause-of_page c n place = returns-then-mark-clause-of_index c

pub returns-clause-of_index : goal.returns-clause-of_index
returns-clause-of_index c =
    let g = layout_of c.args.g.now in
    let marks : List Mark = c.self.inside.marks.items in
    let same : marks ≡ c.args.self.now = c.self.view_is in
    let inside : is_in_area g c.args.ptr ≡ true = sym c.is_in_area.ensures ∙ c.if-not-is_in_area.false in
    let long : length marks ≡ 1024 * count_blocks g = ap length same ∙ c.requires in
    let is : mark_of marks c.args.ptr ≡ c.index-mark.result.now = mark_read marks c.args.ptr c.index-mark.result.now (let lt = low_blocks g marks c.args.ptr inside in omega (arith, long, lt)) c.index-mark.ensures in
    let free : (mark_of marks c.args.ptr).is_metadata ≡ false = ap (λ (m : Mark). m.is_metadata) is ∙ c.if-mark.false in
    subst (λ (ms : List Mark). Goes g ms (slice_set marks c.args.ptr c.as_metadata.result) (index c.args.ptr ∷ [])) same
    (subst (λ (m : Mark). Goes g marks (slice_set marks c.args.ptr m) (index c.args.ptr ∷ [])) (ap as_metadata is ∙ sym c.as_metadata.ensures)
    (goes_index g marks c.args.ptr long inside free))

pub returns-clause-of_page : goal.returns-clause-of_page
returns-clause-of_page c n place =
    let g = layout_of c.args.g.now in
    let marks : List Mark = c.self.inside.marks.items in
    let same : marks ≡ c.args.self.now = c.self.view_is in
    let inside : is_in_area g c.args.ptr ≡ true = sym c.is_in_area.ensures ∙ c.if-not-is_in_area.false in
    let long : length marks ≡ 1024 * count_blocks g = ap length same ∙ c.requires in
    let is : mark_of marks c.args.ptr ≡ c.index-mark.result.now = mark_read marks c.args.ptr c.index-mark.result.now (let lt = low_blocks g marks c.args.ptr inside in omega (arith, long, lt)) c.index-mark.ensures in
    let free : (mark_of marks c.args.ptr).is_metadata ≡ false = ap (λ (m : Mark). m.is_metadata) is ∙ c.if-mark.false in
    subst (λ (ms : List Mark). Goes g ms (slice_set marks c.args.ptr c.as_metadata.result) (page n place c.args.ptr ∷ [])) same
    (subst (λ (m : Mark). Goes g marks (slice_set marks c.args.ptr m) (page n place c.args.ptr ∷ [])) (ap as_metadata is ∙ sym c.as_metadata.ensures)
    (goes_page g marks c.args.ptr n place long inside free))
