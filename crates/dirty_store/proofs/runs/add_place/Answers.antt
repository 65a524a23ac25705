use Rattle.std.proofs.Common.{◌≡◌, ◌++◌, ◌∷◌, [], List, sym, ap, ◌∙◌, subst, true, false}
use Rattle.vol_numbers.specs.declared.runs.Run.{Run}
use Rattle.dirty_store.specs.Inside.{AreRunsSoFar, ends_at}
use Rattle.dirty_store.proofs.RunLaws.{longer_are, more_are}
use Rattle.dirty_store.proofs.runs.add_place.Goals as goal

pub returns-then-ends_at : goal.returns-then-ends_at
returns-then-ends_at c places so_far =
    let runs = c.args.runs.now.items in
    let ends : ends_at runs c.args.place ≡ true = ap (λ (rs : List Run). ends_at rs c.args.place) (sym c.deref.ensures.value) ∙ sym c.ends_at.ensures ∙ c.if-ends_at.true in
    subst (AreRunsSoFar (places ++ c.args.place ∷ [])) (sym c.lengthen_last.ensures) (longer_are runs places c.args.place ends c.requires.place so_far)

pub returns : goal.returns
returns c places so_far =
    let runs = c.args.runs.now.items in
    let ends : ends_at runs c.args.place ≡ false = ap (λ (rs : List Run). ends_at rs c.args.place) (sym c.deref.ensures.value) ∙ sym c.ends_at.ensures ∙ c.if-ends_at.false in
    subst (AreRunsSoFar (places ++ c.args.place ∷ [])) (sym c.in_ok-push.ensures.items) (more_are runs places c.args.place ends c.requires.place so_far)
