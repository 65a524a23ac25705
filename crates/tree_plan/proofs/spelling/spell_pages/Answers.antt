use Rattle.std.proofs.Common.{◌+◌, ◌++◌, ◌∷◌, [], ℕ, List, length, take, get_or, refl, sym, ap, subst, ◌∙◌, append_assoc, arith}
use Rattle.std.proofs.lemmas.List.{take_more, map-append}
use Rattle.std.specs.Option.{option_copied}
use Rattle.vol_numbers.specs.declared.runs.Change.{Change}
use Rattle.vol_numbers.specs.declared.runs.Page.{Page}
use Rattle.block_tree.specs.Notes.{page_blocks}
use Rattle.tree_plan.specs.Pages.{slots_or_none, SpellsPage, AreSpelled}
use Rattle.tree_plan.proofs.SpelledLaws.{spelled_push}
use Rattle.tree_plan.proofs.spelling.spell_pages.Goals as goal

pub loop-place-preserved : goal.loop-place-preserved
loop-place-preserved c =
    let places = c.args.places.now in
    let i = c.loop-place.place-index in
    let x = get_or places i 0 in
    let at = c.take_one-at.result in
    let Spells = SpellsPage (slots_or_none (option_copied c.args.left)) c.args.store.now.overlay c.args.number in
    let page : Page = record { at = at; block = c.spelled_page-block.result } in
    let change : Change = record { place = x; block = at } in
    let more : AreSpelled Spells (take i places ++ x ∷ []) (c.loop-place.pages.items ++ page ∷ []) (c.loop-place.changes.items ++ change ∷ []) =
    spelled_push Spells (take i places) c.loop-place.pages.items c.loop-place.changes.items x page change c.loop-place.invariant.0 refl refl c.take_one-at.ensures.positive c.spelled_page-block.ensures in
    let all = subst (λ (ps : List ℕ). AreSpelled Spells ps (c.loop-place.pages.items ++ page ∷ []) (c.loop-place.changes.items ++ change ∷ [])) (sym (take_more places i 0 c.loop-place-test.true)) more in
    let pages = subst (λ (qs : List Page). AreSpelled Spells (take (i + 1) places) qs (c.loop-place.changes.items ++ change ∷ [])) (sym c.in_ok-push.ensures.items) all in (
      subst (λ (cs : List Change). AreSpelled Spells (take (i + 1) places) c.push.new.self.items cs) (sym c.in_ok-push-2.ensures.items) pages,
      (ap (λ (qs : List Page). page_blocks qs ++ c.take_one-at.new.self) c.in_ok-push.ensures.items
          ∙ ap (λ (bs : List ℕ). bs ++ c.take_one-at.new.self) (map-append (λ (p : Page). p.at) c.loop-place.pages.items (page ∷ []))
          ∙ append_assoc (page_blocks c.loop-place.pages.items) (at ∷ []) c.take_one-at.new.self
          ∙ ap (λ (bs : List ℕ). page_blocks c.loop-place.pages.items ++ bs) (sym c.take_one-at.ensures.lowest) ∙ c.loop-place.invariant.1),
      omega (arith, c.loop-place.invariant.2, ap (λ (bs : List ℕ). length bs) c.take_one-at.ensures.lowest),
    )
