use Rattle.std.proofs.Common.{◌≡◌, ◌<◌, ℕ, ◌+◌, ◌++◌, ◌∷◌, [], List, length, sym, ap, subst, ◌∙◌, arith, ⊎_elim}
use Rattle.std.proofs.lemmas.Bool.{cases_eq}
use Rattle.std.proofs.lemmas.List.{length-append}
use Rattle.std.specs.Option.{option_copied}
use Rattle.vol_numbers.specs.declared.runs.Page.{Page}
use Rattle.dir_slots.specs.Pages.{bytes_at}
use Rattle.tree_plan.specs.Pages.{slots_or_none, SpellsPage}
use Rattle.tree_plan.proofs.RenewedLaws.{bytes_before, bytes_push}
use Rattle.tree_plan.proofs.renewed.all_pages.Goals as goal

pub loop-place-preserved : goal.loop-place-preserved
loop-place-preserved c =
    let pages = c.loop-place.pages.items in
    let page : Page = record { at = 0; block = c.spelled_page-block.result } in
    let inv = c.loop-place.invariant in
    let Spells = SpellsPage (slots_or_none (option_copied c.args.left)) c.args.store.now.overlay c.args.number in
    let pushed : c.push.new.self.items ≡ pages ++ page ∷ [] = c.in_ok-push.ensures.items in
    record {
      many = ap (λ (ps : List Page). length ps) pushed ∙ length-append pages (page ∷ []) ∙ ap (λ (k : ℕ). k + 1) inv.many;
      each = λ place lt. ⊎_elim
          (λ here.
          let at : length pages ≡ place = inv.many ∙ sym here in
          subst (Spells place) (sym (ap (λ (ps : List Page). bytes_at ps place) pushed ∙ ap (bytes_at (pages ++ page ∷ [])) (sym at) ∙ bytes_push pages page place))
          (subst (λ (k : ℕ). Spells k page.block.bytes) (sym here) c.spelled_page-block.ensures))
          (λ other.
          let low : place < c.loop-place.place = omega (arith, lt, other) in
          subst (Spells place) (sym (ap (λ (ps : List Page). bytes_at ps place) pushed ∙ bytes_before pages page place (omega (arith, low, inv.many)))) (inv.each place low))
          (cases_eq place c.loop-place.place);
    }
