use Rattle.std.proofs.Common.{◌<◌, List, sym, ap, subst, ◌∙◌}
use Rattle.std.specs.Option.{option_copied}
use Rattle.vol_numbers.specs.declared.runs.Page.{Page}
use Rattle.dir_slots.specs.Pages.{pages_for}
use Rattle.tree_plan.specs.Pages.{slots_or_none}
use Rattle.tree_plan.specs.Renewed.{slots_with}
use Rattle.tree_plan.proofs.RenewedLaws.{slots_fit, spells_now, width_with_is}
use Rattle.tree_plan.proofs.renewed.renewed_directory.Goals as goal

pub width_now-width-requires : goal.width_now-width-requires
width_now-width-requires c = slots_fit (slots_or_none (option_copied c.args.left)) c.args.store.now.overlay c.args.number c.requires

pub all_pages-requires-clause-fits : goal.all_pages-requires-clause-fits
all_pages-requires-clause-fits c = slots_fit (slots_or_none (option_copied c.args.left)) c.args.store.now.overlay c.args.number c.requires

pub returns-in-Ok : goal.returns-in-Ok
returns-in-Ok c =
    let left = slots_or_none (option_copied c.args.left) in
    let o = c.args.store.now.overlay in
    let n = c.args.number in
    let pages : List Page = c.in_ok-pages.pages in
    let many = c.in_ok-pages.ensures.many ∙ c.pages_for.ensures ∙ ap pages_for c.width_now-width.ensures.is in
    let now = spells_now left o n pages c.requires many (λ place lt. c.in_ok-pages.ensures.each place (subst (λ (k : _). place < k) c.in_ok-pages.ensures.many lt)) in
    c.one_directory.ensures pages c.in-Ok.slots (slots_with left o n) c.in-Ok.ensures.spelled now (c.in-Ok.ensures.width ∙ c.width_now-width.ensures.is ∙ sym (width_with_is left o n))
