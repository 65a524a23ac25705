use Rattle.std.proofs.Common.{◌<◌, ◌≤◌, ◌*◌, ℕ, List, length, ap, subst, ◌∙◌, arith}
use Rattle.std.specs.Option.{option_copied}
use Rattle.std.proofs.lemmas.List.Elements.{All-same}
use Rattle.block_format.specs.Inode.{blocks_of}
use Rattle.dir_slots.specs.Pages.{pages_for}
use Rattle.tree_plan.specs.Pages.{slots_or_none, width_with, written_pages, SpellsPage, AreSpelled}
use Rattle.tree_plan.proofs.DirectoryLaws.{all_under, changes_under, written_rises, written_under}
use Rattle.tree_plan.proofs.PlannedLaws.{apart_under, spelled_apart, spelled_left}
use Rattle.tree_plan.proofs.SpelledLaws.{spelled_blocks}
use Rattle.tree_plan.proofs.directory.spell_written.Goals as goal

pub spell_pages-requires-clause-places : goal.spell_pages-requires-clause-places
spell_pages-requires-clause-places c =
    let left = slots_or_none (option_copied c.args.left) in
    let o = c.args.store.now.overlay in
    let few : pages_for (width_with left o c.args.number) ≤ 4096 = omega (arith, c.requires.wide) in
    All-same (λ (p : ℕ). p < 4096) c.deref.result.now (written_pages left o c.args.number) (c.deref.ensures.value ∙ c.in_ok-places.ensures)
    (all_under 4096 (written_pages left o c.args.number) (written_under left o c.args.number 4096 few))

pub spell_pages-requires-clause-free : goal.spell_pages-requires-clause-free
spell_pages-requires-clause-free c = omega (arith, c.requires.free, ap (λ (ps : List ℕ). length ps) (c.deref.ensures.value ∙ c.in_ok-places.ensures))

pub returns-clause-spelled : goal.returns-clause-spelled
returns-clause-spelled c =
    let left = slots_or_none (option_copied c.args.left) in
    let o = c.args.store.now.overlay in
    let s = c.in_ok-spelled.spelled in
    subst (λ (ps : List ℕ). AreSpelled (SpellsPage left o c.args.number) ps s.pages.items s.changes) (c.deref.ensures.value ∙ c.in_ok-places.ensures) c.in_ok-spelled.ensures.spelled

pub returns-clause-left : goal.returns-clause-left
returns-clause-left c =
    let left = slots_or_none (option_copied c.args.left) in
    let o = c.args.store.now.overlay in
    let s = c.in_ok-spelled.spelled in
    let spelled = subst (λ (ps : List ℕ). AreSpelled (SpellsPage left o c.args.number) ps s.pages.items s.changes) (c.deref.ensures.value ∙ c.in_ok-places.ensures) c.in_ok-spelled.ensures.spelled in
    spelled_left (SpellsPage left o c.args.number) (written_pages left o c.args.number) s.pages.items s.changes spelled _ _ c.in_ok-spelled.ensures.taken

pub returns-clause-apart : goal.returns-clause-apart
returns-clause-apart c =
    let left = slots_or_none (option_copied c.args.left) in
    let o = c.args.store.now.overlay in
    let s = c.in_ok-spelled.spelled in
    let spelled = subst (λ (ps : List ℕ). AreSpelled (SpellsPage left o c.args.number) ps s.pages.items s.changes) (c.deref.ensures.value ∙ c.in_ok-places.ensures) c.in_ok-spelled.ensures.spelled in
    let few : pages_for (width_with left o c.args.number) ≤ 4096 = omega (arith, c.requires.wide) in
    spelled_apart (SpellsPage left o c.args.number) (written_pages left o c.args.number) s.pages.items s.changes spelled 4096 (written_rises left o c.args.number) (written_under left o c.args.number 4096 few)

pub returns-clause-within : goal.returns-clause-within
returns-clause-within c =
    let left = slots_or_none (option_copied c.args.left) in
    let o = c.args.store.now.overlay in
    let n = c.args.number in
    let s = c.in_ok-spelled.spelled in
    let spelled = subst (λ (ps : List ℕ). AreSpelled (SpellsPage left o n) ps s.pages.items s.changes) (c.deref.ensures.value ∙ c.in_ok-places.ensures) c.in_ok-spelled.ensures.spelled in
    let limit = blocks_of (256 * width_with left o n) in
    let all : pages_for (width_with left o n) ≤ limit = omega arith in
    changes_under limit s.changes (apart_under limit s.changes
    (spelled_apart (SpellsPage left o n) (written_pages left o n) s.pages.items s.changes spelled limit (written_rises left o n) (written_under left o n limit all)))

pub returns-clause-leads : goal.returns-clause-leads
returns-clause-leads c =
    let left = slots_or_none (option_copied c.args.left) in
    let o = c.args.store.now.overlay in
    let s = c.in_ok-spelled.spelled in
    let spelled = subst (λ (ps : List ℕ). AreSpelled (SpellsPage left o c.args.number) ps s.pages.items s.changes) (c.deref.ensures.value ∙ c.in_ok-places.ensures) c.in_ok-spelled.ensures.spelled in
    spelled_blocks (SpellsPage left o c.args.number) (written_pages left o c.args.number) s.pages.items s.changes spelled
