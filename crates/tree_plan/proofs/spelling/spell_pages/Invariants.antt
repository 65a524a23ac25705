use Rattle.std.proofs.Common.{◌≡◌, ◌≤◌, ◌+◌, ◌++◌, length, take}
use Rattle.std.specs.Option.{option_copied}
use Rattle.block_tree.specs.Notes.{page_blocks}
use Rattle.tree_plan.specs.Pages.{slots_or_none, SpellsPage, AreSpelled}
use Rattle.tree_plan.proofs.spelling.spell_pages.Given as goal

abbrev pub invariant-loop-place : goal.invariant-loop-place
invariant-loop-place l =
    AreSpelled (SpellsPage (slots_or_none (option_copied l.fn.left)) l.store.overlay l.number) (take l.place-index l.places) l.pages.items l.changes.items
    × (page_blocks l.pages.items ++ l.free ≡ l.fn.free)
    × (length l.places ≤ l.place-index + length l.free)
