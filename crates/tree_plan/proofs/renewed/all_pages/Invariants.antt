use Rattle.std.proofs.Common.{◌≡◌, ◌<◌, ℕ, length}
use Rattle.std.specs.Option.{option_copied}
use Rattle.dir_slots.specs.Pages.{bytes_at}
use Rattle.tree_plan.specs.Pages.{slots_or_none, SpellsPage}
use Rattle.tree_plan.proofs.renewed.all_pages.Given as goal

abbrev pub invariant-loop-place : goal.invariant-loop-place
invariant-loop-place l = record {
  many : length l.pages.items ≡ l.place;
  each : (place : ℕ) → place < l.place → SpellsPage (slots_or_none (option_copied l.fn.left)) l.store.overlay l.number place (bytes_at l.pages.items place);
}
