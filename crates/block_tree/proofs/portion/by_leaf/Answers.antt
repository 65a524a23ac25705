use Rattle.std.proofs.Common.{◌/◌, ◌∙◌, List, ap, rules}
use Rattle.std.proofs.lemmas.Fn.{always_returns_same}
use Rattle.std.proofs.lemmas.List.Sorted.{IsNonDecreasingBy-from_sort_by_key}
use Rattle.vol_numbers.specs.declared.runs.Change.{Change}
use Rattle.block_tree.specs.Edit.{portion}
use Rattle.block_tree.proofs.PortionLaws.{portion_sorted}
use Rattle.block_tree.proofs.portion.by_leaf.Goals as goal

pub returns-clause-order : goal.returns-clause-order
returns-clause-order c = IsNonDecreasingBy-from_sort_by_key (λ (x : Change). x.place / 1024) _ c.in_ok-sort_by_key.ensures.sorted (λ a r q k. search rules)

pub returns-clause-portions : goal.returns-clause-portions
returns-clause-portions c k =
    let stable = c.in_ok-sort_by_key.ensures.stable (λ (x : Change). x.place / 1024) (always_returns_same _ _ _ (λ a r q w. search rules)) in
    portion_sorted k _ c.sort_by_key.new.self.items stable ∙ ap (λ (cs : List Change). portion k cs) (c.in_ok-sorted.ensures.items ∙ c.as_slice.ensures)
