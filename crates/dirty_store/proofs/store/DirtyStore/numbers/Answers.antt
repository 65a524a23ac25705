use Rattle.std.proofs.Common.{◌≡◌, ℕ, List, ◌++◌, sym, ap, subst, ◌∙◌, map, append_assoc}
use Rattle.dirty_store.specs.Numbers.{AreOnce, numbers_in, staged_numbers}
use Rattle.dirty_store.proofs.NumberLaws.{numbers-each}
use Rattle.dirty_store.proofs.store.DirtyStore.numbers.Goals as goal

pub returns : goal.returns
returns c =
    let blocks = c.self.inside.blocks.items in
    let slots = c.self.inside.slots.items in
    let nodes : List ℕ = map (λ e. e.0) c.self.inside.nodes.entries in
    let first : c.push_numbers.new.numbers.items ≡ numbers_in blocks = c.in_ok-push_numbers.ensures ∙ (λ i. c.new-numbers.ensures.items i ++ numbers_in (c.deref.ensures.value i)) in
    let second : c.push_nodes.new.numbers.items ≡ numbers_in blocks ++ nodes = c.in_ok-push_nodes.ensures ∙ ap (λ (l : List ℕ). l ++ nodes) first in
    let third : c.push_numbers-2.new.numbers.items ≡ numbers_in blocks ++ (nodes ++ numbers_in slots) =
    c.in_ok-push_numbers-2.ensures ∙ (λ i. second i ++ numbers_in (c.deref-2.ensures.value i)) ∙ append_assoc (numbers_in blocks) nodes (numbers_in slots) in
    let unboxed : numbers_in blocks ++ (nodes ++ numbers_in slots) ≡ staged_numbers c.args.self.now.overlay =
    (λ i. sym (numbers-each (λ b. b.value) blocks) i ++ (nodes ++ sym (numbers-each (λ b. b.value) slots) i)) ∙ ap (λ h. staged_numbers h.overlay) c.self.view_is in
    subst (AreOnce (staged_numbers c.args.self.now.overlay)) (sym c.from_vec.ensures) (subst (λ (l : List ℕ). AreOnce l c.sort_once.new.numbers.items) (third ∙ unboxed) c.sort_once.ensures)
