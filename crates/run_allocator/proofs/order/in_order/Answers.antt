use Rattle.std.proofs.Common.{rules, List, subst}
use Rattle.std.specs.List.Sorted.{IsPermutation}
use Rattle.std.proofs.lemmas.List.Sorted.{answers_always}
use Rattle.vol_numbers.specs.declared.runs.Run.{Run}
use Rattle.run_allocator.specs.Order.{goes_before}
use Rattle.run_allocator.proofs.OrderLaws.{before_chain, before_one_way}
use Rattle.run_allocator.proofs.order.in_order.Goals as goal

pub returns : goal.returns
returns c = record {
  same = subst (λ (xs : List Run). IsPermutation xs c.sort_unstable_by.new.self.items) c.in_ok-order.ensures c.sort_unstable_by.ensures.permutation;
  sorted = c.sort_unstable_by.ensures.sorted goes_before (record { one_way = before_one_way; chain = before_chain }) (answers_always _ _ _ (λ f a r g h. search rules));
}
