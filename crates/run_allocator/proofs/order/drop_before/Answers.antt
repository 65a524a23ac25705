use Rattle.std.proofs.Common.{rules}
use Rattle.std.specs.Prelude.{not}
use Rattle.std.proofs.lemmas.Fn.{filter_same}
use Rattle.run_allocator.specs.Order.{goes_before}
use Rattle.run_allocator.proofs.order.drop_before.Goals as goal

pub returns : goal.returns
returns c = filter_same _ (λ r. not (goes_before r c.args.next)) _ (λ x b f' k. search rules) _ _ c.retain.ensures.filtered
