use Rattle.std.proofs.Common.{◌≡◌, true, false, rules, arith}
use Rattle.std.specs.Prelude.{nat_lt}
use Rattle.std.proofs.lemmas.Bool.Decides.{nat_tests}
use Rattle.std.proofs.lemmas.List.Sorted.{IsPartitionPoint-from_clause, IsPartitionedBy-ltb, IsNonDecreasingBy-from_default}
use Rattle.image_walk.specs.declared.node_block.NodeBlock.{NodeBlock}
use Rattle.image_walk.specs.Blocks.{number_at}
use Rattle.name_check.proofs.blocks.below.Goals as goal

pub returns-clause-before : goal.returns-clause-before
returns-clause-before c k lt =
    let blocks = c.args.blocks.now in
    let point = IsPartitionPoint-from_clause (λ (b : NodeBlock). nat_lt b.number c.args.number) blocks c.partition_point.result c.partition_point.ensures.partitioned
    (IsPartitionedBy-ltb (λ (b : NodeBlock). b.number) blocks c.args.number (IsNonDecreasingBy-from_default (λ (b : NodeBlock). b.number) blocks _ c.requires)) (λ a r q w. search rules) in
    let less : nat_lt (number_at blocks k) c.args.number ≡ true = point.0 k _ (omega (arith, lt, c.partition_point.ensures.bound)) lt in
    grind (arith, nat_tests)

pub returns-clause-behind : goal.returns-clause-behind
returns-clause-behind c k le lt =
    let blocks = c.args.blocks.now in
    let point = IsPartitionPoint-from_clause (λ (b : NodeBlock). nat_lt b.number c.args.number) blocks c.partition_point.result c.partition_point.ensures.partitioned
    (IsPartitionedBy-ltb (λ (b : NodeBlock). b.number) blocks c.args.number (IsNonDecreasingBy-from_default (λ (b : NodeBlock). b.number) blocks _ c.requires)) (λ a r q w. search rules) in
    let more : nat_lt (number_at blocks k) c.args.number ≡ false = point.1 k _ le lt in
    grind (arith, nat_tests)
