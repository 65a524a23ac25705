use Rattle.std.proofs.Common.{◌/◌, ◌∙◌, rules}
use Rattle.std.specs.Prelude.{nat_le, nat_lt}
use Rattle.std.proofs.lemmas.List.{take_rest}
use Rattle.std.proofs.lemmas.List.Sorted.{IsPartitionPoint-from_clause, IsPartitionedBy-ltb, IsNonDecreasingBy-drop}
use Rattle.vol_numbers.specs.declared.runs.Change.{Change}
use Rattle.block_tree.proofs.PortionLaws.{parted, from_test}
use Rattle.block_tree.proofs.portion.leaves_from.Goals as goal

pub returns-clause-from : goal.returns-clause-from
returns-clause-from c =
    let k = c.args.k in
    let xs = c.args.changes.now in
    let i = c.partition_point-start.result in
    let point = IsPartitionPoint-from_clause (λ (x : Change). nat_lt (x.place / 1024) k) xs i c.partition_point-start.ensures.partitioned (IsPartitionedBy-ltb (λ (x : Change). x.place / 1024) xs k c.requires) (λ a r q w. search rules) in
    take_rest xs i ∙ (parted (λ (x : Change). nat_lt (x.place / 1024) k) (λ (x : Change). nat_le k (x.place / 1024)) (λ x. from_test (x.place / 1024) k) xs i c.partition_point-start.ensures.bound point).1

pub returns-clause-order : goal.returns-clause-order
returns-clause-order c = rw (take_rest c.args.changes.now c.partition_point-start.result) (IsNonDecreasingBy-drop (λ (x : Change). x.place / 1024) c.partition_point-start.result c.args.changes.now c.requires)
