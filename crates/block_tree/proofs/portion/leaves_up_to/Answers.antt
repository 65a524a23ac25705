use Rattle.std.proofs.Common.{◌/◌, rules, refl}
use Rattle.std.specs.Prelude.{nat_le, not}
use Rattle.std.proofs.lemmas.List.Sorted.{IsPartitionPoint-from_clause, IsPartitionedBy-leb}
use Rattle.vol_numbers.specs.declared.runs.Change.{Change}
use Rattle.block_tree.proofs.PortionLaws.{parted}
use Rattle.block_tree.proofs.portion.leaves_up_to.Goals as goal

pub returns : goal.returns
returns c =
    let k = c.args.k in
    let xs = c.args.changes.now in
    let i = c.partition_point-end.result in
    let point = IsPartitionPoint-from_clause (λ (x : Change). nat_le (x.place / 1024) k) xs i c.partition_point-end.ensures.partitioned (IsPartitionedBy-leb (λ (x : Change). x.place / 1024) xs k c.requires) (λ a r q w. search rules) in
    (parted (λ (x : Change). nat_le (x.place / 1024) k) (λ (x : Change). not (nat_le (x.place / 1024) k)) (λ x. refl) xs i c.partition_point-end.ensures.bound point).0
