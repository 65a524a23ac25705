use Rattle.std.proofs.Common.{sym, rules, arith}
use Rattle.std.proofs.lemmas.List.Sorted.{IsPartitionPoint-from_clause}
use Rattle.std.specs.Ordering.{is_gt}
use Rattle.volume_model.specs.Places.{spot_cmp}
use Rattle.dirty_store.proofs.Search.{are_parted, count_is}
use Rattle.dirty_store.proofs.entries.count_before.Goals as goal

pub returns : goal.returns
returns g c =
    let parted = are_parted c.args.spot c.args.entries.now c.requires in
    let point = IsPartitionPoint-from_clause (λ e. is_gt (spot_cmp c.args.spot e.0)) _ _ c.partition_point.ensures.partitioned parted (λ a r q k. search rules) in
    sym (count_is c.args.spot c.args.entries.now c.partition_point.result c.partition_point.ensures.bound (λ k d lt. point.0 k d (omega arith) lt) (λ k d le lt. point.1 k d le lt))
