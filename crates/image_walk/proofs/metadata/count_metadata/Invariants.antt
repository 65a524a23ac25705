use Rattle.std.proofs.Common.{◌≡◌, ◌≤◌, ◌+◌, ◌-◌}
use Rattle.vol_numbers.specs.Geometry.{layout_of}
use Rattle.vol_numbers.specs.Layout.{area_start}
use Rattle.image_walk.proofs.MetadataLaws.{marked_from}
use Rattle.image_walk.proofs.metadata.count_metadata.Given as goal

abbrev pub invariant-loop-block : goal.invariant-loop-block
invariant-loop-block l = record {
  few : l.count ≤ l.block;
  rest : l.count + marked_from l.marks l.block ((layout_of l.g).blocks - l.block) ≡ marked_from l.marks (area_start (layout_of l.g)) ((layout_of l.g).blocks - area_start (layout_of l.g));
}
