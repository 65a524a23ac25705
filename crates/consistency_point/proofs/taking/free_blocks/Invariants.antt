use Rattle.std.proofs.Common.{◌≡◌, ◌≤◌, ◌+◌, ◌-◌}
use Rattle.vol_numbers.specs.Geometry.{layout_of}
use Rattle.image_model.specs.Findings.{free_in, zeros_from}
use Rattle.consistency_point.proofs.taking.free_blocks.Given as goal

abbrev pub invariant-loop-block : goal.invariant-loop-block
invariant-loop-block l = record {
  few : l.free ≤ l.block;
  rest : l.free + zeros_from l.counts.counts l.block ((layout_of l.g).blocks - l.block) ≡ free_in (layout_of l.g) l.counts.counts;
}
