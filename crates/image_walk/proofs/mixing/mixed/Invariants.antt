use Rattle.std.proofs.Common.{◌≡◌, ◌-◌, List}
use Rattle.vol_numbers.specs.Geometry.{layout_of}
use Rattle.image_model.specs.Met.{Met}
use Rattle.image_model.specs.Findings.{mixed_finding}
use Rattle.image_walk.specs.Marks.{Says}
use Rattle.image_walk.proofs.mixing.mixed.Given as goal

abbrev pub invariant-loop-block : goal.invariant-loop-block
invariant-loop-block l = record {
  rest : (ms : List Met) → Says l.marks ms → mixed_finding ms l.block ((layout_of l.g).blocks - l.block) ≡ mixed_finding ms 0 (layout_of l.g).blocks;
}
