use Rattle.std.proofs.Common.{◌≡◌, ◌<◌, ◌*◌, ◌-◌, ℕ, List, get_or}
use Rattle.vol_numbers.specs.Geometry.{layout_of}
use Rattle.vol_numbers.specs.Layout.{count_blocks}
use Rattle.image_model.specs.Findings.{count_finding}
use Rattle.image_model.specs.Met.{Met}
use Rattle.image_walk.specs.Marks.{Says, mark_of}
use Rattle.count_check.proofs.comparing.wrong_count.Given as goal

abbrev pub invariant-loop-block : goal.invariant-loop-block
invariant-loop-block l = record {
  rest : (ms : List Met) → Says l.marks ms → count_finding ms l.counts.counts l.block (1024 * count_blocks (layout_of l.g) - l.block) ≡ count_finding ms l.counts.counts 0 (1024 * count_blocks (layout_of l.g));
  fine : (b : ℕ) → b < l.block → get_or l.counts.counts b 0 ≡ (mark_of l.marks b).pointers;
}
