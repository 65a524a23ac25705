use Rattle.std.proofs.Common.{◌≡◌, drop}
use Rattle.place_words.specs.Different.{is_among}
use Rattle.sequence_rule.proofs.matched.has_block.Given as goal

abbrev pub invariant-loop-other : goal.invariant-loop-other
invariant-loop-other l = is_among (drop l.other-index l.blocks) l.block ≡ is_among l.blocks l.block
