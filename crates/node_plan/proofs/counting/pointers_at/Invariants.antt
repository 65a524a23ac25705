use Rattle.std.proofs.Common.{◌≡◌, false, take}
use Rattle.block_tree.specs.Notes.{page_blocks}
use Rattle.place_words.specs.Different.{is_among}
use Rattle.node_plan.proofs.counting.pointers_at.Given as goal

abbrev pub invariant-loop-page : goal.invariant-loop-page
invariant-loop-page l = is_among (page_blocks (take l.page-index l.pages)) l.at ≡ false
