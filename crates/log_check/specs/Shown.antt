-- What an image shows in which nothing is found before the log, and a table that holds it.
use Rattle.std.specs.Prelude.{◌≡◌, List, None}
use Rattle.vol_numbers.specs.declared.block.Block.{Block}
use Rattle.tree_model.specs.Tree.{Tree}
use Rattle.volume_model.specs.Machine.{Stored}
use Rattle.image_model.specs.Exact.{IsShownEarly}
use Rattle.image_model.specs.Finds.{early_finding}
use Rattle.image_model.specs.Findings.{free_in}
use Rattle.image_model.specs.Holds.{HoldsTree}
use Rattle.image_model.specs.Seen.{seen}
use Rattle.image_model.specs.Stands.{layout_in}
use Rattle.node_table.specs.Held.{Nodes, HoldsNodes}
use Rattle.log_check.specs.Accepting.{IsShown}

-- Such an image shows something: it is shown to a table that holds each tree that the image holds node by node, with the free blocks that are counted.
abbrev pub EarlyImagesAreShown : Type 0
EarlyImagesAreShown = (image : List Block) (nodes : Nodes) → early_finding image ≡ None → ((tree : Tree) → HoldsTree (seen image) tree → HoldsNodes nodes tree)
    → (s : Stored) × IsShownEarly image s × IsShown image nodes (free_in (layout_in image) (seen image).kept) s
