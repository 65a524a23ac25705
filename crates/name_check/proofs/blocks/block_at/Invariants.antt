use Rattle.std.proofs.Common.{◌≡◌, drop}
use Rattle.block_tree.specs.Tree.{Blocks}
use Rattle.image_model.specs.Slots.{held_at}
use Rattle.image_walk.specs.Blocks.{blocks_held}
use Rattle.name_check.proofs.RunLaws.{own}
use Rattle.name_check.proofs.blocks.block_at.Given as goal

abbrev pub invariant-loop-there : goal.invariant-loop-there
invariant-loop-there l = (read : Blocks) → held_at (blocks_held read (drop l.there-index (own l.number l.blocks))) l.number l.place ≡ held_at (blocks_held read l.blocks) l.number l.place
