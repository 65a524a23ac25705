use Rattle.std.proofs.Common.{◌≡◌, ◌+◌, ◌*◌, length, drop}
use Rattle.vol_numbers.specs.Geometry.{layout_of}
use Rattle.vol_numbers.specs.Layout.{count_blocks}
use Rattle.image_model.specs.Walk.{places_met}
use Rattle.image_walk.specs.Kept.{lasts_of}
use Rattle.image_walk.specs.Order.{KeepsOf}
use Rattle.image_walk.specs.Trees.{owner_met, Stretch}
use Rattle.image_walk.proofs.trees.meet_places.Given as goal

abbrev pub invariant-loop-i : goal.invariant-loop-i
invariant-loop-i l = record {
  stretch : Stretch (layout_of l.g) l.fn.reached l.reached
      (places_met (owner_met l.owner) l.owner.blocks l.place l.ptrs) (places_met (owner_met l.owner) l.owner.blocks (l.place + l.i) (drop l.i l.ptrs))
      (lasts_of l.owner.blocks (places_met (owner_met l.owner) l.owner.blocks l.place l.ptrs)) (lasts_of l.owner.blocks (places_met (owner_met l.owner) l.owner.blocks (l.place + l.i) (drop l.i l.ptrs)));
  keeps : KeepsOf (layout_of l.g).blocks l.owner.number l.fn.reached l.reached;
  long : length l.reached.marks ≡ 1024 * count_blocks (layout_of l.g);
}
