use Rattle.std.proofs.Common.{◌≡◌, take}
use Rattle.tree_model.specs.Shape.{IsTree}
use Rattle.log_volume.specs.Replay.{nothing_kept, after, DoesEach}
use Rattle.log_volume.proofs.replaying.replay.Given as goal

abbrev pub invariant-loop-i : goal.invariant-loop-i
invariant-loop-i l = record {
  done : DoesEach nothing_kept (take l.i l.commands);
  tree : l.tree ≡ (after (take l.i l.commands) nothing_kept).tree;
  sound : IsTree l.tree;
}
