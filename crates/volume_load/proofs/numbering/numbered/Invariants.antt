use Rattle.std.proofs.Common.{◌≡◌, length, take}
use Rattle.volume_load.specs.Known.{HasInodes}
use Rattle.volume_load.proofs.numbering.numbered.Given as goal

abbrev pub invariant-loop-node : goal.invariant-loop-node
invariant-loop-node l = record {
  many : length l.inodes.items ≡ 65536;
  each : HasInodes (take l.node-index l.nodes) l.inodes.items;
}
