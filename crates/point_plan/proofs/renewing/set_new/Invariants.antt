use Rattle.std.proofs.Common.{◌≡◌, ℕ, drop}
use Rattle.inode_file.specs.Inodes.{IsTable, inode_of}
use Rattle.point_plan.specs.Nodes.{inode_or, planned_of}
use Rattle.point_plan.proofs.renewing.set_new.Given as goal

abbrev pub invariant-loop-node : goal.invariant-loop-node
invariant-loop-node l = record {
  set : (n : ℕ) → inode_or (planned_of (drop l.node-index l.nodes) n) (inode_of l.inodes.inodes n) ≡ inode_or (planned_of l.nodes n) (inode_of l.fn.inodes.inodes n);
  whole : IsTable l.inodes;
  rest : l.inodes ≡ record l.fn.inodes { inodes = l.inodes.inodes };
}
