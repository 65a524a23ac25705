use Rattle.std.proofs.Common.{◌≡◌, ℕ, ◌≤◌, take}
use Rattle.std.specs.FinSet as set
use Rattle.image_model.specs.Slots.{inode_of}
use Rattle.image_model.specs.Walk.{is_used}
use Rattle.name_check.proofs.lost.used_numbers.Given as goal

abbrev pub invariant-loop-node : goal.invariant-loop-node
invariant-loop-node l = (n : ℕ) → n ≤ 65535 → set.contains l.used n ≡ is_used (inode_of (take l.node-index l.nodes) n)
