use Rattle.std.proofs.Common.{◌≡◌, ◌≢◌, ℕ, true, List, take, Some, None}
use Rattle.block_format.specs.declared.slot.Slot.{Slot}
use Rattle.dir_slots.specs.Slots.{IsDirectory}
use Rattle.held_list.specs.Held.{slots_at}
use Rattle.image_model.specs.Slots.{inode_of}
use Rattle.image_model.specs.Walk.{is_used, is_directory}
use Rattle.node_table.specs.Held.{held}
use Rattle.log_check.specs.Holding.{node_held}
use Rattle.log_check.proofs.table.table_of.Given as goal

abbrev pub invariant-loop-node : goal.invariant-loop-node
invariant-loop-node l = record {
  put : (n : ℕ) → is_used (inode_of (take l.node-index l.nodes) n) ≡ true → held l.table n ≡ node_held l.directories n (inode_of (take l.node-index l.nodes) n);
  others : (n : ℕ) → is_used (inode_of (take l.node-index l.nodes) n) ≢ true → n ≢ 1 → held l.table n ≡ None;
  valid : (n : ℕ) (slots : List Slot) → is_directory (inode_of (take l.node-index l.nodes) n) ≡ true → slots_at l.directories n ≡ Some slots → IsDirectory slots;
}
