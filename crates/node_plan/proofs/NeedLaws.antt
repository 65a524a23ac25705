-- How many blocks are enough for a plan, by the kind of now.
use Rattle.std.proofs.Common.{◌≡◌, ℕ, ◌+◌, ◌<◌, ◌≤◌, true, List, Some, sym, subst, arith}
use Rattle.std.specs.Prelude.{All}
use Rattle.vol_numbers.specs.declared.runs.Change.{Change}
use Rattle.block_format.specs.Inode.{blocks_of}
use Rattle.block_format.specs.declared.inode.Inode.{Inode}
use Rattle.block_format.specs.declared.inode.Inode.TheVariants.{Unused, File, Directory}
use Rattle.node_table.specs.declared.held.NodeInfo.TheVariants as infos
use Rattle.point_model.specs.Holding.{kind_of}
use Rattle.point_model.specs.PointPlan.{told}
use Rattle.point_model.proofs.Numbers.{told_file}
use Rattle.node_plan.specs.Nodes.{need_of}

pub file_need : (free leaves pages size : ℕ) (now : Inode) → told now ≡ Some (infos.File size) → free < leaves + 3 → free < need_of leaves pages now
file_need free leaves pages size now is few = subst (λ (x : Inode). free < need_of leaves pages x) (sym (told_file now size is)) few

pub names_need : (free leaves pages : ℕ) (now : Inode) → kind_of now ≡ Some true → free < pages + 7 → free < need_of leaves pages now
names_need free leaves pages Unused is few = cc
names_need free leaves pages (File size height ptr) is few = cc
names_need free leaves pages (Directory width height ptr) is few = few

pub file_places : (size : ℕ) (changes : List Change) → size ≤ 4294967296 → All (λ (c : Change). c.place < blocks_of size) changes → All (λ (c : Change). c.place < 1048576) changes
file_places size changes le below = λ k d lt. omega (arith, le, below k d lt)
