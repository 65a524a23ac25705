-- What a load gives: a volume as at its last point.
use Rattle.std.specs.Prelude.{◌≡◌, ℕ, List, [], All}
use Rattle.vol_numbers.specs.Geometry.{layout_of}
use Rattle.vol_numbers.specs.Layout.{count_blocks}
use Rattle.vol_numbers.specs.declared.block.Block.{Block}
use Rattle.block_format.specs.Root.{root_of}
use Rattle.block_tree.specs.Tree.{blocks_in}
use Rattle.count_pairs.specs.Table.{AllStand}
use Rattle.dirty_store.specs.Overlay.{clean}
use Rattle.held_list.specs.Held.{slots_at}
use Rattle.image_model.specs.Findings.{free_in}
use Rattle.image_model.specs.Seen.{seen}
use Rattle.image_model.specs.Stands.{Stands}
use Rattle.inode_file.specs.Inodes.{Stands as InodesStand, inode_of}
use Rattle.log_check.specs.Accepting.{HoldsATree}
use Rattle.node_table.specs.Held.{HoldsNodes, AreDirectories, held}
use Rattle.op_log.specs.Record.{HasRecord}
use Rattle.point_model.specs.Holding.{HoldsMachine, inode_before}
use Rattle.point_model.specs.NodeChanges.{IsTableOf}
use Rattle.point_plan.specs.State.{IsOfSize, node_in, slots_before}
use Rattle.root_switch.specs.Current.{current_slot, root_of_image}
use Rattle.state_laws.specs.States.{IsCoherent}
use Rattle.tree_model.specs.Shape.{IsTree}
use Rattle.volume_model.specs.Accepted.{Accepts}
use Rattle.volume_model.specs.Done.{mounted}
use Rattle.volume_model.specs.Machine.{Machine, Rules, Stored}
use Rattle.volume_model.specs.Space.{free_blocks, metadata_blocks}
use Rattle.volume_load.specs.declared.loading.Loaded.{Loaded}

-- the machine at the last point, before a record of the log is done
abbrev pub last_of : Stored → Machine
last_of s = mounted (record s { records = [] })

-- The image stands for something. Nothing is staged over it, and so it holds the machine of the last point. The memory has its root, its counts, its inodes
-- and its directories, the table has its nodes, and behind the point there are these records and so many free blocks.
pub record HoldsLast (image : List Block) (l : Loaded) : Type 0 where
  pub stored : Stored
  pub stands : Stands image stored
  pub clean : l.state.dirty.overlay ≡ clean
  pub coherent : (r : Rules) → IsCoherent r (last_of stored)
  pub staged : HoldsMachine image l.state.dirty.overlay (last_of stored)
  pub slot : l.state.current.slot ≡ current_slot image
  pub root : root_of l.state.current.body ≡ root_of_image image
  pub counts : l.state.counts.counts ≡ (seen image).kept
  pub counted : AllStand (blocks_in image) l.state.current.body.homes.bytes (count_blocks (layout_of l.state.geometry)) l.state.counts.counts
  pub inodes : InodesStand (blocks_in image) l.state.inodes
  pub nodes : (n : ℕ) → inode_of l.state.inodes.inodes n ≡ inode_before image n
  pub directories : (n : ℕ) → slots_at l.state.directories n ≡ slots_before image n
  pub metadata : l.state.metadata ≡ metadata_blocks stored.tree stored.places
  pub table : IsTableOf image l.state.dirty.overlay l.nodes
  pub records : stored.records ≡ l.records
  pub free : l.free ≡ free_blocks stored.layout stored.tree stored.places

-- On every disk: what is loaded is of one volume with so many blocks, in which nothing is staged. The table has what the rest has of each number, each of its
-- directories is one, it holds some tree, and each tree that it holds accepts the records.
pub record FitsLast (blocks : ℕ) (l : Loaded) : Type 0 where
  pub size : IsOfSize blocks l.state
  pub clean : l.state.dirty.overlay ≡ clean
  pub table : (n : ℕ) → held l.nodes n ≡ node_in l.state n
  pub directories : AreDirectories l.nodes
  pub a_tree : HoldsATree l.nodes
  pub have_records : All HasRecord l.records
  pub accepted : (s : Stored) → IsTree s.tree → HoldsNodes l.nodes s.tree → Accepts l.free s.tree 0 l.records
  pub free : l.free ≡ free_in (layout_of l.state.geometry) l.state.counts.counts
