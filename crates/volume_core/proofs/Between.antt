-- What memory and disk say of each other between two commands.
use Rattle.std.proofs.Common.{◌≡◌, ◌∙◌, ◌+◌, ◌≤◌, ℕ, cond, List, [], refl, sym, ap, arith, length, take}
use Rattle.std.specs.Prelude.{◌==◌}
use Rattle.vol_numbers.specs.declared.block.Block.{Block}
use Rattle.block_format.specs.Root.{Root, root_of}
use Rattle.block_format.specs.declared.inode.Inode.{Inode}
use Rattle.block_format.specs.declared.inode.Inode.TheVariants.{Unused, File, Directory}
use Rattle.block_format.specs.declared.slot.Slot.{Slot}
use Rattle.command_log.specs.Logging.{HasCurrent, MayDo}
use Rattle.dirty_store.specs.Overlay.{node_of, least_cut}
use Rattle.disk_model.specs.Disk.{State}
use Rattle.image_model.specs.Seen.{seen}
use Rattle.image_model.specs.Slots.{slots_of as slots_seen}
use Rattle.tree_plan.specs.Pages.{slots_or_none, slot_with, width_with}
use Rattle.node_table.specs.Held.{HoldsNodes}
use Rattle.place_read.specs.Holding.{HoldsFiles}
use Rattle.point_model.specs.Holding.{inode_before, node_now, slots_left, staged_or, slots_from, as_node, width_in}
use Rattle.point_model.specs.NodeChanges.{IsTableOf}
use Rattle.point_model.specs.Staging.{TableHoldsTree}
use Rattle.point_plan.specs.State.{HoldsPoint, left_in, node_in, slots_before}
use Rattle.point_plan.specs.declared.state.PointState.{PointState}
use Rattle.session_model.specs.Follows.{IsAtRest}
use Rattle.space_account.specs.Charge.{need}
use Rattle.state_laws.specs.Accepted.{IsAccepted}
use Rattle.tree_model.specs.declared.command.Command.{Command}
use Rattle.volume_model.specs.LogUse.{log_use}
use Rattle.volume_model.specs.Machine.{Machine, Rules}
use Rattle.volume_core.specs.Memory.{Memory, IsFitting, IsIn}

-- the slots of a directory of the last point
slots_are : (image : List Block) (n : ℕ) (x : Inode) → inode_before image n ≡ x → slots_or_none (slots_before image n) ≡ take (width_in (inode_before image n)) (slots_seen (seen image) n)
slots_are image n Unused e = rw e refl
slots_are image n (File size height ptr) e = rw e refl
slots_are image n (Directory width height ptr) e = rw e refl

module _ (r : Rules) (m : Machine) (image : List Block) (s : PointState) (holds : HoldsPoint r m image s) where
  pub left_is : (n : ℕ) → left_in s n ≡ slots_left image s.dirty.overlay n
  left_is n = ap (λ (slots : List Slot). cond (least_cut (node_of s.dirty.overlay n) == 0) [] slots) (ap slots_or_none (holds.directories n) ∙ slots_are image n (inode_before image n) refl)

  -- what memory has of a number is what the image and the overlay hold
  pub node_is : (n : ℕ) → node_in s n ≡ node_now image s.dirty.overlay n
  node_is n = λ i. as_node (staged_or (node_of s.dirty.overlay n) (holds.nodes n i)) (slots_from (slot_with (left_is n i) s.dirty.overlay n) 0 (width_with (left_is n i) s.dirty.overlay n))

  -- the root's log fields are those of the records
  pub used_is : s.current.body.log_used ≡ log_use m.records
  used_is = ap (λ (x : Root). x.log_used) holds.root ∙ sym holds.stands.logs.filled

  pub count_is : s.current.body.records ≡ length m.records
  count_is = ap (λ (x : Root). x.records) holds.root ∙ sym holds.stands.logs.count

  pub layout_is : (root_of s.current.body).layout ≡ m.layout
  layout_is = ap (λ (x : Root). x.layout) holds.root ∙ sym holds.stands.layout

module _ (r : Rules) (m : Machine) (s : State) (v : Memory) (is : IsIn r m s v) where
  abbrev at_point : HoldsPoint r m s.contents v.state
  at_point = is.holds.holds

  pub is_at_rest : IsAtRest m s
  is_at_rest = record { synced = is.holds.synced; stands = at_point.stands }

  pub holds_files : HoldsFiles r m s.contents v.state.inodes v.state.dirty.overlay
  holds_files = record { records = m.records; stands = at_point.stands; coherent = at_point.coherent; staged = at_point.staged; nodes = at_point.nodes }

  pub has_current : HasCurrent v.state.current.slot (root_of v.state.current.body) s
  has_current = record { all_synced = is.holds.synced; slot_is = sym at_point.slot; root_is = sym at_point.root; has = at_point.stands.root; fits = at_point.stands.fits }

  pub may_do : (command : Command) → IsAccepted m.tree command → v.pending + need command ≤ v.free → MayDo r m command s.contents
  may_do command accepted room = record { coherent = at_point.coherent; stands = at_point.stands; accepted = accepted; space = omega (arith, room, is.pending, is.free) }

  module _ (size : ℕ) (fits : IsFitting size v) where
    pub table_is : IsTableOf s.contents v.state.dirty.overlay v.nodes
    table_is n = fits.table n ∙ node_is r m s.contents v.state at_point n

    pub holds_tree : TableHoldsTree → HoldsNodes v.nodes m.tree
    holds_tree law = (law s.contents v.state.dirty.overlay m v.nodes at_point.staged table_is).0
