-- What is held over an image is held over every one of which the same is seen.
use Rattle.std.proofs.Common.{◌≡◌, ◌⊎◌, ℕ, List, Option, Some, None, true, sym, ap, subst}
use Rattle.std.specs.Prelude.{max, take, length, ◌==◌, if◌then◌else◌, []}
use Rattle.std.specs.FinMap.{find}
use Rattle.vol_numbers.specs.declared.block.Block.{Block}
use Rattle.block_format.specs.declared.inode.Inode.{Inode}
use Rattle.block_format.specs.declared.inode.Inode.TheVariants.{Unused, File, Directory}
use Rattle.block_format.specs.declared.slot.Slot.{Slot}
use Rattle.dirty_store.specs.Overlay.{Overlay, node_of, least_cut, width_of}
use Rattle.dir_slots.specs.Slots.{slot_at}
use Rattle.image_model.specs.Seen.{Seen, seen}
use Rattle.image_model.specs.Slots.{inode_of, slots_of as slots_seen}
use Rattle.node_table.specs.declared.held.HeldNode.{HeldNode}
use Rattle.point_model.specs.Holding.{HoldsMachine, HoldsNumbers, inode_before, node_now, kind_of, staged_or, as_node, slots_from, slot_or, width_in}
use Rattle.point_plan.specs.State.{slots_before}
use Rattle.volume_model.specs.Machine.{Machine}
use Rattle.volume_model.specs.Places.{spot_cmp}

module _ (old new : List Block) (same : seen new ≡ seen old) where
  pub inode_seen : (n : ℕ) → inode_before old n ≡ inode_before new n
  inode_seen n = ap (λ (x : Seen). inode_of x.nodes n) (sym same)

  slots_same : (n : ℕ) → slots_seen (seen old) n ≡ slots_seen (seen new) n
  slots_same n = ap (λ (x : Seen). slots_seen x n) (sym same)

  pub directory_seen : (n : ℕ) → slots_before old n ≡ slots_before new n
  directory_seen n = λ i. by (slots_same n i) (inode_seen n i)
    where
      by : List Slot → Inode → Option (List Slot)
      by slots Unused = None
      by slots (File size height ptr) = None
      by slots (Directory width height ptr) = Some (take width slots)

  -- what a number is now
  pub node_same : (o : Overlay) (n : ℕ) → node_now old o n ≡ node_now new o n
  node_same o n = λ i.
      let left = if least_cut (node_of o n) == 0 then [] else take (width_in (inode_seen n i)) (slots_same n i) in
      as_node (staged_or (node_of o n) (inode_seen n i)) (slots_from (λ k. slot_or (find spot_cmp (n, k) o.slots) (slot_at left k)) 0 (max (length left) (width_of o.slots n)))

  pub machine_seen : (o : Overlay) (m : Machine) → HoldsMachine old o m → HoldsMachine new o m
  machine_seen o m is = record {
    in_order = is.in_order;
    dirty = is.dirty;
    bytes = is.bytes;
    kept = is.kept;
    nodes = subst (λ (node : ℕ → Option HeldNode). HoldsNumbers node m.tree) (λ i n. node_same o n i) is.nodes;
    renewed = λ n. subst (λ (x : Inode). (kind_of (staged_or (node_of o n) x) ≡ kind_of x) ⊎ (least_cut (node_of o n) ≡ 0)) (inode_seen n) (is.renewed n);
    cuts = λ n. subst (λ (x : Inode). kind_of (staged_or (node_of o n) x) ≡ Some true → (least_cut (node_of o n) ≡ 0) ⊎ (least_cut (node_of o n) ≡ 1048576)) (inode_seen n) (is.cuts n);
  }
