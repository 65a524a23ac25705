-- Staging the effect of a command keeps what is staged within the rules.
use Rattle.std.proofs.Common.{◌≡◌, ℕ, ◌<◌, ◌≤◌, true, false, List, sym, ap, subst, ◌∙◌, arith}
use Rattle.std.specs.Prelude.{All}
use Rattle.block_format.specs.Inode.{blocks_of}
use Rattle.block_format.specs.declared.inode.Inode.{Inode}
use Rattle.block_format.specs.declared.slot.Slot.{Slot}
use Rattle.dir_slots.specs.Slots.{IsDirectory}
use Rattle.dirty_store.specs.Laws.{dirty_spots}
use Rattle.dirty_store.specs.Numbers.{numbers_in, staged_numbers}
use Rattle.dirty_store.specs.Overlay.{Overlay, cut_of, slot_entries, staged}
use Rattle.dirty_store.specs.Undo.{Store}
use Rattle.dirty_store.specs.declared.effect.Effect.{Effect}
use Rattle.held_list.specs.Held.{slots_at}
use Rattle.inode_file.specs.Inodes.{inode_of}
use Rattle.node_table.specs.Changes.{IsNumber}
use Rattle.node_table.specs.Held.{Nodes, held, slots_of}
use Rattle.node_table.specs.declared.change.Change.{Change}
use Rattle.node_table.specs.declared.held.HeldNode.{HeldNode}
use Rattle.point_model.specs.NodeChanges.{IsEffectOfChange}
use Rattle.point_model.proofs.BuiltEffects.{built_is_of_change}
use Rattle.point_model.proofs.ChangeFollows.{ChangeFollows, change_follows}
use Rattle.point_plan.specs.State.{IsStagedWithin, size_in}
use Rattle.point_plan.specs.declared.state.PointState.{PointState}
use Rattle.tree_model.specs.declared.command.Command.{Command}
use Rattle.tree_plan.specs.Pages.{slots_or_none}
use Rattle.command_effect.specs.Laws.{IsStagingOf, StagingFits}
use Rattle.command_effect.proofs.StagedTable.{inode_over, node_over, slots_now, directories_after, table_after}
use Rattle.command_effect.proofs.StagedWithin.{SizeFollows, number_within, numbers_after, places_after, size_after, size_held, size_is, sizes_after, slots_within}
use Rattle.volume_model.specs.Done.{is_cut}
use Rattle.volume_model.specs.Places.{Spot, has_spot}

module _ (s : PointState) (command : Command) (change : Change) (before after : Nodes) (e : Effect) (is : IsStagingOf s command change before after e) where
  abbrev o : Overlay
  o = s.dirty.overlay

  abbrev inode : ℕ → Inode
  inode n = inode_of s.inodes.inodes n

  abbrev first : ℕ → List Slot
  first n = slots_or_none (slots_at s.directories n)

  effect : IsEffectOfChange change after e
  effect = built_is_of_change command change before after e is.does is.built

  follows : ChangeFollows change before after
  follows = change_follows before after command change is.does

  size_follows : SizeFollows (held before e.number) (held after e.number) e.number e.cut_to
  size_follows =
      subst (λ (n : ℕ). SizeFollows (held before n) (held after n) n e.cut_to) (sym effect.number) (size_after before after e.cut_to command change is.does is.rules is.built.cut is.cut)

  size_was : size_in (inode_over inode o e.number) ≡ size_held (held before e.number)
  size_was = size_is (inode_over inode o e.number) (slots_now first o e.number) ∙ sym (ap size_held (is.table e.number))

  size_now : size_in e.inode ≡ size_held (held after e.number)
  size_now = size_is e.inode (slots_of (held after e.number)) ∙ ap size_held effect.node

  numbers : All IsNumber (staged_numbers (staged o e))
  numbers =
      numbers_after IsNumber o e (subst IsNumber (sym effect.number) (number_within change is.rules))
      (subst (λ cs. All IsNumber (numbers_in (slot_entries cs))) (sym is.built.slots) (slots_within change is.built.name is.rules)) is.within.numbers

  directories : (n : ℕ) → IsDirectory (slots_now first (staged o e) n)
  directories = directories_after inode first o before after change e is.table follows effect is.effect is.within.directories is.directories

  places : (spot : Spot) → has_spot (dirty_spots (staged o e)) spot ≡ true → spot.1 < blocks_of (size_in (inode_over inode (staged o e) spot.0))
  places = places_after inode o e is.places.below stays is.within.places
    where
      stays : (p : ℕ) → is_cut (cut_of e) (e.number, p) ≡ false → p < blocks_of (size_in (inode_over inode o e.number)) → p < blocks_of (size_in e.inode)
      stays p not below = subst (λ (n : ℕ). p < blocks_of n) (sym size_now) (size_follows.places p not (subst (λ (n : ℕ). p < blocks_of n) size_was below))

  sizes : (n : ℕ) → size_in (inode_over inode (staged o e) n) ≤ 4294967296
  sizes = sizes_after inode o e here is.within.sizes
    where
      here : size_in (inode_over inode o e.number) ≤ 4294967296 → size_in e.inode ≤ 4294967296
      here le = omega (arith, size_now, size_follows.within (omega (arith, size_was, le)))

  table : (n : ℕ) → held after n ≡ node_over inode first (staged o e) n
  table = table_after inode first o before after change e is.table follows effect is.effect is.within.directories is.directories

  module _ (dirty : Store) (same : dirty.overlay ≡ staged o e) where
    within : IsStagedWithin (record s { dirty = dirty })
    within = record {
      numbers = subst (λ (x : Overlay). All IsNumber (staged_numbers x)) (sym same) numbers;
      directories = λ n. subst (λ (x : Overlay). IsDirectory (slots_now first x n)) (sym same) (directories n);
      places = subst (λ (x : Overlay). (spot : Spot) → has_spot (dirty_spots x) spot ≡ true → spot.1 < blocks_of (size_in (inode_over inode x spot.0))) (sym same) places;
      sizes = λ n. subst (λ (x : Overlay). size_in (inode_over inode x n) ≤ 4294967296) (sym same) (sizes n);
    }

    nodes : (n : ℕ) → held after n ≡ node_over inode first dirty.overlay n
    nodes n = subst (λ (x : Overlay). held after n ≡ node_over inode first x n) (sym same) (table n)

pub staging_fits : StagingFits
staging_fits s command change before after e dirty is same = (within s command change before after e is dirty same, nodes s command change before after e is dirty same)
