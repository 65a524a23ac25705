-- What is made of a check's memory is of one volume, whatever the disk.
use Rattle.std.proofs.Common.{◌≡◌, ℕ, ◌≤◌, Bool, true, false, List, [], Some, None, refl, sym, ap, subst, ◌∙◌, arith}
use Rattle.std.specs.Prelude.{◌&&◌, nat_le, All, Option, option_map}
use Rattle.std.proofs.lemmas.Bool.Decides.{nat_tests}
use Rattle.std.proofs.lemmas.List.Elements.{All-nil}
use Rattle.block_format.specs.Inode.{inode_shape}
use Rattle.block_format.specs.Slot.{SlotFits}
use Rattle.block_format.specs.declared.inode.Inode.{Inode}
use Rattle.block_format.specs.declared.inode.Inode.TheVariants.{Unused, File, Directory}
use Rattle.block_format.specs.declared.slot.Slot.{Slot}
use Rattle.block_format.specs.declared.slot.Slot.TheVariants as slot
use Rattle.dir_slots.specs.Slots.{IsDirectory, is_used, slot_at}
use Rattle.dirty_store.specs.Laws.{dirty_spots}
use Rattle.dirty_store.specs.Numbers.{staged_numbers}
use Rattle.dirty_store.specs.Overlay.{Overlay, clean, node_of}
use Rattle.dirty_store.specs.Undo.{Store}
use Rattle.held_list.specs.Held.{slots_at}
use Rattle.held_list.specs.declared.held.Held.{Held}
use Rattle.image_model.specs.Slots.{inode_of as inode_among}
use Rattle.image_model.specs.Walk.{is_directory}
use Rattle.inode_file.specs.Inodes.{InodeTable, IsTable, inode_of}
use Rattle.inode_file.specs.Loading.{IsWithin}
use Rattle.log_check.specs.Holding.{AreNodes, node_held}
use Rattle.log_check.proofs.TableLaws.{no_directory, some_directory}
use Rattle.node_table.specs.declared.held.HeldNode.TheVariants as nodes
use Rattle.point_model.specs.Holding.{as_node, staged_or}
use Rattle.point_plan.specs.Directories.{slots_then}
use Rattle.point_plan.specs.State.{IsOfSize, IsStagedWithin, inode_in, size_in, slots_in}
use Rattle.point_plan.specs.declared.state.PointState.{PointState}
use Rattle.point_plan.proofs.NowLaws.{clean_slots}
use Rattle.tree_plan.specs.Pages.{slots_or_none}
use Rattle.vol_numbers.specs.Geometry.{layout_of}
use Rattle.volume_model.specs.Places.{Spot, has_spot}
use Rattle.fs_check.specs.Checked.{IsFit}
use Rattle.fs_check.specs.declared.examining.Examined.{Examined}
use Rattle.volume_load.specs.Known.{HasInodes, made_of}
use Rattle.volume_load.specs.Last.{FitsLast}

-- no slots are a directory's
none_fit : IsDirectory []
none_fit = record {
  width = omega arith;
  fits = λ i. subst (λ (x : Slot). SlotFits x) (sym (nothing i)) tt;
  names = λ i j used other same. let never : is_used slot.Unused ≡ true = subst (λ (x : Slot). is_used x ≡ true) (nothing i) used in cc;
}
  where
    nothing : (i : ℕ) → slot_at [] i ≡ slot.Unused
    nothing i = refl

-- an inode in shape has a size within the limit
limited : (x : Inode) → inode_shape x ≡ true → size_in x ≤ 4294967296
limited Unused shape = omega arith
limited (File size height ptr) shape = let le = and_first (nat_le size 4294967296) _ shape in grind (arith, nat_tests)
  where
    and_first : (a b : Bool) → (a && b) ≡ true → a ≡ true
    and_first true b e = refl
    and_first false b e = e
limited (Directory width height ptr) shape = omega arith

-- ---- the nodes

-- with the directory of its number, a node is what its inode and that directory's slots are
pub node_is : (ns : List (ℕ × Inode)) (ds : List Held) → AreNodes ns ds → (n : ℕ) → node_held ds n (inode_among ns n) ≡ as_node (inode_among ns n) (slots_or_none (slots_at ds n))
node_is ns ds are n = by (inode_among ns n) refl
  where
    by : (x : Inode) → inode_among ns n ≡ x → node_held ds n x ≡ as_node x (slots_or_none (slots_at ds n))
    by Unused is = refl
    by (File size height ptr) is = refl
    by (Directory width height ptr) is =
        let own = some_directory ns ds are n (ap is_directory is) in
        subst (λ (o : Option (List Slot)). option_map (λ (ss : List Slot). nodes.Directory ss) o ≡ Some (nodes.Directory (slots_or_none o))) (sym own.1) refl

module _ (size : ℕ) (e : Examined) (fit : IsFit size e) (t : InodeTable) (table : IsTable t) (within : IsWithin (layout_of e.current.body.geometry) t) (settled : t.inodes ≡ t.stored)
    (index : t.index ≡ e.current.body.inode_index) (has : HasInodes e.inodes t.inodes) (dirty : Store) (none : dirty.overlay ≡ clean) where
  abbrev s : PointState
  s = (made_of e t dirty).state

  inode_is : (n : ℕ) → inode_in s n ≡ inode_of t.inodes n
  inode_is n = ap (λ (o : Overlay). staged_or (node_of o n) (inode_of t.inodes n)) none

  slots_are : (n : ℕ) → slots_in s n ≡ slots_or_none (slots_at e.directories n)
  slots_are n = ap (λ (o : Overlay). slots_then e.directories o n) none ∙ clean_slots e.directories n

  -- each directory in memory is one
  each_directory : (n : ℕ) → IsDirectory (slots_or_none (slots_at e.directories n))
  each_directory n = by (slots_at e.directories n) refl
    where
      by_kind : (x : Inode) → inode_among e.inodes n ≡ x → is_directory x ≡ true → (ss : List Slot) → slots_at e.directories n ≡ Some ss → IsDirectory ss
      by_kind Unused is kind ss at = cc
      by_kind (File size height ptr) is kind ss at = cc
      by_kind (Directory width height ptr) is kind ss at =
          fit.each_directory n ss (fit.table n ∙ ap (λ (x : Inode). node_held e.directories n x) is ∙ ap (λ (o : Option (List Slot)). option_map (λ (ss : List Slot). nodes.Directory ss) o) at)

      by_test : (u : Bool) → is_directory (inode_among e.inodes n) ≡ u → (ss : List Slot) → slots_at e.directories n ≡ Some ss → IsDirectory ss
      by_test true is ss at = by_kind (inode_among e.inodes n) refl is ss at
      by_test false is ss at = let never = no_directory e.inodes e.directories fit.are n is in cc

      by : (o : Option (List Slot)) → slots_at e.directories n ≡ o → IsDirectory (slots_or_none o)
      by None at = none_fit
      by (Some ss) at = by_test (is_directory (inode_among e.inodes n)) refl ss at

  no_spot : (spot : Spot) → has_spot (dirty_spots dirty.overlay) spot ≡ true → ⊥
  no_spot spot among = let never : false ≡ true = subst (λ (o : Overlay). has_spot (dirty_spots o) spot ≡ true) none among in cc

  staged_within : IsStagedWithin s
  staged_within = record {
    numbers = subst (λ (o : Overlay). All (λ n. (1 ≤ n) × (n ≤ 65535)) (staged_numbers o)) (sym none) (All-nil _);
    directories = λ n. subst IsDirectory (sym (slots_are n)) (each_directory n);
    places = λ spot among. absurd (no_spot spot among);
    sizes = λ n. subst (λ (x : Inode). size_in x ≤ 4294967296) (sym (inode_is n)) (limited (inode_of t.inodes n) (within.inodes n).shape);
  }

  of_size : IsOfSize size s
  of_size = record {
    size = fit.size_is;
    root = refl;
    slot = fit.slot;
    grammar = fit.grammar;
    table = table;
    index = index;
    within = within;
    settled = settled;
    counts = fit.long;
    untouched = fit.untouched;
    staged = staged_within;
  }

  pub fits_last : FitsLast size (made_of e t dirty)
  fits_last = record {
    size = of_size;
    clean = none;
    table = λ n. fit.table n ∙ node_is e.inodes e.directories fit.are n ∙ (λ i. as_node (sym (inode_is n ∙ has n) i) (sym (slots_are n) i));
    directories = fit.each_directory;
    a_tree = fit.a_tree;
    have_records = fit.have_records;
    accepted = fit.accepted;
    free = fit.free;
  }
