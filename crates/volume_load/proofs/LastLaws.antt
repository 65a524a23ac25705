-- What is made of a check's memory holds the last point of the image that was checked.
use Rattle.std.proofs.Common.{◌≡◌, ℕ, zero, suc, false, List, [], ◌++◌, length, take, replicate, Some, None, refl, sym, ap, subst, ◌∙◌, arith}
use Rattle.std.specs.Prelude.{Option, Result, Ok, Err}
use Rattle.std.specs.Result.{IsErrAnd}
use Rattle.std.proofs.Math.Seq.{take-append_seam}
use Rattle.std.proofs.lemmas.List.{length-replicate}
use Rattle.std.proofs.lemmas.List.Elements.{All-nil}
use Rattle.vol_numbers.specs.Geometry.{layout_of}
use Rattle.vol_numbers.specs.Layout.{count_blocks}
use Rattle.vol_numbers.specs.declared.block.Block.{Block}
use Rattle.block_format.specs.Root.{Root}
use Rattle.block_format.specs.declared.inode.Inode.{Inode}
use Rattle.block_format.specs.declared.inode.Inode.TheVariants.{Unused, File, Directory}
use Rattle.block_format.specs.declared.slot.Slot.{Slot}
use Rattle.block_format.specs.declared.slot.Slot.TheVariants as slot
use Rattle.block_tree.specs.Tree.{blocks_in, index_at}
use Rattle.count_pairs.specs.Table.{AllStand, is_touched}
use Rattle.dirty_store.specs.Overlay.{Overlay, clean}
use Rattle.dirty_store.specs.Undo.{Store}
use Rattle.fs_check.specs.Checked.{IsFaultOf, IsFit, IsLoaded, IsVerdict}
use Rattle.fs_check.specs.declared.examining.Examined.{Examined}
use Rattle.fs_check.specs.declared.fault.CheckFault.{CheckFault}
use Rattle.fs_check.specs.declared.fault.CheckFault.TheVariants.{Found, Device, OutOfMemory}
use Rattle.held_list.specs.Held.{slots_at}
use Rattle.image_model.specs.Seen.{seen}
use Rattle.image_model.specs.Slots.{inode_of as inode_among, slots_of as slots_seen}
use Rattle.image_model.specs.Walk.{is_directory}
use Rattle.image_states.specs.Laws.{StandingIsMountable}
use Rattle.inode_file.specs.Inodes.{InodeTable, Stands as InodesStand, SpellsInodes}
use Rattle.log_check.proofs.TableLaws.{as_wide, no_directory, some_directory}
use Rattle.point_model.specs.Holding.{HoldsMachine, as_node, inode_before}
use Rattle.point_model.specs.NodeChanges.{CleanNodesAre, IsTableOf}
use Rattle.point_model.specs.Staging.{AtRest}
use Rattle.point_plan.specs.State.{slots_before}
use Rattle.point_plan.proofs.NumberPlanned.{image_slots}
use Rattle.root_switch.specs.Current.{root_of_image}
use Rattle.state_laws.specs.Laws.{AlwaysCoherent}
use Rattle.state_laws.specs.States.{IsMountable}
use Rattle.tree_plan.specs.Pages.{slots_or_none}
use Rattle.volume_model.specs.Machine.{Stored}
use Rattle.volume_load.specs.Known.{HasInodes, IsNoFinding, IsOfImage, made_of}
use Rattle.volume_load.specs.Last.{HoldsLast, last_of}
use Rattle.volume_load.proofs.FitLaws.{node_is}
use Rattle.volume_load.proofs.SeenInodes.{seen_spelled}

-- what can be mounted can be with no record
none_recorded : (s : Stored) → IsMountable s → IsMountable (record s { records = [] })
none_recorded s m = record {
  tree = m.tree;
  in_order = m.in_order;
  in_files = m.in_files;
  holes = m.holes;
  same = m.same;
  changes = All-nil _;
  accepted = tt;
  fits = λ valid recorded. omega arith;
}

-- where no count was touched, none is
none_touched : (n i : ℕ) → is_touched (replicate n false) i ≡ false
none_touched zero i = refl
none_touched (suc n) zero = refl
none_touched (suc n) (suc i) = none_touched n i

module _ (image : List Block) (e : Examined) (is : IsLoaded image e) (size : ℕ) (fit : IsFit size e) where
  pub of_image : IsOfImage image e.current.body e.inodes
  of_image = record { stored = is.stored; stands = is.stands; root = is.root; inodes = is.inodes }

  counted : AllStand (blocks_in image) e.current.body.homes.bytes (count_blocks (layout_of e.current.body.geometry)) e.counts.counts
  counted = record {
    each = λ i lt. is.kept.each i (omega (arith, lt, ap length fit.untouched, length-replicate (count_blocks (layout_of e.current.body.geometry)) false))
        (ap (λ ts. is_touched ts i) fit.untouched ∙ none_touched (count_blocks (layout_of e.current.body.geometry)) i);
  }

  inode_same : (n : ℕ) → inode_among e.inodes n ≡ inode_before image n
  inode_same n = ap (λ (ns : List (ℕ × Inode)). inode_among ns n) (sym is.inodes)

  -- the slots of an inode that are seen
  abbrev slots_by : List Slot → Inode → Option (List Slot)
  slots_by ss Unused = None
  slots_by ss (File size height ptr) = None
  slots_by ss (Directory width height ptr) = Some (take width ss)

  front_is : (width : ℕ) (ss rest : List Slot) → length ss ≡ width → take width (ss ++ rest) ≡ ss
  front_is width ss rest long = ap (λ (k : ℕ). take k (ss ++ rest)) (sym long) ∙ take-append_seam ss rest

  directory_is : (n : ℕ) (x : Inode) → inode_among e.inodes n ≡ x → slots_at e.directories n ≡ slots_by (slots_seen (seen image) n) x
  directory_is n Unused at = no_directory e.inodes e.directories fit.are n (ap is_directory at)
  directory_is n (File size height ptr) at = no_directory e.inodes e.directories fit.are n (ap is_directory at)
  directory_is n (Directory width height ptr) at =
      let own = some_directory e.inodes e.directories fit.are n (ap is_directory at) in
      let saw = is.directories.slots n own.0 own.1 in
      own.1 ∙ ap (λ (ss : List Slot). Some ss) (sym (ap (take width) saw.1 ∙ front_is width own.0 (replicate saw.0 slot.Unused) (as_wide e.inodes e.directories fit.are n width height ptr own.0 at own.1)))

  directories_are : (n : ℕ) → slots_at e.directories n ≡ slots_before image n
  directories_are n = directory_is n (inode_among e.inodes n) refl ∙ ap (slots_by (slots_seen (seen image) n)) (inode_same n)

  -- the table has the nodes of the image
  table_is : CleanNodesAre → IsTableOf image clean e.nodes
  table_is nodes n =
      fit.table n ∙ node_is e.inodes e.directories fit.are n
      ∙ (λ i. as_node (inode_same n i) (slots_or_none (directories_are n i)))
      ∙ ap (as_node (inode_before image n)) (image_slots image n) ∙ sym (nodes image n)

  module _ (t : InodeTable) (many : length t.inodes ≡ 65536) (has : HasInodes e.inodes t.inodes) (settled : t.inodes ≡ t.stored) (index : t.index ≡ e.current.body.inode_index)
      (pointers : index_at (blocks_in image) e.current.body.inode_index ≡ t.pointers) where
    index_is : (root_of_image image).inode_index ≡ t.index
    index_is = ap (λ (r : Root). r.inode_index) (sym is.root) ∙ sym index

    spelled : SpellsInodes (blocks_in image) t.index t.inodes
    spelled = subst (λ (at : ℕ). SpellsInodes (blocks_in image) at t.inodes) index_is (seen_spelled image is.stored is.stands t.inodes many (λ n. has n ∙ inode_same n))

    inodes_stand : InodesStand (blocks_in image) t
    inodes_stand = record {
      index = ap (index_at (blocks_in image)) index ∙ pointers;
      inodes = subst (SpellsInodes (blocks_in image) t.index) settled spelled;
    }

    pub holds_last : StandingIsMountable → AlwaysCoherent → AtRest → CleanNodesAre → (dirty : Store) → dirty.overlay ≡ clean → HoldsLast image (made_of e t dirty)
    holds_last mountable coherent rest nodes dirty none = record {
      stored = is.stored;
      stands = is.stands;
      clean = none;
      coherent = λ r. coherent.at_first r (record is.stored { records = [] }) (none_recorded is.stored (mountable image is.stored is.stands));
      staged = subst (λ (o : Overlay). HoldsMachine image o (last_of is.stored)) (sym none) (rest image is.stored [] is.stands);
      slot = is.slot;
      root = is.root;
      counts = is.counts;
      counted = counted;
      inodes = inodes_stand;
      nodes = λ n. has n ∙ inode_same n;
      directories = directories_are;
      metadata = is.metadata;
      table = subst (λ (o : Overlay). IsTableOf image o e.nodes) (sym none) (table_is nodes);
      records = is.records;
      free = is.free;
    }

-- ---- faults that are passed on

-- where an image stands for something, nothing that is found of it is told
pub told_nothing : {T : Type 0} (image : List Block) (P : T → Type 0) (r : Result T CheckFault) (fault : CheckFault) → IsErrAnd r (λ f. f ≡ fault) → IsNoFinding fault → IsVerdict image P r
told_nothing image P (Ok value) fault same none = absurd same
told_nothing image P (Err f) fault same none = subst (IsFaultOf image) (sym same) (by fault none)
  where
    by : (fault : CheckFault) → IsNoFinding fault → IsFaultOf image fault
    by (Found f) none = absurd none
    by Device none = tt
    by OutOfMemory none = tt

pub verdict_err : {T : Type 0} (image : List Block) (P : T → Type 0) (r : Result T CheckFault) (fault : CheckFault) → IsErrAnd r (λ f. f ≡ fault) → IsFaultOf image fault → IsVerdict image P r
verdict_err image P (Ok value) fault same is = absurd same
verdict_err image P (Err f) fault same is = subst (IsFaultOf image) (sym same) is
