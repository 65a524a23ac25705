-- The nodes that an image holds where nothing is staged.
use Rattle.std.proofs.Common.{◌≡◌, ℕ, zero, suc, ◌+◌, Bool, true, false, not, cond, List, [], ◌∷◌, length, take, drop, Some, None, refl, sym, ap, subst, ◌∙◌, arith}
use Rattle.std.specs.Prelude.{◌||◌, bytes_eq, max, option_map, is_some, Contains}
use Rattle.std.specs.List.{list_all}
use Rattle.vol_numbers.specs.declared.block.Block.{Block}
use Rattle.block_format.specs.declared.inode.Inode.{Inode}
use Rattle.block_format.specs.declared.inode.Inode.TheVariants.{Unused, File, Directory}
use Rattle.block_format.specs.declared.slot.Slot.{Slot}
use Rattle.block_format.specs.declared.slot.Slot.TheVariants as entry
use Rattle.block_tree.specs.Tree.{blocks_in}
use Rattle.dir_slots.specs.Slots.{slot_at, number_in, IsDirectory}
use Rattle.dirty_store.specs.Overlay.{clean}
use Rattle.image_model.specs.Holds.{HoldsTree}
use Rattle.image_model.specs.Met.{NoFaults}
use Rattle.image_model.specs.Nodes.{is_empty}
use Rattle.image_model.specs.Reading.{HasDirectory}
use Rattle.image_model.specs.Seen.{seen}
use Rattle.image_model.specs.Slots.{slots_of as slots_seen}
use Rattle.image_model.specs.Stands.{Stands, node_of, layout_in}
use Rattle.image_model.specs.Walk.{is_used}
use Rattle.image_model.proofs.Area.{no_faults as none_found}
use Rattle.image_model.proofs.DirectoryRead.{directories_stand}
use Rattle.image_model.proofs.HeldLaws.{tree_is_held}
use Rattle.image_model.proofs.NodePlaces.{directory_pairs}
use Rattle.image_model.proofs.SpaceLaws.{file_length, node_there}
use Rattle.node_table.specs.Held.{info, info_of, slots_of}
use Rattle.node_table.specs.declared.held.HeldNode.TheVariants as held
use Rattle.node_table.specs.declared.held.NodeInfo.TheVariants as infos
use Rattle.point_model.specs.Holding.{HoldsNumbers, inode_before, width_in, slot_now, slots_now, as_node, node_now}
use Rattle.point_model.specs.NodeChanges.{CleanNodesAre}
use Rattle.point_model.proofs.Nodes.{no_slots}
use Rattle.point_model.proofs.StagedNodes.{slots_are}
use Rattle.tree_model.specs.Path.{Path}
use Rattle.tree_model.specs.Tree.{node_at}
use Rattle.tree_model.specs.declared.node.Content.TheVariants as content
use Rattle.tree_model.specs.declared.node.Node.{Node}
use Rattle.volume_model.specs.Machine.{Stored}

-- ---- the slots

-- the slots that are seen, up to the width
abbrev left : List Block → ℕ → List Slot
left old n = take (width_in (inode_before old n)) (slots_seen (seen old) n)

pub clean_slots : (old : List Block) (n : ℕ) → slots_now old clean n ≡ left old n
clean_slots old n = slots_are (slot_now old clean n) (left old n) 0 _ (no_more (length (left old n))) (λ k lt. let e : 0 + k ≡ k = omega arith in ap (slot_at (left old n)) e)
  where
    no_more : (n : ℕ) → max n 0 ≡ n
    no_more n = omega arith

pub clean_nodes : CleanNodesAre
clean_nodes old n = ap (as_node (inode_before old n)) (clean_slots old n)

none_in : (slots : List Slot) (name : List ℕ) → list_all is_empty slots ≡ true → number_in slots name ≡ None
none_in [] name all = refl
none_in (entry.Unused ∷ rest) name all = none_in rest name all
none_in (entry.Entry number other ∷ rest) name all = cc

-- where no entry is behind the width, a name has the number that it has below it
number_below : (width : ℕ) (slots : List Slot) (name : List ℕ) → list_all is_empty (drop width slots) ≡ true → number_in (take width slots) name ≡ number_in slots name
number_below zero slots name all = sym (none_in slots name all)
number_below (suc width) [] name all = refl
number_below (suc width) (entry.Unused ∷ rest) name all = number_below width rest name all
number_below (suc width) (entry.Entry number other ∷ rest) name all = ap (cond (bytes_eq other name) (Some number)) (number_below width rest name all)

third_fine : (a b c d : Bool) → (((not a || not b) || not c) || d) ≡ false → c ≡ true
third_fine a b true d e = refl
third_fine a b false d e = absurd (later (not a || not b) d e)
  where
    later : (x d : Bool) → ((x || true) || d) ≡ false → ⊥
    later true d e = cc
    later false d e = cc

-- ---- the nodes

same_node : (a b : Node) → Some a ≡ Some b → a ≡ b
same_node a b e = cc

module _ (old : List Block) (s : Stored) (stands : Stands old s) where
  none : NoFaults (seen old).met
  none = none_found (layout_in old) (seen old).met (seen old).met stands.sound.pointers

  holds : HoldsTree (seen old) s.tree
  holds = tree_is_held old s stands

  -- a directory of the image has its width
  directory : (n width height ptr : ℕ) (path : Path) (at : Node) → inode_before old n ≡ Directory width height ptr → node_at s.tree path ≡ Some at → at.number ≡ n → HasDirectory old n width
  directory n width height ptr path at is there number =
      let seen_node : node_of (seen old) at.number (Directory width height ptr) ≡ Some at = ap (node_of (seen old) at.number) ((λ i. sym is i) ∙ sym (λ i. inode_before old (number i))) ∙ holds.inodes path at there in
      let whole : record { number = at.number; content = content.Directory width } ≡ at = same_node _ at seen_node in
      directories_stand old s path n width stands (there ∙ ap Some (sym whole ∙ (λ i. record { number = number i; content = content.Directory width })))

  each : (path : Path) (at : Node) → node_at s.tree path ≡ Some at → option_map info (node_now old clean at.number) ≡ Some (info_of at.content)
  each path at there = ap (option_map info) (clean_nodes old at.number) ∙ by (inode_before old at.number) refl (holds.inodes path at there)
    where
      by : (x : Inode) → inode_before old at.number ≡ x → node_of (seen old) at.number (inode_before old at.number) ≡ Some at → option_map info (as_node (inode_before old at.number) (left old at.number)) ≡ Some (info_of at.content)
      by Unused is node = let never : None ≡ Some at = sym (ap (node_of (seen old) at.number) is) ∙ node in cc
      by (File size height ptr) is node =
          let one = same_node _ at (sym (ap (node_of (seen old) at.number) is) ∙ node) in
          ap (λ (x : Inode). option_map info (as_node x (left old at.number))) is ∙ ap (λ (n : ℕ). Some (infos.File n)) (sym (file_length (seen old).contents at.number size)) ∙ ap (λ (n : Node). Some (info_of n.content)) one
      by (Directory width height ptr) is node =
          let one = same_node _ at (sym (ap (node_of (seen old) at.number) is) ∙ node) in
          let wide : length (left old at.number) ≡ width = ap (λ (x : Inode). length (take (width_in x) (slots_seen (seen old) at.number))) is ∙ (directory at.number width height ptr path at is there refl).wide in
          ap (λ (x : Inode). option_map info (as_node x (left old at.number))) is ∙ ap (λ (w : ℕ). Some (infos.Directory w)) wide ∙ ap (λ (n : Node). Some (info_of n.content)) one

  names : (path : Path) (at : Node) (name : List ℕ) → node_at s.tree path ≡ Some at → number_in (slots_of (node_now old clean at.number)) name ≡ number_in (slots_seen (seen old) at.number) name
  names path at name there = ap (λ h. number_in (slots_of h) name) (clean_nodes old at.number) ∙ by (inode_before old at.number) refl (holds.inodes path at there)
    where
      by : (x : Inode) → inode_before old at.number ≡ x → node_of (seen old) at.number (inode_before old at.number) ≡ Some at
          → number_in (slots_of (as_node (inode_before old at.number) (left old at.number))) name ≡ number_in (slots_seen (seen old) at.number) name
      by Unused is node = let never : None ≡ Some at = sym (ap (node_of (seen old) at.number) is) ∙ node in cc
      by (File size height ptr) is node =
          ap (λ (x : Inode). number_in (slots_of (as_node x (left old at.number))) name) is ∙ sym (ap (λ (ss : List Slot). number_in ss name) (no_slots old none at.number (ap (directory_pairs (blocks_in old)) is)))
      by (Directory width height ptr) is node =
          let used : is_used (inode_before old at.number) ≡ true = ap is_used is in
          let among : Contains (seen old).nodes (at.number, Directory width height ptr) = subst (λ (x : Inode). Contains (seen old).nodes (at.number, x)) is (node_there (seen old).nodes at.number used) in
          let empty = third_fine _ _ _ _ (stands.sound.directories (at.number, Directory width height ptr) among) in
          ap (λ (x : Inode). number_in (slots_of (as_node x (take (width_in x) (slots_seen (seen old) at.number)))) name) is ∙ number_below width (slots_seen (seen old) at.number) name empty

  some_used : (x : Inode) (slots : List Slot) → is_some (as_node x slots) ≡ true → is_used x ≡ true
  some_used Unused slots is = cc
  some_used (File size height ptr) slots is = refl
  some_used (Directory width height ptr) slots is = refl

  others : (n : ℕ) → is_some (node_now old clean n) ≡ true → (path : Path) × (at : Node) × (node_at s.tree path ≡ Some at) × (at.number ≡ n)
  others n is = holds.others n (some_used (inode_before old n) (slots_now old clean n) is)

  are_directories : (n : ℕ) (slots : List Slot) → node_now old clean n ≡ Some (held.Directory slots) → IsDirectory slots
  are_directories n slots is = by (inode_before old n) refl (sym (clean_nodes old n) ∙ is)
    where
      same_slots : (a b : List Slot) → Some (held.Directory a) ≡ Some (held.Directory b) → a ≡ b
      same_slots a b e = cc

      by : (x : Inode) → inode_before old n ≡ x → as_node (inode_before old n) (left old n) ≡ Some (held.Directory slots) → IsDirectory slots
      by Unused at node = let never : None ≡ Some (held.Directory slots) = sym (ap (λ (x : Inode). as_node x (left old n)) at) ∙ node in cc
      by (File size height ptr) at node = let never : Some (held.File size) ≡ Some (held.Directory slots) = sym (ap (λ (x : Inode). as_node x (left old n)) at) ∙ node in cc
      by (Directory width height ptr) at node =
          let has = holds.others n (ap is_used at) in
          let stood = (directory n width height ptr has.0 has.1 at has.2 has.3).stands.directory in
          let same : take width (slots_seen (seen old) n) ≡ slots = same_slots _ slots (sym (ap (λ (x : Inode). as_node x (take (width_in x) (slots_seen (seen old) n))) at) ∙ node) in
          subst IsDirectory same stood

  pub nodes_at_rest : HoldsNumbers (node_now old clean) s.tree
  nodes_at_rest = record {
    each = each;
    slots = λ path at name there. names path at name there ∙ holds.slots path at name there;
    others = others;
    directories = are_directories;
  }
