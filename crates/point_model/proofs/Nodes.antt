-- The nodes that are seen in an image in which a point is planned.
use Rattle.std.proofs.Common.{◌≡◌, ℕ, zero, suc, ◌<◌, Bool, true, false, cond, List, [], ◌∷◌, ◌++◌, map, length, take, Some, refl, sym, ap, subst, ◌∙◌, arith, slice_index_or}
use Rattle.std.specs.Prelude.{◌==◌, ◌||◌, nat_eq, option_map, Contains, count_by}
use Rattle.std.specs.List.{flat_map}
use Rattle.std.proofs.lemmas.Bool.{eqb-true}
use Rattle.std.proofs.lemmas.Bool.Decides.{nat_tests}
use Rattle.std.proofs.lemmas.List.{take-append-le, take_all}
use Rattle.vol_numbers.specs.declared.block.Block.{Block}
use Rattle.root_switch.specs.Current.{root_of_image}
use Rattle.block_format.specs.declared.inode.Inode.{Inode}
use Rattle.block_format.specs.declared.inode.Inode.TheVariants.{Unused, File, Directory}
use Rattle.block_format.specs.declared.slot.Slot.{Slot}
use Rattle.block_tree.specs.Tree.{blocks_in, block_below, index_at, nonzero}
use Rattle.dir_slots.specs.Pages.{IsPage, pages_for}
use Rattle.dir_slots.specs.Slots.{number_in}
use Rattle.dirty_store.specs.Overlay.{Overlay}
use Rattle.image_model.specs.Holds.{HoldsTree}
use Rattle.image_model.specs.Live.{IsLive}
use Rattle.image_model.specs.Met.{Met, index, NoFaults}
use Rattle.image_model.specs.Nodes.{has_tail, is_bad_directory}
use Rattle.image_model.specs.Planned.{node_trees}
use Rattle.image_model.specs.Seen.{seen, all_held, page_held}
use Rattle.image_model.specs.Slots.{inode_of, slots_of}
use Rattle.image_model.specs.Standing.{as_block, DirectoryStands}
use Rattle.image_model.specs.Stands.{node_of}
use Rattle.image_model.specs.Walk.{is_used, nodes_at}
use Rattle.image_model.proofs.DirectoryLaws.{directory_is_seen, slots_are}
use Rattle.image_model.proofs.FileLaws.{file_is_seen}
use Rattle.image_model.proofs.Kept.{bytes_same}
use Rattle.image_model.proofs.Naming.{no_pieces}
use Rattle.image_model.proofs.NodePlaces.{numbers, numbers_distinct, pages_at, directory_pairs, is_of}
use Rattle.image_model.proofs.NodeWalk.{walk_good}
use Rattle.node_table.specs.Held.{info, info_of, slots_of as slots_held}
use Rattle.node_table.specs.declared.held.HeldNode.TheVariants as held
use Rattle.node_table.specs.declared.held.NodeInfo.TheVariants as infos
use Rattle.place_words.specs.Different.{is_among, Distinct}
use Rattle.point_model.specs.Holding.{inode_before, inode_now, node_now, as_node, slots_now, kind_of, width_in}
use Rattle.point_model.specs.Laws.{MayTake, IsPlannedFor}
use Rattle.point_model.specs.NodePlan.{block_of_place, PagesArePlanned, is_kept_page}
use Rattle.point_model.specs.PointPlan.{ContentIsPlanned, told}
use Rattle.point_model.proofs.FileBytes.{file_stands}
use Rattle.point_model.proofs.Numbers.{HasNode, node_of_path, node_of_number, told_file, told_directory}
use Rattle.point_model.proofs.Spelled.{no_faults, inodes_new}
use Rattle.state_laws.proofs.FilesNumbered.{HasFile}
use Rattle.tree_model.specs.Path.{Path}
use Rattle.tree_model.specs.Tree.{node_at}
use Rattle.tree_model.specs.declared.node.Content.{Content}
use Rattle.tree_model.specs.declared.node.Content.TheVariants as content_of
use Rattle.tree_model.specs.declared.node.Node.{Node}
use Rattle.tree_model.specs.declared.report.Report.{Report}
use Rattle.volume_model.specs.Machine.{Machine, Rules, block_at}
use Rattle.volume_model.specs.Places.{Spot, spot_cmp}
use Rattle.std.specs.FinMap.{find}

-- ---- the nodes of a list

among_at : (nodes : List (ℕ × Inode)) (node : ℕ × Inode) (k : ℕ) → k < length nodes → slice_index_or nodes k node ≡ node → is_among (numbers nodes) node.0 ≡ true
among_at [] node k lt is = absurd (omega (arith, lt))
among_at (n ∷ ns) node zero lt is =
    let own : nat_eq n.0 node.0 ≡ true = subst (λ (m : ℕ × Inode). nat_eq n.0 m.0 ≡ true) is (itself n.0) in
    ap (λ (t : Bool). t || is_among (numbers ns) node.0) own
  where
    itself : (k : ℕ) → nat_eq k k ≡ true
    itself k = grind (arith, nat_tests)
among_at (n ∷ ns) node (suc k) lt is = or_later (nat_eq n.0 node.0) _ (among_at ns node k (omega (arith, lt)) is)
  where
    or_later : (a b : Bool) → b ≡ true → (a || b) ≡ true
    or_later true b e = refl
    or_later false b e = e

node_is : (nodes : List (ℕ × Inode)) → Distinct (numbers nodes) → (node : ℕ × Inode) (k : ℕ) → k < length nodes → slice_index_or nodes k node ≡ node → inode_of nodes node.0 ≡ node.1
node_is [] distinct node k lt is = absurd (omega (arith, lt))
node_is (n ∷ ns) distinct node zero lt is =
    let own : (n.0 == node.0) ≡ true = subst (λ (m : ℕ × Inode). (n.0 == m.0) ≡ true) is (itself n.0) in
    ap (λ (t : Bool). cond t n.1 (inode_of ns node.0)) own ∙ ap (λ (m : ℕ × Inode). m.1) is
  where
    itself : (k : ℕ) → (k == k) ≡ true
    itself k = grind (arith, nat_tests)
node_is (n ∷ ns) distinct node (suc k) lt is = by (n.0 == node.0) refl (node_is ns distinct.1 node k (omega (arith, lt)) is) (among_at ns node k (omega (arith, lt)) is)
  where
    by : (t : Bool) → (n.0 == node.0) ≡ t → inode_of ns node.0 ≡ node.1 → is_among (numbers ns) node.0 ≡ true → cond t n.1 (inode_of ns node.0) ≡ node.1
    by true same more among =
        let e : n.0 ≡ node.0 = eqb-true n.0 node.0 same in
        let never : true ≡ false = sym among ∙ subst (λ (k : ℕ). is_among (numbers ns) k ≡ false) e distinct.0 in cc
    by false same more among = more

listed : (image : List Block) (node : ℕ × Inode) → Contains (seen image).nodes node → inode_of (seen image).nodes node.0 ≡ node.1
unfolding seen
listed image node there = node_is (seen image).nodes (numbers_distinct (blocks_in image) (root_of_image image).inode_index) node there.0 there.1 there.2

-- ---- files have no slots

pub no_slots : (image : List Block) → NoFaults (seen image).met → (n : ℕ) → directory_pairs (blocks_in image) (inode_of (seen image).nodes n) ≡ [] → slots_of (seen image) n ≡ []
unfolding seen
no_slots image none n pairs =
    let read = blocks_in image in
    let at = (root_of_image image).inode_index in
    let met = walk_good read at none in
    ap (map (λ (p : Slot × List ℕ). p.0)) (no_pieces (seen image).pages n
    (ap (λ (ms : List Met). count_by (is_of n) (all_held (page_held read) ms)) met.is ∙ skip_index (nonzero (index_at read at)) ∙ pages_at read n (nodes_at read at) (numbers_distinct read at) ∙ ap length pairs))
  where
    skip_index : (bs : List ℕ) → count_by (is_of n) (all_held (page_held (blocks_in image)) (map index bs ++ flat_map (node_trees (blocks_in image)) (nodes_at (blocks_in image) (root_of_image image).inode_index)))
        ≡ count_by (is_of n) (all_held (page_held (blocks_in image)) (flat_map (node_trees (blocks_in image)) (nodes_at (blocks_in image) (root_of_image image).inode_index)))
    skip_index [] = refl
    skip_index (b ∷ bs) = skip_index bs

-- ---- what a node tells

told_node : (x : Inode) (slots : List Slot) (width : ℕ) → option_map info (as_node x slots) ≡ Some (infos.Directory width) → (as_node x slots ≡ Some (held.Directory slots)) × (length slots ≡ width) × (kind_of x ≡ Some true)
told_node Unused slots width e = cc
told_node (File size height ptr) slots width e = cc
told_node (Directory own height ptr) slots width e = (refl, (let same : length slots ≡ width = cc in same), refl)

told_no_slots : (x : Inode) (slots : List Slot) (size : ℕ) → option_map info (as_node x slots) ≡ Some (infos.File size) → slots_held (as_node x slots) ≡ []
told_no_slots Unused slots size e = cc
told_no_slots (File own height ptr) slots size e = refl
told_no_slots (Directory width height ptr) slots size e = cc

module _ (r : Rules) (old new : List Block) (o : Overlay) (m : Machine) (report : Report) (may : MayTake r old o m report) (plan : IsPlannedFor r old new o m report)
    (old_bytes : (spot : Spot) (block : ℕ) → find spot_cmp spot m.stored_places ≡ Some block → as_block (blocks_in old block) ≡ block_at m.stored_tree spot)
    (old_pages : (n place : ℕ) → kind_of (inode_now old o n) ≡ Some true → is_kept_page old o n place ≡ true
    → IsPage (slots_now old o n) place (blocks_in old (block_of_place old (inode_before old n) place)) × IsLive old (block_of_place old (inode_before old n) place)) where
  none : NoFaults (seen new).met
  none = no_faults r old new o m report may plan

  seen_is : (n : ℕ) → inode_of (seen new).nodes n ≡ plan.inode n
  seen_is n = inodes_new r old new o m report may plan n

  -- ---- directories

  -- what is planned of a directory stands
  record Stood (n : ℕ) : Type 0 where
    height : ℕ
    ptr : ℕ
    is : plan.inode n ≡ Directory (length (slots_now old o n)) height ptr
    node : node_now old o n ≡ Some (held.Directory (slots_now old o n))
    stands : DirectoryStands (blocks_in new) (slots_now old o n) height ptr

  directory_stands : (n width height ptr : ℕ) → plan.inode n ≡ Directory width height ptr → Stood n
  directory_stands n width height ptr is =
      let tells = told_node (inode_now old o n) (slots_now old o n) width (sym (plan.inodes.kinds n) ∙ ap told is) in
      record {
        height = height;
        ptr = ptr;
        is = is ∙ ap (λ (w : ℕ). Directory w height ptr) (sym tells.1);
        node = tells.0;
        stands = of_pages tells.0 tells.2 (subst (ContentIsPlanned old new o m _ n (plan.nodes n).changes) is (plan.nodes n).content);
      }
    where
      of_pages : node_now old o n ≡ Some (held.Directory (slots_now old o n)) → kind_of (inode_now old o n) ≡ Some true → PagesArePlanned old new o n (inode_before old n) (Directory width height ptr)
          → DirectoryStands (blocks_in new) (slots_now old o n) height ptr
      of_pages node kind pages = record {
        directory = may.holds.nodes.directories n (slots_now old o n) node;
        there = pages.there;
        spelled = λ place lt. by place lt (is_kept_page old o n place) refl;
      }
        where
          by : (place : ℕ) → place < pages_for (length (slots_now old o n)) → (t : Bool) → is_kept_page old o n place ≡ t → IsPage (slots_now old o n) place (blocks_in new (block_below (blocks_in new) height ptr place))
          by place lt false kept = pages.fresh place lt kept
          by place lt true kept =
              let was = old_pages n place kind kept in
              let same : blocks_in new (block_below (blocks_in new) height ptr place) ≡ blocks_in old (block_of_place old (inode_before old n) place) =
              ap (blocks_in new) (pages.kept place lt kept) ∙ bytes_same old new _ (plan.live _ was.1) in
              subst (IsPage (slots_now old o n) place) (sym same) was.0

  -- ---- files

  record Filed (n size height ptr : ℕ) : Type 0 where
    bytes : List ℕ
    long : length bytes ≡ size
    file : HasFile m.tree n bytes

  of_file : (n size height ptr : ℕ) → plan.inode n ≡ File size height ptr → Filed n size height ptr
  of_file n size height ptr is = by has.at.content refl
    where
      used : is_used (plan.inode n) ≡ true
      used = ap is_used is

      has : HasNode m.tree plan.inode n
      has = node_of_number (node_now old o) m.tree may.coherent.tree may.holds.nodes plan.inode plan.inodes.kinds n used

      by : (c : Content) → has.at.content ≡ c → Filed n size height ptr
      by (content_of.Directory width) content = let never : Some (infos.File size) ≡ Some (infos.Directory width) = sym (ap told is) ∙ has.tells ∙ ap (λ (c : Content). Some (info_of c)) content in cc
      by (content_of.File bytes) content =
          let e : Some (infos.File size) ≡ Some (infos.File (length bytes)) = sym (ap told is) ∙ has.tells ∙ ap (λ (c : Content). Some (info_of c)) content in
          let same : size ≡ length bytes = cc in
          record { bytes = bytes; long = sym same; file = record { path = has.path; stands = has.stands ∙ (λ i. Some (record { number = has.number i; content = content i })) } }

  -- what is seen of a planned file
  file_seen : (n height ptr : ℕ) (bytes : List ℕ) → plan.inode n ≡ File (length bytes) height ptr → HasFile m.tree n bytes
      → (node_of (seen new) n (File (length bytes) height ptr) ≡ Some (record { number = n; content = content_of.File bytes })) × (has_tail (seen new) (n, File (length bytes) height ptr) ≡ false)
  file_seen n height ptr bytes is file = file_is_seen new n bytes height ptr none (seen_is n ∙ is) (file_stands r old new o m report may plan old_bytes n (length bytes) height ptr bytes is file)

  -- ---- no fault of a node

  tail_of : (n : ℕ) (x : Inode) → plan.inode n ≡ x → has_tail (seen new) (n, x) ≡ false
  tail_of n Unused is = refl
  tail_of n (Directory width height ptr) is = refl
  tail_of n (File size height ptr) is =
      let has = of_file n size height ptr is in
      subst (λ (s : ℕ). has_tail (seen new) (n, File s height ptr) ≡ false) has.long (file_seen n height ptr has.bytes (is ∙ ap (λ (s : ℕ). File s height ptr) (sym has.long)) has.file).1

  pub tails_new : (node : ℕ × Inode) → Contains (seen new).nodes node → has_tail (seen new) node ≡ false
  tails_new node there = tail_of node.0 node.1 (sym (seen_is node.0) ∙ listed new node there)

  -- the slots that are seen, up to the width, are those of now
  pub slots_new : (n width height ptr : ℕ) → plan.inode n ≡ Directory width height ptr → take width (slots_of (seen new) n) ≡ slots_now old o n
  slots_new n width height ptr is =
      let stood = directory_stands n width height ptr is in
      let long : length (slots_now old o n) ≡ width = ap width_in (sym stood.is ∙ is) in
      ap (take width) (slots_are new n (slots_now old o n) stood.height stood.ptr none (seen_is n ∙ stood.is) stood.stands)
      ∙ take-append-le width (slots_now old o n) _ (omega (arith, long)) ∙ take_all width (slots_now old o n) (omega (arith, long))

  directory_seen : (n : ℕ) → (stood : Stood n)
      → (is_bad_directory (seen new) (n, Directory (length (slots_now old o n)) stood.height stood.ptr) ≡ false) × ((name : List ℕ) → number_in (slots_of (seen new) n) name ≡ number_in (slots_now old o n) name)
  directory_seen n stood = directory_is_seen new n (slots_now old o n) stood.height stood.ptr none (seen_is n ∙ stood.is) stood.stands

  bad_of : (n : ℕ) (x : Inode) → plan.inode n ≡ x → is_bad_directory (seen new) (n, x) ≡ false
  bad_of n Unused is = refl
  bad_of n (File size height ptr) is = refl
  bad_of n (Directory width height ptr) is =
      let stood = directory_stands n width height ptr is in
      subst (λ (x : Inode). is_bad_directory (seen new) (n, x) ≡ false) (sym stood.is ∙ is) (directory_seen n stood).0

  pub directories_new : (node : ℕ × Inode) → Contains (seen new).nodes node → is_bad_directory (seen new) node ≡ false
  directories_new node there = bad_of node.0 node.1 (sym (seen_is node.0) ∙ listed new node there)

  -- ---- the tree

  node_new : (path : Path) (at : Node) (c : Content) → at.content ≡ c → node_at m.tree path ≡ Some at → node_of (seen new) at.number (plan.inode at.number) ≡ Some at
  node_new path at (content_of.Directory width) content stands =
      let tells = node_of_path (node_now old o) m.tree may.coherent.tree may.holds.nodes plan.inode plan.inodes.kinds path at stands in
      ap (node_of (seen new) at.number) (told_directory (plan.inode at.number) width (tells ∙ ap (λ (c : Content). Some (info_of c)) content)) ∙ (λ i. Some (record { number = at.number; content = sym content i }))
  node_new path at (content_of.File bytes) content stands =
      let tells = node_of_path (node_now old o) m.tree may.coherent.tree may.holds.nodes plan.inode plan.inodes.kinds path at stands in
      let is = told_file (plan.inode at.number) (length bytes) (tells ∙ ap (λ (c : Content). Some (info_of c)) content) in
      ap (node_of (seen new) at.number) is
      ∙ (file_seen at.number _ _ bytes is (record { path = path; stands = stands ∙ (λ i. Some (record { number = at.number; content = content i })) })).0
      ∙ (λ i. Some (record { number = at.number; content = sym content i }))

  slot_new : (path : Path) (at : Node) (name : List ℕ) (c : Content) → at.content ≡ c → node_at m.tree path ≡ Some at → number_in (slots_of (seen new) at.number) name ≡ number_in (slots_held (node_now old o at.number)) name
  slot_new path at name (content_of.Directory width) content stands =
      let tells = node_of_path (node_now old o) m.tree may.coherent.tree may.holds.nodes plan.inode plan.inodes.kinds path at stands in
      let stood = directory_stands at.number width _ _ (told_directory (plan.inode at.number) width (tells ∙ ap (λ (c : Content). Some (info_of c)) content)) in
      (directory_seen at.number stood).1 name ∙ sym (ap (λ h. number_in (slots_held h) name) stood.node)
  slot_new path at name (content_of.File bytes) content stands =
      let tells = node_of_path (node_now old o) m.tree may.coherent.tree may.holds.nodes plan.inode plan.inodes.kinds path at stands ∙ ap (λ (c : Content). Some (info_of c)) content in
      let is = told_file (plan.inode at.number) (length bytes) tells in
      let no_node = told_no_slots (inode_now old o at.number) (slots_now old o at.number) (length bytes) (sym (plan.inodes.kinds at.number) ∙ tells) in
      ap (λ (ss : List Slot). number_in ss name) (no_slots new none at.number (ap (directory_pairs (blocks_in new)) (seen_is at.number ∙ is))) ∙ sym (ap (λ (ss : List Slot). number_in ss name) no_node)

  pub holds_new : HoldsTree (seen new) m.tree
  holds_new = record {
    inodes = λ path at stands. ap (node_of (seen new) at.number) (seen_is at.number) ∙ node_new path at at.content refl stands;
    slots = λ path at name stands. slot_new path at name at.content refl stands ∙ may.holds.nodes.slots path at name stands;
    others = λ n used.
        let has = node_of_number (node_now old o) m.tree may.coherent.tree may.holds.nodes plan.inode plan.inodes.kinds n (ap is_used (sym (seen_is n)) ∙ used) in
        (has.path, has.at, has.stands, has.number);
  }
