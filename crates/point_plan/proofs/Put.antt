-- What the steps of planning give is the plan of a point, in each image that carries it.
use Rattle.std.proofs.Common.{◌≡◌, ℕ, ◌+◌, ◌*◌, ◌<◌, ◌≤◌, true, false, List, ◌++◌, length, get_or, Some, refl, sym, ap, subst, ◌∙◌, arith}
use Rattle.std.specs.Prelude.{slice_index, option_map}
use Rattle.std.specs.FinMap.{find}
use Rattle.std.specs.List.{flat_map}
use Rattle.vol_numbers.specs.Geometry.{layout_of}
use Rattle.vol_numbers.specs.Layout.{Layout, count_blocks}
use Rattle.vol_numbers.specs.declared.block.Block.{Block}
use Rattle.vol_numbers.specs.declared.runs.Page.{Page}
use Rattle.block_format.specs.Root.{Root, root_of}
use Rattle.block_format.specs.declared.inode.Inode.{Inode}
use Rattle.block_tree.specs.Notes.{Stand}
use Rattle.block_tree.specs.Tree.{blocks_in}
use Rattle.block_tree.specs.declared.plan.Rewritten.{Rewritten}
use Rattle.count_pairs.specs.Table.{AllStand}
use Rattle.dirty_store.specs.Overlay.{Overlay}
use Rattle.image_model.specs.Plan.{inode_pointers}
use Rattle.image_model.specs.Seen.{seen}
use Rattle.image_model.specs.Stands.{Stands, layout_in}
use Rattle.image_model.specs.Walk.{is_used}
use Rattle.inode_file.specs.Inodes.{InodeTable, IsTable, Stands as InodesStand, inode_of}
use Rattle.node_table.specs.Held.{info}
use Rattle.place_words.specs.Different.{is_among, span, times}
use Rattle.point_model.specs.Holding.{inode_before, node_now}
use Rattle.point_model.specs.NodePlan.{node_pointers}
use Rattle.point_model.specs.PointPlan.{CountsArePlanned, InodesArePlanned, NodeIsPlanned, PointIsPlanned, RootIsPlanned, of_all, told}
use Rattle.point_model.proofs.Counted.{all_balance, counts_are_pointers}
use Rattle.point_plan.specs.Carries.{Carries}
use Rattle.point_plan.specs.Made.{IsMade, taken_by}
use Rattle.point_plan.specs.Nodes.{added_in, all_added, all_dropped, dropped_in, inode_or, planned_of}
use Rattle.point_plan.specs.declared.planned.Plan.{Plan}
use Rattle.point_plan.proofs.CountsPlanned.{listed}
use Rattle.point_plan.proofs.InodesPlanned.{inodes_planned}
use Rattle.point_plan.proofs.Times.{times_append}
use Rattle.root_switch.specs.Current.{root_of_image}
use Rattle.volume_model.specs.Machine.{Machine, stored}
use Rattle.volume_model.specs.Places.{Places, Spot, spot_cmp}

no_more : (kept before come added after go dropped : ℕ) → kept ≡ before → before + come ≡ after + go → come ≡ added → go ≡ dropped → dropped ≤ kept + added
no_more kept before come added after go dropped e f g h = omega (arith, e, f, g, h)

all_moved : (seen_before kept come added count go dropped : ℕ) → seen_before ≡ kept → come ≡ added → go ≡ dropped → kept + added ≡ count + dropped → seen_before + come ≡ count + go
all_moved seen_before kept come added count go dropped e f g h = omega (arith, e, f, g, h)

module _ (old new : List Block) (o : Overlay) (m : Machine) (placed : Places) (fresh : List ℕ) (was t : InodeTable) (kept counts : List ℕ) (plan : Plan) (w : Rewritten)
    (stands : Stands old (stored m)) (made : IsMade old o m placed fresh was t kept counts plan w) (carries : Carries old new o plan counts) where
  abbrev inode : ℕ → Inode
  inode = inode_of t.inodes

  abbrev come : ℕ → List ℕ
  come n = added_in (planned_of plan.nodes n)

  abbrev go : ℕ → List ℕ
  go n = dropped_in (planned_of plan.nodes n)

  abbrev take_for : ℕ → List ℕ
  take_for n = taken_by (planned_of plan.nodes n)

  root_is : (A : Type 0) (f : Root → A) → f (root_of_image new) ≡ f (record (root_of plan.root) { homes = (root_of_image new).homes })
  root_is A f = ap f carries.root

  layout_new : layout_in new ≡ layout_in old
  layout_new = root_is Layout (λ (r : Root). r.layout) ∙ made.root.layout

  pub root_planned : RootIsPlanned old new m
  root_planned = record {
    there = carries.there;
    fits = carries.fits;
    layout = layout_new;
    point = root_is ℕ (λ (r : Root). r.point) ∙ made.root.point;
    records = root_is ℕ (λ (r : Root). r.records) ∙ made.root.records;
    log_used = root_is ℕ (λ (r : Root). r.log_used) ∙ made.root.log_used;
  }

  index_new : (root_of_image new).inode_index ≡ t.index
  index_new = root_is ℕ (λ (r : Root). r.inode_index) ∙ made.root.index

  module _ (before : (n : ℕ) → inode_of was.inodes n ≡ inode_before old n) where
    inode_is : (n : ℕ) → inode n ≡ inode_or (planned_of plan.nodes n) (inode_before old n)
    inode_is n = made.inodes.inodes n ∙ ap (inode_or (planned_of plan.nodes n)) (before n)

    pub node_planned : (n : ℕ) → NodeIsPlanned old new o m placed n (inode n) (come n) (go n) (take_for n)
    node_planned n = subst (λ (x : Inode). NodeIsPlanned old new o m placed n x (come n) (go n) (take_for n)) (sym (inode_is n)) (made.nodes.each new carries.live carries.nodes n)

    pub kinds : (n : ℕ) → told (inode n) ≡ option_map info (node_now old o n)
    kinds n = ap told (inode_is n) ∙ made.nodes.kinds n

    -- where the old table stood in the old image, and the counts are those of it
    module _ (whole_was : IsTable was) (stood : InodesStand (blocks_in old) was) (index_was : (root_of_image old).inode_index ≡ was.index) (zero_unused : is_used (inode 0) ≡ false) (kept_is : kept ≡ (seen old).kept) (kept_long : length kept ≡ 1024 * count_blocks (layout_in old)) (stays : InodesStand (blocks_in new) was) where
      stands_new : InodesStand (blocks_in new) t
      stands_new = made.inodes.stored (blocks_in new) (subst (λ (ps : List Page). Stand ps (blocks_in new)) made.pages carries.inode_pages) stays

      pub inodes_are_planned : InodesArePlanned old new o inode w.added w.dropped
      inodes_are_planned =
          inodes_planned old new o was t w.added w.dropped whole_was made.inodes.whole stood index_was stands_new index_new (sym made.inodes.settled) made.inodes.some made.inodes.small zero_unused kinds made.inodes.pointers

      layouts : layout_of plan.root.geometry ≡ layout_in new
      layouts = made.root.layout ∙ sym layout_new

      come_listed : (b : ℕ) → times b (of_all w.added come) ≡ times b (w.added ++ all_added plan.nodes)
      come_listed b =
          let one = times_append b w.added (flat_map come (span 0 65536)) in
          let two = times_append b w.added (all_added plan.nodes) in
          let same = listed added_in refl b plan.nodes made.nodes.ascend in
          omega (arith, one, two, same)

      go_listed : (b : ℕ) → times b (of_all w.dropped go) ≡ times b (w.dropped ++ all_dropped plan.nodes)
      go_listed b =
          let one = times_append b w.dropped (flat_map go (span 0 65536)) in
          let two = times_append b w.dropped (all_dropped plan.nodes) in
          let same = listed dropped_in refl b plan.nodes made.nodes.ascend in
          omega (arith, one, two, same)

      -- no more pointers go than there are
      enough : (b : ℕ) → b < 1024 * count_blocks (layout_in old) → times b (w.dropped ++ all_dropped plan.nodes) ≤ slice_index kept b + times b (w.added ++ all_added plan.nodes)
      enough b lt =
          let sums = all_balance 65536 b (inode_pointers old) (inode_pointers new) w.added w.dropped (λ k. node_pointers old (inode_before old k)) (λ k. node_pointers new (inode k)) come go
          (inodes_are_planned.balance b) (λ n. (node_planned n).pointers.balance b) in
          let counted = counts_are_pointers old (stored m) stands b lt in
          let same : slice_index kept b ≡ get_or (seen old).kept b 0 = ap (λ (ks : List ℕ). slice_index ks b) kept_is in
          no_more _ _ _ _ _ _ _ (same ∙ counted) sums (come_listed b) (go_listed b)

      pub counts_are_planned : CountsArePlanned old new counts (of_all w.added come) (of_all w.dropped go)
      counts_are_planned = record {
        many = made.moved.long ∙ kept_long ∙ ap (λ (g : Layout). 1024 * count_blocks g) (sym layout_new);
        stand = subst (λ (g : Layout). AllStand (blocks_in new) (root_of_image new).homes (count_blocks g) counts) layouts carries.counts_stand;
        moved = λ b lt.
            let below : b < 1024 * count_blocks (layout_in old) = subst (λ (g : Layout). b < 1024 * count_blocks g) layout_new lt in
            let same : slice_index kept b ≡ get_or (seen old).kept b 0 = ap (λ (ks : List ℕ). slice_index ks b) kept_is in
            let moved = made.moved.moved b (omega (arith, kept_long, below)) (record { fits = made.moved.fits b; some = enough b below }) in
            all_moved _ _ _ _ _ _ _ (sym same) (come_listed b) (go_listed b) moved;
      }

      -- All of it, where each fresh block holds what is staged.
      unfoldable pub point_is_planned : ((spot : Spot) (block : ℕ) (staged : Block) → find spot_cmp spot placed ≡ Some block → is_among fresh block ≡ true → find spot_cmp spot o.blocks ≡ Some staged → blocks_in new block ≡ staged.bytes)
          → PointIsPlanned old new o m placed fresh
      point_is_planned written = record {
        root = root_planned;
        live = carries.live;
        inode = inode;
        inodes_added = w.added;
        inodes_dropped = w.dropped;
        added = come;
        dropped = go;
        taken = take_for;
        inodes = inodes_are_planned;
        nodes = node_planned;
        counts = counts;
        counted = counts_are_planned;
        free = made.free;
        written = written;
      }
