-- The trees of an image that stands for something, and that their index blocks are live.
use Rattle.std.proofs.Common.{◌≡◌, ℕ, ◌*◌, ◌<◌, Bool, true, false, cond, List, [], ◌∷◌, ◌++◌, map, subst, arith}
use Rattle.std.specs.Prelude.{◌==◌}
use Rattle.std.specs.List.{flat_map}
use Rattle.std.proofs.lemmas.List.Concat.{flat_map-cons}
use Rattle.std.proofs.lemmas.Bool.Decides.{nat_tests}
use Rattle.vol_numbers.specs.Layout.{Layout, count_blocks}
use Rattle.vol_numbers.specs.declared.block.Block.{Block}
use Rattle.block_format.specs.Inode.{blocks_of, pointer_of}
use Rattle.block_format.specs.declared.inode.Inode.{Inode}
use Rattle.block_format.specs.declared.inode.Inode.TheVariants.{Unused, File, Directory}
use Rattle.block_tree.specs.Tree.{Blocks, blocks_in, index_at, nonzero, pairs_below, indexes_below, IsFull}
use Rattle.root_switch.specs.Current.{root_of_image}
use Rattle.image_model.specs.Findings.{is_in_area}
use Rattle.image_model.specs.Live.{counted}
use Rattle.image_model.specs.Met.{Met, index, page, content, past, empty, not_inode, stray, NoFaults}
use Rattle.image_model.specs.Nodes.{AllBelow, blocks_in_node}
use Rattle.image_model.specs.Planned.{height_in, node_trees}
use Rattle.image_model.specs.Seen.{seen}
use Rattle.image_model.specs.Slots.{inode_of}
use Rattle.image_model.specs.Sound.{IsGood, AllGood, IsSound}
use Rattle.image_model.specs.Stands.{layout_in}
use Rattle.image_model.specs.Walk.{walk, nodes_at, node_met, entries_met, blocks_met, blocks_inodes, nodes_of, root_met}
use Rattle.image_model.proofs.Area.{no_faults as none_found}
use Rattle.image_model.proofs.Kept.{bytes_same}
use Rattle.image_model.proofs.NodeWalk.{pairs_of_node, walk_good}
use Rattle.image_model.proofs.SpaceLaws.{below_at}
use Rattle.image_model.proofs.TreeLaws.{first_faults, other_faults, tree_good}
use Rattle.point_model.specs.Holding.{inode_before}
use Rattle.point_model.specs.PointPlan.{LiveStays}
use Rattle.tree_plan.specs.Trees.{IsFullTree}
use Rattle.node_plan.proofs.SameTrees.{Same}

area_counted : (g : Layout) (b : ℕ) → is_in_area g b ≡ true → b < 1024 * count_blocks g
area_counted g b is = let lt : b < g.blocks = grind (arith, nat_tests) in omega arith

-- ---- trees are full, and end where the node does

abbrev Full : Blocks → Inode → Type 0
Full read x = IsFull read (indexes_below read (height_in x) (pointer_of x))

node_full : (read : Blocks) (n : ℕ) (x : Inode) → NoFaults (node_met read (n, x)) → Full read x
node_full read n Unused none = tt
node_full read n (File size height ptr) none = (tree_good read (content n) (blocks_of size) height ptr none).full
node_full read n (Directory width height ptr) none = (tree_good read (page n) (blocks_of (256 * width)) height ptr none).full

nodes_full : (read : Blocks) (nodes : List (ℕ × Inode)) → NoFaults (flat_map (node_met read) nodes) → (n : ℕ) → Full read (inode_of nodes n)
nodes_full read [] none n = tt
nodes_full read ((m, x) ∷ nodes) none n =
    let parts : NoFaults (node_met read (m, x) ++ flat_map (node_met read) nodes) = subst NoFaults (flat_map-cons (node_met read) (m, x) nodes) none in
    by (m == n) (node_full read m x (first_faults (node_met read (m, x)) (flat_map (node_met read) nodes) parts)) (nodes_full read nodes (other_faults (node_met read (m, x)) (flat_map (node_met read) nodes) parts) n)
  where
    by : (t : Bool) → Full read x → Full read (inode_of nodes n) → Full read (cond t x (inode_of nodes n))
    by true here more = here
    by false here more = more

trees_clear : (read : Blocks) (at : ℕ) → NoFaults (walk read at) → NoFaults (flat_map (node_met read) (nodes_at read at))
unfolding walk
trees_clear read at none =
    let es = index_at read at in
    let nodes = nodes_of (blocks_inodes read 0 es) in
    let entries = entries_met es in
    let blocks = blocks_met read 0 es in
    let trees = flat_map (node_met read) nodes in
    let behind = other_faults entries (blocks ++ (root_met nodes ++ trees)) none.1 in
    other_faults (root_met nodes) trees (other_faults blocks (root_met nodes ++ trees) behind)

below_of : (read : Blocks) (x : Inode) → AllBelow (blocks_in_node x) (pairs_of_node read x) → AllBelow (blocks_in_node x) (pairs_below read (height_in x) (pointer_of x))
below_of read Unused below = tt
below_of read (File size height ptr) below = below
below_of read (Directory width height ptr) below = below

module _ (old : List Block) (sound : IsSound (layout_in old) (seen old)) where
  none : NoFaults (seen old).met
  none = none_found (layout_in old) (seen old).met (seen old).met sound.pointers

  pub tree_full : (n : ℕ) → IsFullTree old (inode_before old n)
  unfolding seen none
  tree_full n = nodes_full (blocks_in old) (nodes_at (blocks_in old) (root_of_image old).inode_index) (trees_clear (blocks_in old) (root_of_image old).inode_index none) n

  pub tree_below : (n : ℕ) → AllBelow (blocks_in_node (inode_before old n)) (pairs_below (blocks_in old) (height_in (inode_before old n)) (pointer_of (inode_before old n)))
  unfolding seen none
  tree_below n = below_of (blocks_in old) (inode_before old n) (below_at (blocks_in old) (nodes_at (blocks_in old) (root_of_image old).inode_index) (walk_good (blocks_in old) (root_of_image old).inode_index none).nodes n)

  -- ---- index blocks are live

  module _ (new : List Block) (live : LiveStays old new) where
    SameAt : Met → Type 0
    SameAt (index b) = blocks_in new b ≡ blocks_in old b
    SameAt (page n place b) = Unit {0}
    SameAt (content n place b) = Unit {0}
    SameAt (past b) = Unit {0}
    SameAt (empty b) = Unit {0}
    SameAt (not_inode n) = Unit {0}
    SameAt (stray n p) = Unit {0}

    AllSame : List Met → Type 0
    AllSame [] = Unit {0}
    AllSame (m ∷ ms) = SameAt m × AllSame ms

    positive : (kept pointers : ℕ) → kept ≡ pointers → pointers ≡ 1 → 0 < kept
    positive kept pointers e f = omega (arith, e, f)

    good_at : (m : Met) → IsGood (layout_in old) (seen old).met m → SameAt m
    unfolding SameAt
    good_at (index b) good = bytes_same old new b (live b (counted b good.0 (positive _ _ (sound.counts b (area_counted (layout_in old) b good.0)) good.1)))
    good_at (page n place b) good = tt
    good_at (content n place b) good = tt
    good_at (past b) good = tt
    good_at (empty b) good = tt
    good_at (not_inode n) good = tt
    good_at (stray n p) good = tt

    all_good : (ms : List Met) → AllGood (layout_in old) (seen old).met ms → AllSame ms
    unfolding AllSame
    all_good [] good = tt
    all_good (m ∷ ms) good = (good_at m good.0, all_good ms good.1)

    front : (xs ys : List Met) → AllSame (xs ++ ys) → AllSame xs
    unfolding AllSame
    front [] ys all = tt
    front (x ∷ xs) ys all = (all.0, front xs ys all.1)

    rest : (xs ys : List Met) → AllSame (xs ++ ys) → AllSame ys
    unfolding AllSame
    rest [] ys all = all
    rest (x ∷ xs) ys all = rest xs ys all.1

    from_indexes : (bs : List ℕ) → AllSame (map index bs) → Same (blocks_in old) (blocks_in new) bs
    unfolding AllSame SameAt
    from_indexes [] all = tt
    from_indexes (b ∷ bs) all = (all.0, from_indexes bs all.1)

    abbrev SameTree : Inode → Type 0
    SameTree x = Same (blocks_in old) (blocks_in new) (indexes_below (blocks_in old) (height_in x) (pointer_of x))

    of_node : (n : ℕ) (x : Inode) → AllSame (node_trees (blocks_in old) (n, x)) → SameTree x
    of_node n Unused all = tt
    of_node n (File size height ptr) all = from_indexes (indexes_below (blocks_in old) height ptr) (front (map index (indexes_below (blocks_in old) height ptr)) _ all)
    of_node n (Directory width height ptr) all = from_indexes (indexes_below (blocks_in old) height ptr) (front (map index (indexes_below (blocks_in old) height ptr)) _ all)

    of_nodes : (nodes : List (ℕ × Inode)) → AllSame (flat_map (node_trees (blocks_in old)) nodes) → (n : ℕ) → SameTree (inode_of nodes n)
    of_nodes [] all n = tt
    of_nodes ((m, x) ∷ nodes) all n =
        let parts : AllSame (node_trees (blocks_in old) (m, x) ++ flat_map (node_trees (blocks_in old)) nodes) = subst AllSame (flat_map-cons (node_trees (blocks_in old)) (m, x) nodes) all in
        by (m == n) (of_node m x (front (node_trees (blocks_in old) (m, x)) _ parts)) (of_nodes nodes (rest (node_trees (blocks_in old) (m, x)) _ parts) n)
      where
        by : (t : Bool) → SameTree x → SameTree (inode_of nodes n) → SameTree (cond t x (inode_of nodes n))
        by true here more = here
        by false here more = more

    -- the index blocks of a node are as they were
    pub tree_stays : (n : ℕ) → SameTree (inode_before old n)
    unfolding seen none AllSame
    tree_stays n =
        let at = (root_of_image old).inode_index in
        let nodes = nodes_at (blocks_in old) at in
        let all : AllSame (index at ∷ (map index (nonzero (index_at (blocks_in old) at)) ++ flat_map (node_trees (blocks_in old)) nodes)) =
        subst AllSame (walk_good (blocks_in old) at none).is (all_good (seen old).met sound.pointers) in
        of_nodes nodes (rest (map index (nonzero (index_at (blocks_in old) at))) _ all.1) n
