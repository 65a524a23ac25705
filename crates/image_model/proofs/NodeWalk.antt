-- The whole walk, where it meets no fault: the inode index, the inode blocks, and for each node its index blocks and the blocks of its places.
use Rattle.std.proofs.Common.{◌≡◌, ℕ, suc, ◌+◌, ◌*◌, Bool, true, false, cond, List, [], ◌∷◌, ◌++◌, length, map, refl, sym, ap, subst, ◌∙◌, arith, length-append}
use Rattle.std.specs.Prelude.{◌==◌, ◌&&◌, nat_le, sum_by}
use Rattle.std.specs.List.{flat_map, list_any}
use Rattle.std.proofs.lemmas.Bool.{eqb-true}
use Rattle.std.proofs.lemmas.List.{append_assoc}
use Rattle.std.proofs.lemmas.List.Concat.{flat_map-cons}
use Rattle.std.proofs.lemmas.List.Sums.{sum_by-cons}
use Rattle.block_format.specs.Inode.{blocks_of, height_of, inode_shape}
use Rattle.block_format.specs.declared.inode.Inode.{Inode}
use Rattle.block_format.specs.declared.inode.Inode.TheVariants.{Unused, File, Directory}
use Rattle.block_tree.specs.Tree.{Blocks, index_at, pairs_below, indexes_below, nonzero, IsFull}
use Rattle.block_tree.proofs.Count.{index_count}
use Rattle.place_words.specs.Index.{index_blocks}
use Rattle.place_words.specs.Different.{different}
use Rattle.image_model.specs.Met.{Met, index, page, content, not_inode, meta_of, metas, NoFaults}
use Rattle.image_model.specs.Nodes.{AllBelow, blocks_in_node}
use Rattle.image_model.specs.Planned.{node_trees}
use Rattle.image_model.specs.Walk.{is_directory, walk, nodes_at, node_met, blocks_met, blocks_inodes, nodes_of, root_met, entries_met}
use Rattle.image_model.proofs.TreeLaws.{first_faults, other_faults, entries_good, tree_good}
use Rattle.image_model.proofs.InodeWalk.{HasShapes, groups_of, inodes_good}

-- the pairs of places and blocks of a node
abbrev pub pairs_of_node : Blocks → Inode → List (ℕ × ℕ)
pairs_of_node read Unused = []
pairs_of_node read (File size height ptr) = pairs_below read height ptr
pairs_of_node read (Directory width height ptr) = pairs_below read height ptr

-- the blocks of metadata of a node, by its places
abbrev pub node_meta : Blocks → Inode → ℕ
node_meta read Unused = 0
node_meta read (File size height ptr) = index_blocks (blocks_of size) (map (λ (e : ℕ × ℕ). e.0) (pairs_below read height ptr))
node_meta read (Directory width height ptr) = index_blocks (blocks_of (256 * width)) (map (λ (e : ℕ × ℕ). e.0) (pairs_below read height ptr)) + length (pairs_below read height ptr)

-- ---- counts of lists of what is met

pub metas_append : (xs ys : List Met) → metas (xs ++ ys) ≡ metas xs ++ metas ys
metas_append [] ys = refl
metas_append (x ∷ xs) ys = ap (λ (bs : List ℕ). meta_of x ++ bs) (metas_append xs ys) ∙ sym (append_assoc (meta_of x) (metas xs) (metas ys))

metas_index : (bs : List ℕ) → length (metas (map index bs)) ≡ length bs
metas_index [] = refl
metas_index (b ∷ bs) = ap suc (metas_index bs)

metas_content : (n : ℕ) (pairs : List (ℕ × ℕ)) → length (metas (map (λ (e : ℕ × ℕ). content n e.0 e.1) pairs)) ≡ 0
metas_content n [] = refl
metas_content n (e ∷ pairs) = metas_content n pairs

metas_page : (n : ℕ) (pairs : List (ℕ × ℕ)) → length (metas (map (λ (e : ℕ × ℕ). page n e.0 e.1) pairs)) ≡ length pairs
metas_page n [] = refl
metas_page n (e ∷ pairs) = ap suc (metas_page n pairs)

metas_both : (xs ys : List Met) → length (metas (xs ++ ys)) ≡ length (metas xs) + length (metas ys)
metas_both xs ys = ap (λ (bs : List ℕ). length bs) (metas_append xs ys) ∙ length-append (metas xs) (metas ys)

-- ---- one node

second : (a b c : Bool) → (a && (b && c)) ≡ true → b ≡ true
second true true c e = refl
second true false c e = e
second false b c e = cc

-- What is met below a node, and its number of blocks of metadata.
pub record NodeMet (read : Blocks) (node : ℕ × Inode) : Type 0 where
  pub is : node_met read node ≡ node_trees read node
  pub meta : length (metas (node_trees read node)) ≡ node_meta read node.1
  pub below : AllBelow (blocks_in_node node.1) (pairs_of_node read node.1)

-- a tree of the right height has as many index blocks as its places need
indexes_right : (read : Blocks) (blocks height ptr : ℕ) → height ≡ height_of blocks → IsFull read (indexes_below read height ptr) → length (indexes_below read height ptr) ≡ index_blocks blocks (map (λ (e : ℕ × ℕ). e.0) (pairs_below read height ptr))
indexes_right read blocks height ptr is full =
    subst (λ (h : ℕ). length (indexes_below read h ptr) ≡ index_blocks blocks (map (λ (e : ℕ × ℕ). e.0) (pairs_below read h ptr))) (sym is) (index_count read ptr blocks (subst (λ (h : ℕ). IsFull read (indexes_below read h ptr)) is full))

pub node_good : (read : Blocks) (node : ℕ × Inode) → inode_shape node.1 ≡ true → NoFaults (node_met read node) → NodeMet read node
node_good read (n, Unused) shape none = record { is = refl; meta = refl; below = tt }
node_good read (n, File size height ptr) shape none =
    let tree = tree_good read (content n) (blocks_of size) height ptr none in
    let high : height ≡ height_of (blocks_of size) = eqb-true height (height_of (blocks_of size)) (second (nat_le size 4294967296) (height == height_of (blocks_of size)) _ shape) in
    record {
      is = tree.is;
      meta = omega (arith, metas_both (map index (indexes_below read height ptr)) (map (λ (e : ℕ × ℕ). content n e.0 e.1) (pairs_below read height ptr)), metas_index (indexes_below read height ptr), metas_content n (pairs_below read height ptr), indexes_right read (blocks_of size) height ptr high tree.full);
      below = tree.below;
    }
node_good read (n, Directory width height ptr) shape none =
    let tree = tree_good read (page n) (blocks_of (256 * width)) height ptr none in
    let high : height ≡ height_of (blocks_of (256 * width)) = eqb-true height (height_of (blocks_of (256 * width))) (second (nat_le width 65534) (height == height_of (blocks_of (256 * width))) _ shape) in
    record {
      is = tree.is;
      meta = omega (arith, metas_both (map index (indexes_below read height ptr)) (map (λ (e : ℕ × ℕ). page n e.0 e.1) (pairs_below read height ptr)), metas_index (indexes_below read height ptr), metas_page n (pairs_below read height ptr), indexes_right read (blocks_of (256 * width)) height ptr high tree.full);
      below = tree.below;
    }

-- ---- all nodes

abbrev pub AllMet : Blocks → List (ℕ × Inode) → Type 0
AllMet read [] = Unit {0}
AllMet read (node ∷ nodes) = NodeMet read node × AllMet read nodes

pub nodes_good : (read : Blocks) (nodes : List (ℕ × Inode)) → HasShapes nodes → NoFaults (flat_map (node_met read) nodes) → AllMet read nodes
nodes_good read [] shapes none = tt
nodes_good read (node ∷ nodes) shapes none =
    let parts : NoFaults (node_met read node ++ flat_map (node_met read) nodes) = subst NoFaults (flat_map-cons (node_met read) node nodes) none in
    (node_good read node shapes.0.0 (first_faults (node_met read node) (flat_map (node_met read) nodes) parts), nodes_good read nodes shapes.1 (other_faults (node_met read node) (flat_map (node_met read) nodes) parts))

pub nodes_are : (read : Blocks) (nodes : List (ℕ × Inode)) → AllMet read nodes → flat_map (node_met read) nodes ≡ flat_map (node_trees read) nodes
nodes_are read [] all = refl
nodes_are read (node ∷ nodes) all = flat_map-cons (node_met read) node nodes ∙ (λ i. all.0.is i ++ nodes_are read nodes all.1 i) ∙ sym (flat_map-cons (node_trees read) node nodes)

pub nodes_meta : (read : Blocks) (nodes : List (ℕ × Inode)) → AllMet read nodes → length (metas (flat_map (node_trees read) nodes)) ≡ sum_by (λ (node : ℕ × Inode). node_meta read node.1) nodes
nodes_meta read [] all = refl
nodes_meta read (node ∷ nodes) all =
    omega (arith, ap (λ (ms : List Met). length (metas ms)) (flat_map-cons (node_trees read) node nodes), metas_both (node_trees read node) (flat_map (node_trees read) nodes), all.0.meta, nodes_meta read nodes all.1, sum_by-cons (λ (node : ℕ × Inode). node_meta read node.1) node nodes)

-- ---- the whole walk

root_none : (t : Bool) → NoFaults (cond t [] (not_inode 1 ∷ [])) → cond t [] (not_inode 1 ∷ []) ≡ []
root_none true none = refl
root_none false none = absurd none.0

root_test : (t : Bool) → NoFaults (cond t [] (not_inode 1 ∷ [])) → t ≡ true
root_test true none = refl
root_test false none = absurd none.0

-- The walk over an image in which no fault is met.
pub record WalkMet (read : Blocks) (at : ℕ) : Type 0 where
  pub root : list_any (λ (node : ℕ × Inode). node.0 == 1 && is_directory node.1) (nodes_at read at) ≡ true
  pub shapes : HasShapes (nodes_at read at)
  pub nodes : AllMet read (nodes_at read at)
  pub is : walk read at ≡ index at ∷ (map index (nonzero (index_at read at)) ++ flat_map (node_trees read) (nodes_at read at))
  pub meta : length (metas (walk read at)) ≡ 1 + different (groups_of (nodes_at read at)) + sum_by (λ (node : ℕ × Inode). node_meta read node.1) (nodes_at read at)

pub walk_good : (read : Blocks) (at : ℕ) → NoFaults (walk read at) → WalkMet read at
unfolding walk
walk_good read at none =
    let es = index_at read at in
    let nodes = nodes_of (blocks_inodes read 0 es) in
    let entries = entries_met es in
    let blocks = blocks_met read 0 es in
    let root = root_met nodes in
    let trees = flat_map (node_met read) nodes in
    let behind = other_faults entries (blocks ++ (root ++ trees)) none.1 in
    let inodes = inodes_good read 0 es (first_faults blocks (root ++ trees) behind) in
    let after = other_faults blocks (root ++ trees) behind in
    let rooted = root_none _ (first_faults root trees after) in
    let all = nodes_good read nodes inodes.shapes (other_faults root trees after) in
    let is : walk read at ≡ index at ∷ (map index (nonzero es) ++ flat_map (node_trees read) nodes) = λ i. index at ∷ (entries_good es i ++ (inodes.none i ++ (rooted i ++ nodes_are read nodes all i))) in
    record {
      root = root_test _ (first_faults root trees after);
      shapes = inodes.shapes;
      nodes = all;
      is = is;
      meta = omega (arith, ap (λ (ms : List Met). length (metas ms)) is, metas_both (map index (nonzero es)) (flat_map (node_trees read) nodes), metas_index (nonzero es), inodes.count, nodes_meta read nodes all);
    }
