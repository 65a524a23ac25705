-- An image that stands for something is spelled with the inodes that are seen.
use Rattle.std.proofs.Common.{◌≡◌, ℕ, ◌-◌, ◌*◌, ◌<◌, ◌≤◌, Bool, true, false, cond, List, [], ◌∷◌, ◌++◌, length, take, refl, ap, subst, ◌∙◌, arith}
use Rattle.std.specs.Prelude.{◌==◌}
use Rattle.std.specs.List.{flat_map}
use Rattle.std.proofs.lemmas.Bool.Decides.{nat_tests}
use Rattle.std.proofs.lemmas.List.{length-take}
use Rattle.std.proofs.lemmas.List.Concat.{flat_map-cons}
use Rattle.vol_numbers.specs.Layout.{area_start}
use Rattle.root_switch.specs.Current.{root_of_image}
use Rattle.block_format.specs.Words.{words}
use Rattle.block_format.specs.Inode.{blocks_of, inode_shape, pointer_of}
use Rattle.block_format.specs.declared.inode.Inode.{Inode}
use Rattle.block_format.specs.declared.inode.Inode.TheVariants.{Unused, File, Directory}
use Rattle.block_tree.specs.Tree.{Blocks, index_at, pairs_below, indexes_below, IsFull, blocks_in}
use Rattle.image_model.specs.Findings.{is_in_area}
use Rattle.image_model.specs.Met.{page, content, NoFaults}
use Rattle.image_model.specs.Nodes.{AllBelow, blocks_in_node}
use Rattle.image_model.specs.Planned.{height_in, IsSpelled}
use Rattle.image_model.specs.Reading.{SeenIsSpelled}
use Rattle.image_model.specs.Seen.{seen}
use Rattle.image_model.specs.Slots.{inode_of}
use Rattle.image_model.specs.Stands.{layout_in}
use Rattle.image_model.specs.Walk.{is_used, walk, nodes_at, node_met, blocks_met, blocks_inodes, nodes_of, root_met, entries_met}
use Rattle.image_model.proofs.Area.{no_faults}
use Rattle.image_model.proofs.InodesRead.{blocks_fine, nodes_small, small_at, inodes_stand}
use Rattle.image_model.proofs.InodeWalk.{HasShapes}
use Rattle.image_model.proofs.NodePlaces.{numbers_distinct}
use Rattle.image_model.proofs.NodeWalk.{pairs_of_node, walk_good}
use Rattle.image_model.proofs.SpaceLaws.{below_at}
use Rattle.image_model.proofs.NodesSeen.{root_directory}
use Rattle.image_model.proofs.StandingTree.{shape_there}
use Rattle.image_model.proofs.TreeLaws.{first_faults, other_faults, tree_good}

words_long : (n : ℕ) (bytes : List ℕ) → length bytes ≡ 4 * n → length (words bytes) ≡ n
unfolding words
words_long n [] long = omega (arith, long)
words_long n (a ∷ []) long = absurd (omega (arith, long))
words_long n (a ∷ b ∷ []) long = absurd (omega (arith, long))
words_long n (a ∷ b ∷ c ∷ []) long = absurd (omega (arith, long))
words_long n (a ∷ b ∷ c ∷ d ∷ rest) long = omega (arith, long, words_long (n - 1) rest (omega (arith, long)))

-- an index block has 1,024 pointers
index_long : (read : Blocks) (at : ℕ) → 0 < at → length (read at) ≡ 4096 → length (index_at read at) ≡ 1024
index_long read at lt long =
    let some : (at == 0) ≡ false = grind (arith, nat_tests) in
    ap (λ (t : Bool). length (cond t [] (take 1024 (words (read at))))) some ∙ omega (arith, length-take 1024 (words (read at)), words_long 1024 (read at) (omega (arith, long)))

shape_of : (nodes : List (ℕ × Inode)) → HasShapes nodes → (n : ℕ) → inode_shape (inode_of nodes n) ≡ true
shape_of nodes shapes n = by (inode_of nodes n) refl (shape_there nodes shapes n)
  where
    by : (x : Inode) → inode_of nodes n ≡ x → (is_used (inode_of nodes n) ≡ true → inode_shape (inode_of nodes n) ≡ true) → inode_shape (inode_of nodes n) ≡ true
    by Unused is more = ap inode_shape is
    by (File size height ptr) is more = more (ap is_used is)
    by (Directory width height ptr) is more = more (ap is_used is)

zero_unused : (nodes : List (ℕ × Inode)) → HasShapes nodes → is_used (inode_of nodes 0) ≡ false
zero_unused [] shapes = refl
zero_unused (node ∷ nodes) shapes =
    let some = shapes.0.1 in
    let apart : (node.0 == 0) ≡ false = grind (arith, nat_tests) in
    ap (λ (t : Bool). is_used (cond t node.1 (inode_of nodes 0))) apart ∙ zero_unused nodes shapes.1

-- ---- trees

abbrev Full : Blocks → Inode → Type 0
Full read x = IsFull read (indexes_below read (height_in x) (pointer_of x))

node_full : (read : Blocks) (n : ℕ) (x : Inode) → NoFaults (node_met read (n, x)) → Full read x
node_full read n Unused none = tt
node_full read n (File size height ptr) none = (tree_good read (content n) (blocks_of size) height ptr none).full
node_full read n (Directory width height ptr) none = (tree_good read (page n) (blocks_of (256 * width)) height ptr none).full

full_at : (read : Blocks) (nodes : List (ℕ × Inode)) → NoFaults (flat_map (node_met read) nodes) → (n : ℕ) → Full read (inode_of nodes n)
full_at read [] none n = tt
full_at read ((m, x) ∷ nodes) none n =
    let parts : NoFaults (node_met read (m, x) ++ flat_map (node_met read) nodes) = subst NoFaults (flat_map-cons (node_met read) (m, x) nodes) none in
    by (m == n) (node_full read m x (first_faults (node_met read (m, x)) (flat_map (node_met read) nodes) parts)) (full_at read nodes (other_faults (node_met read (m, x)) (flat_map (node_met read) nodes) parts) n)
  where
    by : (t : Bool) → Full read x → Full read (inode_of nodes n) → Full read (cond t x (inode_of nodes n))
    by true here more = here
    by false here more = more

below_of : (read : Blocks) (x : Inode) → AllBelow (blocks_in_node x) (pairs_of_node read x) → AllBelow (blocks_in_node x) (pairs_below read (height_in x) (pointer_of x))
below_of read Unused below = tt
below_of read (File size height ptr) below = below
below_of read (Directory width height ptr) below = below

-- ---- all of it

-- What isn't met in the inode blocks and below them.
record Clear (read : Blocks) (at : ℕ) : Type 0 where
  pub inodes : NoFaults (blocks_met read 0 (index_at read at))
  pub trees : NoFaults (flat_map (node_met read) (nodes_at read at))

clear : (read : Blocks) (at : ℕ) → NoFaults (walk read at) → Clear read at
unfolding walk
clear read at none =
    let es = index_at read at in
    let nodes = nodes_of (blocks_inodes read 0 es) in
    let entries = entries_met es in
    let blocks = blocks_met read 0 es in
    let trees = flat_map (node_met read) nodes in
    let behind = other_faults entries (blocks ++ (root_met nodes ++ trees)) none.1 in
    record {
      inodes = first_faults blocks (root_met nodes ++ trees) behind;
      trees = other_faults (root_met nodes) trees (other_faults blocks (root_met nodes ++ trees) behind);
    }

spelled_back : (read : Blocks) (at : ℕ) → ((b : ℕ) → length (read b) ≡ 4096) → 0 < at → NoFaults (walk read at) → IsSpelled read at (inode_of (nodes_at read at))
spelled_back read at whole some none =
    let nodes = nodes_at read at in
    let met = walk_good read at none in
    let parts = clear read at none in
    record {
      spellings = record {
        shapes = shape_of nodes met.shapes;
        pointers = small_at nodes (nodes_small (blocks_inodes read 0 (index_at read at)) (blocks_fine read 0 (index_at read at) parts.inodes));
        zero_unused = zero_unused nodes met.shapes;
      };
      count = index_long read at some (whole at);
      inodes = inodes_stand read whole (inode_of nodes) 0 (index_at read at) parts.inodes (λ n le. refl);
      root = root_directory nodes (numbers_distinct read at) met.root;
      full = full_at read nodes parts.trees;
      below = λ n. below_of read (inode_of nodes n) (below_at read nodes met.nodes n);
    }

pub seen_is_spelled : SeenIsSpelled
unfolding seen walk
seen_is_spelled image s whole standing =
    let read = blocks_in image in
    let at = (root_of_image image).inode_index in
    let inside : is_in_area (layout_in image) at ≡ true = standing.sound.pointers.0.0 in
    let low : area_start (layout_in image) ≤ at = grind (arith, nat_tests) in
    spelled_back read at whole (omega (arith, low)) (no_faults (layout_in image) (seen image).met (seen image).met standing.sound.pointers)
