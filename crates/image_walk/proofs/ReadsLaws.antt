-- How many blocks a walk reads: each index block, inode block and inode index that is met, once.
use Rattle.std.proofs.Common.{◌≡◌, ℕ, suc, ◌+◌, ◌-◌, ◌*◌, ◌<◌, ◌≤◌, Bool, true, false, cond, List, [], ◌∷◌, ◌++◌, length, drop, get_or, refl, sym, ap, subst, ◌∙◌, arith}
use Rattle.std.specs.Prelude.{◌==◌, not, nat_lt, Result, Ok, Err, OnOk}
use Rattle.std.specs.List.{flat_map}
use Rattle.std.proofs.lemmas.List.Sums.{sum_by-append, sum_by-cons, sum_by-drop_more}
use Rattle.std.proofs.lemmas.Bool.Decides.{nat_tests}
use Rattle.vol_numbers.specs.Layout.{Layout}
use Rattle.block_format.specs.Inode.{blocks_of}
use Rattle.block_format.specs.declared.inode.Inode.{Inode}
use Rattle.block_format.specs.declared.inode.Inode.TheVariants.{File, Directory}
use Rattle.block_tree.specs.Tree.{Blocks, index_at}
use Rattle.image_model.specs.Met.{Met, index, page, content, past}
use Rattle.image_model.specs.Walk.{met_at, empty_met, leaf_met, tops_met, leaves_met, tree_met, node_met, entries_met, blocks_met, root_met, nodes_at, walk}
use Rattle.image_walk.specs.declared.reached.Owner.{Owner}
use Rattle.image_walk.specs.Reads.{is_index, metadata_count, pointer_count}
use Rattle.image_walk.specs.Trees.{owner_met, top_met}
use Rattle.image_walk.proofs.NodeLaws.{top_some, tops_next, nodes_next, no_node}

-- what an answer that is passed on says
pub passed_on : {T E : Type 0} (r : Result T E) (X Y : Type 0) → OnOk r X → (X → Y) → OnOk r Y
passed_on (Ok value) X Y x more = more x
passed_on (Err fault) X Y x more = tt

-- ---- counts of lists in parts

pub metadata_first : (m : Met) (ms : List Met) → metadata_count (m ∷ ms) ≡ cond (is_index m) 1 0 + metadata_count ms
metadata_first m ms = sum_by-cons (λ m. cond (is_index m) 1 0) m ms

pub metadata_both : (xs ys : List Met) → metadata_count (xs ++ ys) ≡ metadata_count xs + metadata_count ys
metadata_both xs ys = sum_by-append (λ m. cond (is_index m) 1 0) xs ys

pub pointers_next : (ptrs : List ℕ) (k : ℕ) → k < length ptrs → pointer_count (drop k ptrs) ≡ pointer_count (get_or ptrs k 0 ∷ []) + pointer_count (drop (k + 1) ptrs)
pointers_next ptrs k lt = omega (arith, sum_by-drop_more (λ p. cond (not (p == 0)) 1 0) ptrs k 0 lt)

pub pointer_some : (p : ℕ) → (p ≡ 0 → ⊥) → pointer_count (p ∷ []) ≡ 1
pointer_some p some =
    let is : (p == 0) ≡ false = grind (arith, nat_tests) in
    ap (λ (t : Bool). 0 + cond (not t) 1 0) is

-- ---- pointers to index blocks and inode blocks

pub index_counted : (is_below : Bool) (p : ℕ) → is_below ≡ true → pointer_count (p ∷ []) ≤ metadata_count (met_at index is_below p)
index_counted is_below p is = by (p == 0) is_below is
  where
    by : (t u : Bool) → u ≡ true → 0 + cond (not t) 1 0 ≤ metadata_count (cond t [] (cond u (index p) (past p) ∷ []))
    by true u e = omega arith
    by false true e = omega arith
    by false false e = cc

entries_counted : (es : List ℕ) → pointer_count es ≤ metadata_count (entries_met es)
entries_counted [] = omega arith
entries_counted (e ∷ es) =
    omega (arith, sum_by-cons (λ p. cond (not (p == 0)) 1 0) e es, metadata_both (met_at index true e) (entries_met es), index_counted true e refl, entries_counted es)

-- one pointer of a top index more
pub tops_counted : (blocks k : ℕ) (tops : List ℕ) → k < length tops
    → pointer_count tops + metadata_count (tops_met blocks (1024 * k) (drop k tops)) ≤ metadata_count (tops_met blocks 0 tops) + pointer_count (drop k tops)
    → pointer_count (get_or tops k 0 ∷ []) ≤ metadata_count (met_at index (nat_lt (1024 * k) blocks) (get_or tops k 0))
    → pointer_count tops + metadata_count (tops_met blocks (1024 * (k + 1)) (drop (k + 1) tops)) ≤ metadata_count (tops_met blocks 0 tops) + pointer_count (drop (k + 1) tops)
tops_counted blocks k tops lt before one =
    omega (
      arith,
      before,
      one,
      ap metadata_count (tops_next blocks k tops lt),
      metadata_both (met_at index (nat_lt (1024 * k) blocks) (get_or tops k 0)) (tops_met blocks (1024 * (k + 1)) (drop (k + 1) tops)),
      pointers_next tops k lt,
    )

-- ---- trees

-- the leaves of a top index are met in it
pub top_counted : (g : Layout) (read : Blocks) (o : Owner) (b : ℕ) (tops : List ℕ) → (b ≡ 0 → ⊥) → index_at read b ≡ tops → metadata_count (tops_met o.blocks 0 tops) ≤ metadata_count (top_met read o b)
top_counted g read o b tops some e =
    omega (
      arith,
      ap metadata_count (top_some g o read b tops some e),
      metadata_both (empty_met b tops) (tops_met o.blocks 0 tops ++ leaves_met read (owner_met o) o.blocks 0 tops),
      metadata_both (tops_met o.blocks 0 tops) (leaves_met read (owner_met o) o.blocks 0 tops),
    )

pub leaf_counted : (read : Blocks) (o : Owner) (height ptr : ℕ) → height ≡ 1 → metadata_count (met_at index (nat_lt 0 o.blocks) ptr) ≤ metadata_count (tree_met read (owner_met o) o.blocks height ptr)
leaf_counted read o height ptr one =
    subst (λ (h : ℕ). metadata_count (met_at index (nat_lt 0 o.blocks) ptr) ≤ metadata_count (tree_met read (owner_met o) o.blocks h ptr)) (sym one)
    (omega (arith, metadata_both (met_at index (nat_lt 0 o.blocks) ptr) (leaf_met read (owner_met o) o.blocks 0 ptr)))

pub tree_counted : (read : Blocks) (o : Owner) (height ptr : ℕ) → (height ≡ 0 → ⊥) → (height ≡ 1 → ⊥)
    → metadata_count (met_at index (nat_lt 0 o.blocks) ptr) + metadata_count (top_met read o ptr) ≤ metadata_count (tree_met read (owner_met o) o.blocks height ptr)
tree_counted read o height ptr not_zero not_one =
    let e : suc (suc (height - 2)) ≡ height = omega (arith, not_zero, not_one) in
    subst (λ (h : ℕ). metadata_count (met_at index (nat_lt 0 o.blocks) ptr) + metadata_count (top_met read o ptr) ≤ metadata_count (tree_met read (owner_met o) o.blocks h ptr)) e
    (omega (arith, metadata_both (met_at index (nat_lt 0 o.blocks) ptr) (top_met read o ptr)))

pub file_met : (read : Blocks) (node : ℕ × Inode) (size height ptr blocks : ℕ) → node.1 ≡ File size height ptr → blocks ≡ blocks_of size → tree_met read (content node.0) blocks height ptr ≡ node_met read node
file_met read node size height ptr blocks is many =
    ap (λ (n : ℕ). tree_met read (content node.0) n height ptr) many ∙ ap (λ (x : Inode). node_met read (node.0, x)) (sym is)

pub directory_met : (read : Blocks) (node : ℕ × Inode) (width height ptr blocks : ℕ) → node.1 ≡ Directory width height ptr → blocks ≡ blocks_of (256 * width) → tree_met read (page node.0) blocks height ptr ≡ node_met read node
directory_met read node width height ptr blocks is many =
    ap (λ (n : ℕ). tree_met read (page node.0) n height ptr) many ∙ ap (λ (x : Inode). node_met read (node.0, x)) (sym is)

pub nodes_counted : (read : Blocks) (nodes : List (ℕ × Inode)) (i : ℕ) → i < length nodes
    → metadata_count (flat_map (node_met read) (drop i nodes)) ≡ metadata_count (node_met read (get_or nodes i no_node)) + metadata_count (flat_map (node_met read) (drop (i + 1) nodes))
nodes_counted read nodes i lt = ap metadata_count (nodes_next read nodes i lt) ∙ metadata_both (node_met read (get_or nodes i no_node)) (flat_map (node_met read) (drop (i + 1) nodes))

-- ---- the walk as a whole

pub walk_counted : (read : Blocks) (at : ℕ) (es : List ℕ) (nodes : List (ℕ × Inode)) → index_at read at ≡ es → nodes ≡ nodes_at read at
    → 1 + pointer_count es + metadata_count (flat_map (node_met read) nodes) ≤ metadata_count (walk read at)
unfolding walk
walk_counted read at es nodes entries are =
    let xs = index_at read at in
    let ns = nodes_at read at in
    let trees = flat_map (node_met read) ns in
    omega (
      arith,
      ap pointer_count entries,
      ap (λ (ns : List (ℕ × Inode)). metadata_count (flat_map (node_met read) ns)) are,
      entries_counted xs,
      metadata_first (index at) (entries_met xs ++ (blocks_met read 0 xs ++ (root_met ns ++ trees))),
      metadata_both (entries_met xs) (blocks_met read 0 xs ++ (root_met ns ++ trees)),
      metadata_both (blocks_met read 0 xs) (root_met ns ++ trees),
      metadata_both (root_met ns) trees,
    )
