-- The walk over a volume that is spelled meets no fault, and the blocks of each node by its number.
use Rattle.std.proofs.Common.{◌≡◌, ℕ, zero, suc, ◌+◌, ◌*◌, ◌^◌, ◌<◌, ◌≤◌, Bool, true, false, cond, List, [], ◌∷◌, ◌++◌, map, get_or, refl, sym, ap, ◌∙◌, arith, add-zero}
use Rattle.std.specs.Prelude.{◌==◌, ◌&&◌, ◌||◌}
use Rattle.std.specs.List.{list_any, flat_map}
use Rattle.std.proofs.lemmas.List.Concat.{flat_map-cons}
use Rattle.block_format.specs.Words.{words}
use Rattle.block_format.specs.Index.{index_bytes}
use Rattle.block_format.proofs.WordLaws.{words-index_bytes}
use Rattle.block_format.specs.Inode.{blocks_of, pointer_of}
use Rattle.block_format.specs.declared.inode.Inode.{Inode}
use Rattle.block_format.specs.declared.inode.Inode.TheVariants.{Unused, File, Directory}
use Rattle.block_tree.specs.Planned.{pointers_of}
use Rattle.block_tree.specs.Tree.{Blocks, index_at, nonzero, pairs_below, indexes_below, IsFull}
use Rattle.block_tree.proofs.Spell.{pointers_small}
use Rattle.place_words.specs.Different.{span, times, total}
use Rattle.image_model.specs.Met.{Met, index, page, content, not_inode, metas}
use Rattle.image_model.specs.Nodes.{AllBelow, blocks_in_node}
use Rattle.image_model.specs.Planned.{node_trees, used_from, height_in, IsSpelled, CountsStand}
use Rattle.image_model.specs.Seen.{home_in, counts_from}
use Rattle.image_model.specs.Walk.{is_used, is_directory, walk, nodes_at, node_met, root_met, blocks_met}
use Rattle.image_model.proofs.InodeSpelled.{inodes_spelled}
use Rattle.image_model.proofs.NodeWalk.{metas_append}
use Rattle.image_model.proofs.TreeLaws.{entries_good}
use Rattle.image_model.proofs.TreeSpelled.{tree_spelled}

module _ (read : Blocks) (at : ℕ) (inode : ℕ → Inode) (is : IsSpelled read at inode) where
  pub nodes_spelled : nodes_at read at ≡ used_from inode 0 65536
  nodes_spelled = (inodes_spelled inode is.spellings read 0 (index_at read at) is.inodes).1 ∙ ap (λ (n : ℕ). used_from inode 0 (64 * n)) is.count

  -- what is met below each node
  abbrev Tree : Inode → Type 0
  Tree x = IsFull read (indexes_below read (height_in x) (pointer_of x)) × AllBelow (blocks_in_node x) (pairs_below read (height_in x) (pointer_of x))

  one_by : (n : ℕ) (x : Inode) → Tree x → node_met read (n, x) ≡ node_trees read (n, x)
  one_by n Unused tree = refl
  one_by n (File size height ptr) tree = tree_spelled read (content n) (blocks_of size) height ptr tree.0 tree.1
  one_by n (Directory width height ptr) tree = tree_spelled read (page n) (blocks_of (256 * width)) height ptr tree.0 tree.1

  one : (n : ℕ) → node_met read (n, inode n) ≡ node_trees read (n, inode n)
  one n = one_by n (inode n) (is.full n, is.below n)

  trees_spelled : (n m : ℕ) → flat_map (node_met read) (used_from inode n m) ≡ flat_map (node_trees read) (used_from inode n m)
  unfolding used_from
  trees_spelled n zero = refl
  trees_spelled n (suc m) = by (is_used (inode n)) (trees_spelled (n + 1) m)
    where
      by : (t : Bool) → flat_map (node_met read) (used_from inode (n + 1) m) ≡ flat_map (node_trees read) (used_from inode (n + 1) m)
          → flat_map (node_met read) (cond t ((n, inode n) ∷ []) [] ++ used_from inode (n + 1) m) ≡ flat_map (node_trees read) (cond t ((n, inode n) ∷ []) [] ++ used_from inode (n + 1) m)
      by true more = flat_map-cons (node_met read) (n, inode n) (used_from inode (n + 1) m) ∙ (λ i. one n i ++ more i) ∙ sym (flat_map-cons (node_trees read) (n, inode n) (used_from inode (n + 1) m))
      by false more = more

  -- the root is a directory
  used_directory : (x : Inode) → is_directory x ≡ true → is_used x ≡ true
  used_directory Unused d = cc
  used_directory (File size height ptr) d = cc
  used_directory (Directory width height ptr) d = refl

  or_later : (a b : Bool) → b ≡ true → (a || b) ≡ true
  or_later true b e = refl
  or_later false b e = e

  root_from : (n m : ℕ) → n ≤ 1 → 1 < n + m → list_any (λ (node : ℕ × Inode). node.0 == 1 && is_directory node.1) (used_from inode n m) ≡ true
  unfolding used_from
  root_from n zero le lt = absurd (omega (arith, le, lt))
  root_from zero (suc m) le lt = by (is_used (inode 0)) (root_from (0 + 1) m (omega arith) (omega (arith, lt)))
    where
      by : (t : Bool) → list_any (λ (node : ℕ × Inode). node.0 == 1 && is_directory node.1) (used_from inode (0 + 1) m) ≡ true
          → list_any (λ (node : ℕ × Inode). node.0 == 1 && is_directory node.1) (cond t ((0, inode 0) ∷ []) [] ++ used_from inode (0 + 1) m) ≡ true
      by true more = or_later (0 == 1 && is_directory (inode 0)) (list_any (λ (node : ℕ × Inode). node.0 == 1 && is_directory node.1) (used_from inode (0 + 1) m)) more
      by false more = more
  root_from (suc zero) (suc m) le lt =
      (λ i. list_any (λ (node : ℕ × Inode). node.0 == 1 && is_directory node.1) (cond (used_directory (inode 1) is.root i) ((1, inode 1) ∷ []) [] ++ used_from inode (1 + 1) m))
      ∙ (λ i. (is.root i || list_any (λ (node : ℕ × Inode). node.0 == 1 && is_directory node.1) (used_from inode (1 + 1) m)))
  root_from (suc (suc n)) (suc m) le lt = absurd (omega (arith, le))

  pub walk_spelled : walk read at ≡ index at ∷ (map index (nonzero (index_at read at)) ++ flat_map (node_trees read) (used_from inode 0 65536))
  unfolding walk
  walk_spelled =
      let es = index_at read at in
      let blocks : blocks_met read 0 es ≡ [] = (inodes_spelled inode is.spellings read 0 es is.inodes).0 in
      let root : root_met (nodes_at read at) ≡ [] = ap root_met nodes_spelled ∙ ap (λ (t : Bool). cond t [] (not_inode 1 ∷ [])) (root_from 0 65536 (omega arith) (omega arith)) in
      let trees : flat_map (node_met read) (nodes_at read at) ≡ flat_map (node_trees read) (used_from inode 0 65536) = ap (flat_map (node_met read)) nodes_spelled ∙ trees_spelled 0 65536 in
      λ i. index at ∷ (entries_good es i ++ (blocks i ++ (root i ++ trees i)))

-- ---- counts

-- so many numbers stand as they are counted
count_read : (counts : ℕ → ℕ) → ((b : ℕ) → counts b < 2 ^ 32) → (i : ℕ) (bytes : List ℕ) → bytes ≡ index_bytes (pointers_of counts (1024 * i) 1024) → words bytes ≡ pointers_of counts (1024 * i) 1024
count_read counts small i bytes is = ap words is ∙ words-index_bytes (pointers_of counts (1024 * i) 1024) (pointers_small counts small (1024 * i) 1024)

pointers_split : (at : ℕ → ℕ) (place m n : ℕ) → pointers_of at place (m + n) ≡ pointers_of at place m ++ pointers_of at (place + m) n
unfolding pointers_of
pointers_split at place zero n = (let e : zero + n ≡ n = omega arith in let z : place + zero ≡ place = omega arith in λ i. pointers_of at (sym z i) (e i))
pointers_split at place (suc m) n =
    let e : suc m + n ≡ suc (m + n) = omega arith in
    let z : (place + 1) + m ≡ place + suc m = omega arith in
    ap (λ (k : ℕ). pointers_of at place k) e
    ∙ ap (λ (ps : List ℕ). at place ∷ ps) (pointers_split at (place + 1) m n ∙ ap (λ (k : ℕ). pointers_of at (place + 1) m ++ pointers_of at k n) z)

counts_spelled-from : (read : Blocks) (homes : List ℕ) (counts : ℕ → ℕ) → ((b : ℕ) → counts b < 2 ^ 32) → (blocks i n : ℕ) → CountsStand read homes counts blocks → i + n ≤ blocks
    → counts_from read homes i n ≡ pointers_of counts (1024 * i) (1024 * n)
unfolding pointers_of
counts_spelled-from read homes counts small blocks i zero stand le = refl
counts_spelled-from read homes counts small blocks i (suc n) stand le =
    let next : 1024 * (i + 1) ≡ 1024 * i + 1024 = omega arith in
    let whole : 1024 + 1024 * n ≡ 1024 * suc n = omega arith in
    (λ j. count_read counts small i (read (home_in homes i)) (stand i (omega (arith, le))) j ++ counts_spelled-from read homes counts small blocks (i + 1) n stand (omega (arith, le)) j)
    ∙ ap (λ (k : ℕ). pointers_of counts (1024 * i) 1024 ++ pointers_of counts k (1024 * n)) next
    ∙ sym (pointers_split counts (1024 * i) 1024 (1024 * n))
    ∙ ap (pointers_of counts (1024 * i)) whole

pointer_at : (at : ℕ → ℕ) (place n k : ℕ) → k < n → get_or (pointers_of at place n) k 0 ≡ at (place + k)
unfolding pointers_of
pointer_at at place zero k lt = absurd (omega arith)
pointer_at at place (suc n) zero lt = ap at (sym (add-zero place))
pointer_at at place (suc n) (suc k) lt = let e : (place + 1) + k ≡ place + suc k = omega arith in pointer_at at (place + 1) n k (omega (arith, lt)) ∙ ap at e

-- the kept counts are those that stand
pub counts_spelled : (read : Blocks) (homes : List ℕ) (counts : ℕ → ℕ) → ((b : ℕ) → counts b < 2 ^ 32) → (blocks : ℕ) → CountsStand read homes counts blocks
    → (b : ℕ) → b < 1024 * blocks → get_or (counts_from read homes 0 blocks) b 0 ≡ counts b
counts_spelled read homes counts small blocks stand b lt =
    let e : 0 + b ≡ b = omega arith in
    ap (λ (ks : List ℕ). get_or ks b 0) (counts_spelled-from read homes counts small blocks 0 blocks stand (omega arith)) ∙ pointer_at counts 0 (1024 * blocks) b lt ∙ ap counts e

-- ---- pointers by number

pub times_append : (b : ℕ) (xs ys : List ℕ) → times b (xs ++ ys) ≡ times b xs + times b ys
times_append b [] ys = omega arith
times_append b (x ∷ xs) ys = omega (arith, times_append b xs ys)

joined : (read : Blocks) (b : ℕ) (node : ℕ × Inode) (nodes : List (ℕ × Inode)) (k : ℕ) → times b (metas (flat_map (node_trees read) nodes)) ≡ k → times b (metas (flat_map (node_trees read) (node ∷ nodes))) ≡ times b (metas (node_trees read node)) + k
joined read b node nodes k more =
    ap (λ (ms : List Met). times b (metas ms)) (flat_map-cons (node_trees read) node nodes) ∙ ap (times b) (metas_append (node_trees read node) (flat_map (node_trees read) nodes))
    ∙ times_append b (metas (node_trees read node)) (metas (flat_map (node_trees read) nodes)) ∙ ap (λ (n : ℕ). times b (metas (node_trees read node)) + n) more

-- The pointers to metadata of all nodes are those of each number, so a change of one node changes one term.
pub metas_by_number : (read : Blocks) (inode : ℕ → Inode) (b n m : ℕ) → times b (metas (flat_map (node_trees read) (used_from inode n m))) ≡ total (λ k. times b (metas (node_trees read (k, inode k)))) (span n m)
unfolding used_from
metas_by_number read inode b n zero = refl
metas_by_number read inode b n (suc m) = by (inode n) (metas_by_number read inode b (n + 1) m)
  where
    rest : List (ℕ × Inode)
    rest = used_from inode (n + 1) m

    by : (x : Inode) → times b (metas (flat_map (node_trees read) (used_from inode (n + 1) m))) ≡ total (λ k. times b (metas (node_trees read (k, inode k)))) (span (n + 1) m)
        → times b (metas (flat_map (node_trees read) (cond (is_used x) ((n, x) ∷ []) [] ++ used_from inode (n + 1) m))) ≡ times b (metas (node_trees read (n, x))) + total (λ k. times b (metas (node_trees read (k, inode k)))) (span (n + 1) m)
    by Unused more = omega (arith, more)
    by (File size height ptr) more = joined read b (n, File size height ptr) (used_from inode (n + 1) m) _ more
    by (Directory width height ptr) more = joined read b (n, Directory width height ptr) (used_from inode (n + 1) m) _ more
